use Rattle.std.proofs.Common.{true, false, cond, Some, None, ap, ◌∙◌}
use Rattle.std.specs.List.{list_any}
use Rattle.s3r_queue.specs.Tasks.{waits, first_of}
use Rattle.s3r_queue.proofs.InTurn.{first-answer, is-less, is-not-less}
use Rattle.s3r_queue.proofs.queue.Queue.first.Goals as goal

pub returns-then-self-len : goal.returns-then-self-len
returns-then-self-len g c =
    let queue = c.self.inside in
    let less = is-less queue.settled c.len.result queue.tasks.items (c.len.ensures ∙ queue.tasks.ok.0) c.if-self-len.true in
    first-answer queue.tasks.items queue.settled true c.self.invariant.0 c.self.invariant.1 less
    ∙ ap (λ tasks. cond (list_any waits tasks) (Some (first_of tasks)) None) c.self.view_is

pub returns-else-self-len : goal.returns-else-self-len
returns-else-self-len g c =
    let queue = c.self.inside in
    let less = is-not-less queue.settled c.len.result queue.tasks.items (c.len.ensures ∙ queue.tasks.ok.0) c.if-self-len.false in
    first-answer queue.tasks.items queue.settled false c.self.invariant.0 c.self.invariant.1 less
    ∙ ap (λ tasks. cond (list_any waits tasks) (Some (first_of tasks)) None) c.self.view_is
