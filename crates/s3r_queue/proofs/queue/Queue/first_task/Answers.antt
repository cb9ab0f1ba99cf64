use Rattle.std.proofs.Common.{find, sym, ap, ◌∙◌}
use Rattle.s3r_queue.specs.Tasks.{waits}
use Rattle.s3r_queue.proofs.InTurn.{at-place, place-below, here-found}
use Rattle.s3r_queue.proofs.queue.Queue.first_task.Goals as goal

pub index-requires : goal.index-requires
index-requires g c =
    let queue = c.self.inside in
    let at = at-place queue.tasks.items c.args.self.now queue.settled c.self.view_is c.self.invariant.0 c.requires c.self.invariant.1 in
    place-below queue.tasks.items queue.settled queue.tasks.len at queue.tasks.ok.0

pub returns : goal.returns
returns g c =
    let queue = c.self.inside in
    let at = at-place queue.tasks.items c.args.self.now queue.settled c.self.view_is c.self.invariant.0 c.requires c.self.invariant.1 in
    ap (find waits) (sym c.self.view_is) ∙ (here-found queue.tasks.items queue.settled c.index.result.now at c.index.ensures).1
