use Rattle.std.proofs.Common.{◌+◌, sym, ap, ◌∙◌}
use Rattle.s3r_queue.specs.Tasks.{first_of}
use Rattle.s3r_queue.proofs.InTurn.{first-settled}
use Rattle.s3r_queue.proofs.queue.Queue.counts.Goals as goal

pub returns-clause-first : goal.returns-clause-first
returns-clause-first g c =
    ap first_of (sym c.self.view_is)
    ∙ first-settled c.self.inside.tasks.items c.self.invariant.0
    ∙ ap (λ n. n + 1) (sym c.self.invariant.1)
