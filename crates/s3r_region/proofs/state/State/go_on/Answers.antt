use Rattle.std.proofs.Common.{sym, subst}
use Rattle.s3r_region.specs.Contents.{Contents}
use Rattle.s3r_region.specs.KeptJobs as jobs
use Rattle.s3r_region.proofs.state.State.go_on.Goals as goal

pub returns-clause-after : goal.returns-clause-after
returns-clause-after c n r line h accepted came a =
    c.go_on.ensures n r line h accepted came (subst (λ (s : Contents). jobs.IsAfter r s.jobs h) (sym c.self.view_is) a)
