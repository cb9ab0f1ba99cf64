use Rattle.std.proofs.Common.{◌≡◌, ◌↔◌, Bool, subst}
use Rattle.std.specs.Prelude.{IsTrue}
use Rattle.s3r_desk.proofs.NewJobs.{again_is}
use Rattle.s3r_desk.proofs.job.job_again.Goals as goal

pub returns-then-same-clause-planned : goal.returns-then-same-clause-planned
returns-then-same-clause-planned c = again_is c.args.region c.args.index c.args.made.now c.args.spec.now _
    (subst (λ (t : Bool). IsTrue t ↔ (c.args.made.now ≡ c.args.spec.now)) c.if-same.true c.same.ensures)

pub returns-else-same-clause-planned : goal.returns-else-same-clause-planned
returns-else-same-clause-planned c = again_is c.args.region c.args.index c.args.made.now c.args.spec.now _
    (subst (λ (t : Bool). IsTrue t ↔ (c.args.made.now ≡ c.args.spec.now)) c.if-same.false c.same.ensures)
