use Rattle.s3r_jobs.proofs.SameLemmas.{same-equal}
use Rattle.s3r_jobs.proofs.spec.JobSpec.same.Goals as goal

pub returns : goal.returns
returns c = same-equal c.args.self.now c.args.other.now c.same_spec.result c.same_spec.ensures
