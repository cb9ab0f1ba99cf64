use Rattle.std.proofs.Common.{◌+◌, arith, ap}
use Rattle.s3r_record.specs.declared.command.Command.TheVariants as command
use Rattle.s3r_region.proofs.Given.{are-more}
use Rattle.s3r_region.proofs.AboutJobs.{job-applied, about-create}
use Rattle.s3r_region.proofs.state.State.add_job.Goals as goal

pub invariant_of-self-2 : goal.invariant_of-self-2
invariant_of-self-2 c = (
  c.self.invariant.0,
  are-more c.self.inside.region c.self.inside.commands (c.self.inside.commands + 1) c.self.inside.buckets.items (omega arith) c.self.invariant.1,
)

pub returns : goal.returns
returns c =
    job-applied c.self.inside.region c.self.inside.commands c.self.inside.clock c.self.inside.buckets.items c.self.inside.queues c.self.inside.jobs
    c.create.new.self
    c.args.self.now (command.CreateJob c.args.spec c.args.manifest) c.self.view_is
    (λ h. about-create c.self.inside.region h c.args.spec c.args.manifest)
    (λ h a ok. c.in_ok-create.ensures c.self.inside.region h (ap (λ n. n + 1) a.commands) a.jobs)
