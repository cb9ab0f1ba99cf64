use Rattle.std.proofs.Common.{◌+◌, arith}
use Rattle.s3r_record.specs.declared.command.Command.TheVariants as command
use Rattle.s3r_region.proofs.Given.{are-more}
use Rattle.s3r_region.proofs.AboutJobs.{job-applied, about-priority}
use Rattle.s3r_region.proofs.state.State.set_priority.Goals as goal

pub invariant_of-self : goal.invariant_of-self
invariant_of-self c = (
  c.self.invariant.0,
  are-more c.self.inside.region c.self.inside.commands (c.self.inside.commands + 1) c.self.inside.buckets.items (omega arith) c.self.invariant.1,
)

pub returns : goal.returns
returns c =
    job-applied c.self.inside.region c.self.inside.commands c.self.inside.clock c.self.inside.buckets.items c.self.inside.queues c.self.inside.jobs
    c.set_priority.new.self
    c.args.self.now (command.SetPriority c.args.job c.args.priority) c.self.view_is (λ h. about-priority c.self.inside.region h c.args.job c.args.priority)
    (λ h a ok. c.set_priority.ensures c.self.inside.queues.regions c.self.inside.region h ok a.jobs)
