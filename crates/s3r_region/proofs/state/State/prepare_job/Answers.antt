use Rattle.std.proofs.Common.{◌≡◌, ◌+◌, Some, None, arith, sym, subst}
use Rattle.s3r_record.specs.declared.command.Command.TheVariants as command
use Rattle.s3r_history.specs.Words.{History}
use Rattle.s3r_history.specs.Deeds.{deeds, deed}
use Rattle.s3r_history.specs.Accepts.{refusal}
use Rattle.s3r_region.specs.Contents.{Contents}
use Rattle.s3r_region.specs.After.{IsAfter}
use Rattle.s3r_region.proofs.Given.{are-more}
use Rattle.s3r_region.proofs.AboutJobs.{job-applied, about-prepare}
use Rattle.s3r_region.proofs.state.State.prepare_job.Goals as goal

pub invariant_of-self-2 : goal.invariant_of-self-2
invariant_of-self-2 c = (
  c.self.invariant.0,
  are-more c.self.inside.region c.self.inside.commands (c.self.inside.commands + 1) c.self.inside.buckets.items (omega arith) c.self.invariant.1,
)

pub returns : goal.returns
returns c =
    let reads = subst (λ (s : Contents). (h : History) → IsAfter s h → refusal s.regions s.region h (command.Prepare c.args.job) ≡ None
    → (deed s.region h (deeds s.region h) (command.Prepare c.args.job)).read ≡ Some c.args.lines) (sym c.self.view_is) c.requires.read in
    job-applied c.self.inside.region c.self.inside.commands c.self.inside.clock c.self.inside.buckets.items c.self.inside.queues c.self.inside.jobs
    c.prepare.new.self
    c.args.self.now (command.Prepare c.args.job) c.self.view_is (λ h. about-prepare c.self.inside.region h c.args.job)
    (λ h a ok. c.in_ok-prepare.ensures c.self.inside.queues.regions c.self.inside.region h ok (reads h a ok) a.jobs)
