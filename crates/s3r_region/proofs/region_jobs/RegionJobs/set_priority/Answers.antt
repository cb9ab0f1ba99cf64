use Rattle.std.proofs.Common.{◌≡◌, cond, not, Some, refl, sym, ap, ◌∙◌, subst}
use Rattle.std.proofs.lemmas.Bool.{not-true}
use Rattle.s3r_jobs.specs.Any.{facts}
use Rattle.s3r_jobs.specs.Facts.{JobFacts}
use Rattle.s3r_jobs.specs.Jobs.{find_job, given_back}
use Rattle.s3r_record.specs.declared.command.Command.TheVariants as command
use Rattle.s3r_region.specs.KeptJobs.{KeptJobs, IsAfter}
use Rattle.s3r_region.proofs.KeptJobs.{one-changed}
use Rattle.s3r_jobs.specs.declared.fault.Wanted.TheVariants as wanted
use Rattle.s3r_jobs.specs.States.{has_ended}
use Rattle.s3r_history.specs.Accepts.{of_priority}
use Rattle.s3r_history.specs.JobSteps.{set_priority}
use Rattle.s3r_history.proofs.JobSteps.{jobs-priority}
use Rattle.s3r_region.proofs.region_jobs.RegionJobs.set_priority.Goals as goal

pub returns-in-Some : goal.returns-in-Some
returns-in-Some c n r h accepted a =
    let old : KeptJobs = record { jobs = c.self.inside.jobs; manifests = c.self.inside.manifests.items } in
    let before : IsAfter r old h = subst (λ (k : KeptJobs). IsAfter r k h) (sym c.self.view_is) a in
    let found : find_job c.args.id c.self.inside.jobs ≡ Some (facts c.in-Some.job) = sym c.in-Some.ensures.job in
    let job = facts c.in-Some.job in
    one-changed r h (command.SetPriority c.args.id c.args.priority) old c.give_back.new.self c.args.id (set_priority c.args.priority) job
    (facts c.set_priority.new.self) of_priority (λ (j : JobFacts). not (has_ended j.state)) wanted.Priority before (λ x. refl)
    (jobs-priority r h c.args.id c.args.priority) refl found accepted refl
    (λ may. c.set_priority.ensures.job ∙ ap (λ t. cond t job (set_priority c.args.priority job)) (not-true _ may))
    (c.give_back.ensures ∙ ap (given_back (facts c.set_priority.new.self)) c.in-Some.ensures.rest)
