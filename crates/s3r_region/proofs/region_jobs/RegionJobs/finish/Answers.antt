use Rattle.std.proofs.Common.{◌≡◌, ◌&&◌, ◌||◌, is_none, Some, refl, sym, ap, ◌∙◌, subst}
use Rattle.std.proofs.lemmas.Bool.{and_parts}
use Rattle.s3r_jobs.specs.Any.{facts}
use Rattle.s3r_jobs.specs.Facts.{JobFacts}
use Rattle.s3r_jobs.specs.Jobs.{find_job, given_back}
use Rattle.s3r_record.specs.declared.command.Command.TheVariants as command
use Rattle.s3r_region.specs.KeptJobs.{KeptJobs, IsAfter}
use Rattle.s3r_region.proofs.KeptJobs.{one-changed}
use Rattle.s3r_jobs.specs.declared.fault.Wanted.TheVariants as wanted
use Rattle.s3r_jobs.specs.Moves.{is_done}
use Rattle.s3r_jobs.specs.States.{is_stopping}
use Rattle.s3r_history.specs.Accepts.{of_finish}
use Rattle.s3r_history.specs.JobSteps.{finish}
use Rattle.s3r_history.proofs.JobSteps.{jobs-finish}
use Rattle.s3r_region.proofs.region_jobs.RegionJobs.finish.Goals as goal

pub returns-in-Some : goal.returns-in-Some
returns-in-Some c n r h body accepted a =
    let old : KeptJobs = record { jobs = c.self.inside.jobs; manifests = c.self.inside.manifests.items } in
    let before : IsAfter r old h = subst (λ (k : KeptJobs). IsAfter r k h) (sym c.self.view_is) a in
    let found : find_job c.args.id c.self.inside.jobs ≡ Some (facts c.in-Some.job) = sym c.in-Some.ensures.job in
    one-changed r h (command.Finish c.args.id body) old c.give_back.new.self c.args.id finish (facts c.in-Some.job) (facts c.finished.result)
    (of_finish body) (λ (j : JobFacts). (is_done j || is_stopping j.state) && is_none body) wanted.Finish before (λ x. refl)
    (jobs-finish r h c.args.id body) refl found accepted refl
    (λ may. c.finished.ensures (and_parts (is_done (facts c.in-Some.job) || is_stopping (facts c.in-Some.job).state) _ may).0)
    (c.give_back.ensures ∙ ap (given_back (facts c.finished.result)) c.in-Some.ensures.rest)
