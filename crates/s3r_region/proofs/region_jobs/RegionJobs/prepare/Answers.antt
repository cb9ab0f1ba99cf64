use Rattle.std.proofs.Common.{◌≡◌, Option, Some, None, Ok, Err, refl, sym, ap, ◌∙◌, subst}
use Rattle.s3r_jobs.specs.Any.{facts}
use Rattle.s3r_jobs.specs.Facts.{JobFacts}
use Rattle.s3r_jobs.specs.Jobs.{find_job, given_back}
use Rattle.s3r_record.specs.declared.command.Command.TheVariants as command
use Rattle.s3r_history.specs.Deeds.{deeds, deed}
use Rattle.s3r_region.specs.KeptJobs.{KeptJobs, IsAfter}
use Rattle.s3r_region.proofs.KeptJobs.{one-changed}
use Rattle.s3r_jobs.specs.declared.fault.Wanted.TheVariants as wanted
use Rattle.s3r_jobs.specs.States.{is_preparing}
use Rattle.s3r_history.specs.Accepts.{of_preparing}
use Rattle.s3r_history.specs.Past.{ReadLines}
use Rattle.s3r_history.specs.JobSteps.{read_lines}
use Rattle.s3r_history.proofs.JobSteps.{jobs-prepare}
use Rattle.s3r_region.proofs.region_jobs.RegionJobs.prepare.Goals as goal

pub returns-in_ok-job : goal.returns-in_ok-job
returns-in_ok-job c n r h accepted reads a =
    let old : KeptJobs = record { jobs = c.self.inside.jobs; manifests = c.self.inside.manifests.items } in
    let before : IsAfter r old h = subst (λ (k : KeptJobs). IsAfter r k h) (sym c.self.view_is) a in
    let found : find_job c.args.id c.self.inside.jobs ≡ Some (facts c.in-Some.job) = sym c.in-Some.ensures.job in
    let keeps : (read : Option ReadLines) (x : JobFacts) → (read_lines read x).id ≡ x.id = kept_id in
    one-changed r h (command.Prepare c.args.id) old c.give_back.new.self c.args.id (read_lines (deed r h (deeds r h) (command.Prepare c.args.id)).read)
    (facts c.in-Some.job) (facts c.in_ok-job.job) of_preparing (λ (j : JobFacts). is_preparing j.state) wanted.Prepare before
    (keeps (deed r h (deeds r h) (command.Prepare c.args.id)).read) (jobs-prepare r h c.args.id) refl found accepted refl
    (λ may. c.in_ok-job.ensures may ∙ sym (ap (λ (read : Option ReadLines). read_lines read (facts c.in-Some.job)) reads))
    (c.give_back.ensures ∙ ap (given_back (facts c.in_ok-job.job)) c.in-Some.ensures.rest)
  where
    kept_id : (read : Option ReadLines) (x : JobFacts) → (read_lines read x).id ≡ x.id
    kept_id None x = refl
    kept_id (Some (Ok lines)) x = refl
    kept_id (Some (Err why)) x = refl
