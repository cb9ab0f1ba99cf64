use Rattle.std.proofs.Common.{◌≡◌, ◌+◌, ◌==◌, ◌&&◌, Option, Some, None, length, refl, sym, ap, ◌∙◌, subst}
use Rattle.std.proofs.lemmas.Bool.{and_parts}
use Rattle.s3r_jobs.specs.Any.{facts}
use Rattle.s3r_jobs.specs.Facts.{JobFacts}
use Rattle.s3r_jobs.specs.Jobs.{find_job, given_back}
use Rattle.s3r_record.specs.declared.command.Command.TheVariants as command
use Rattle.s3r_history.specs.Deeds.{deeds, deed}
use Rattle.s3r_region.specs.KeptJobs.{KeptJobs, IsAfter}
use Rattle.s3r_region.proofs.KeptJobs.{one-changed}
use Rattle.s3r_jobs.specs.declared.fault.Wanted.TheVariants as wanted
use Rattle.s3r_jobs.specs.declared.result.LineResult.{LineResult}
use Rattle.s3r_jobs.specs.Lines.{may_start}
use Rattle.s3r_history.specs.Accepts.{of_line}
use Rattle.s3r_history.specs.JobSteps.{did_line}
use Rattle.s3r_history.proofs.JobSteps.{jobs-line}
use Rattle.s3r_region.proofs.region_jobs.RegionJobs.go_on.Goals as goal

pub returns-in-Some : goal.returns-in-Some
returns-in-Some c n r line h accepted came a =
    let old : KeptJobs = record { jobs = c.self.inside.jobs; manifests = c.self.inside.manifests.items } in
    let before : IsAfter r old h = subst (λ (k : KeptJobs). IsAfter r k h) (sym c.self.view_is) a in
    let found : find_job c.args.id c.self.inside.jobs ≡ Some (facts c.in-Some.job) = sym c.in-Some.ensures.job in
    let result = (deed r h (deeds r h) (command.Line c.args.id line)).result in
    one-changed r h (command.Line c.args.id line) old c.give_back.new.self c.args.id (did_line result) (facts c.in-Some.job) (facts c.went_on.result)
    (of_line line) (λ (j : JobFacts). may_start j && (line == length j.results + 1)) wanted.Line before
    (kept_id result) (jobs-line r h c.args.id line) refl found accepted refl
    (λ may. c.went_on.ensures (and_parts (may_start (facts c.in-Some.job)) _ may).0
    ∙ sym (ap (λ (o : Option LineResult). did_line o (facts c.in-Some.job)) came))
    (c.give_back.ensures ∙ ap (given_back (facts c.went_on.result)) c.in-Some.ensures.rest)
  where
    kept_id : (o : Option LineResult) (x : JobFacts) → (did_line o x).id ≡ x.id
    kept_id None x = refl
    kept_id (Some result) x = refl
