use Rattle.std.proofs.Common.{◌≡◌, ◌&&◌, Some, refl, sym, ap, ◌∙◌, subst}
use Rattle.std.proofs.lemmas.Bool.{and_parts}
use Rattle.s3r_jobs.specs.Any.{facts}
use Rattle.s3r_jobs.specs.Facts.{JobFacts}
use Rattle.s3r_jobs.specs.Jobs.{find_job, given_back}
use Rattle.s3r_record.specs.declared.command.Command.TheVariants as command
use Rattle.s3r_history.specs.Deeds.{deeds}
use Rattle.s3r_history.specs.Jobs.{jobs_at}
use Rattle.s3r_region.specs.KeptJobs.{KeptJobs, IsAfter}
use Rattle.s3r_region.proofs.KeptJobs.{one-changed}
use Rattle.s3r_history.specs.Accepts.{has_move, leaves_one, wanted_by, of_move}
use Rattle.s3r_history.specs.JobSteps.{move_to}
use Rattle.s3r_history.proofs.JobSteps.{jobs-move}
use Rattle.s3r_region.proofs.region_jobs.RegionJobs.move_to.Goals as goal

pub returns-in-Some : goal.returns-in-Some
returns-in-Some c n r h accepted a =
    let old : KeptJobs = record { jobs = c.self.inside.jobs; manifests = c.self.inside.manifests.items } in
    let before : IsAfter r old h = subst (λ (k : KeptJobs). IsAfter r k h) (sym c.self.view_is) a in
    let found : find_job c.args.id c.self.inside.jobs ≡ Some (facts c.in-Some.job) = sym c.in-Some.ensures.job in
    let all = jobs_at (deeds r h) in
    one-changed r h (command.MoveJob c.args.id c.args.to) old c.give_back.new.self c.args.id (move_to c.args.to) (facts c.in-Some.job) (facts c.moved.result)
    (of_move all c.args.to) (λ (job : JobFacts). has_move job c.args.to && leaves_one all c.args.to) (wanted_by c.args.to) before (λ x. refl)
    (jobs-move r h c.args.id c.args.to) refl found accepted refl
    (λ may. c.moved.ensures (and_parts (has_move (facts c.in-Some.job) c.args.to) _ may).0)
    (c.give_back.ensures ∙ ap (given_back (facts c.moved.result)) c.in-Some.ensures.rest)
