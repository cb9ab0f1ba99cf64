use Rattle.std.proofs.Common.{◌≡◌, ◌-◌, List, Some, None, length, slice_get, refl, sym, ap, ◌∙◌}
use Rattle.std.proofs.lemmas.Option.{slice_get_read, slice_get_past}
use Rattle.std.proofs.lemmas.Result.{IfOk-weaker}
use Rattle.s3r_lines.specs.declared.object.ObjectRef.{ObjectRef}
use Rattle.s3r_jobs.specs.Any.{facts}
use Rattle.s3r_jobs.specs.Jobs.{JobsFacts, find_job}
use Rattle.s3r_jobs.specs.declared.spec.JobSpec.{JobSpec}
use Rattle.s3r_history.specs.JobLines.{line_outcome}
use Rattle.s3r_region.specs.After.{seen}
use Rattle.s3r_region.proofs.FoundJobs.{line-none, line-some, outcome_at}
use Rattle.s3r_region.proofs.state.State.outcome_of_line.Goals as goal

pub returns-in_default : goal.returns-in_default
returns-in_default c h a =
    sym (line-none c.args.self.now h c.args.job c.args.line a
    (ap (λ (js : JobsFacts). find_job c.args.job js) (sym c.jobs.ensures) ∙ sym c.in_default.ensures))

pub returns-in-Some-get : goal.returns-in-Some-get
returns-in-Some-get c =
    let s = c.args.self.now in
    let job = facts c.in-Some.job.now in
    let found : find_job c.args.job s.jobs.jobs ≡ Some job = ap (λ (js : JobsFacts). find_job c.args.job js) (sym c.jobs.ensures) ∙ sym c.in-Some.ensures in
    let got : slice_get job.lines (c.args.line - 1) ≡ Some c.in-Some-get.object.now =
    ap (λ (lines : List ObjectRef). slice_get lines (c.args.line - 1)) (sym c.lines.ensures)
    ∙ slice_get_read c.lines.result.now (length c.lines.result.now) (c.args.line - 1) c.in-Some-get.object.now refl c.in-Some-get.ensures.lookup.3.0
    c.in-Some-get.ensures.lookup.1 in
    IfOk-weaker c.outcome_on.result _ _
    (λ outcome is h a. is
    ∙ ap (λ (spec : JobSpec). line_outcome spec.operation c.in-Some-get.object.now (seen s c.in-Some-get.object.now.bucket)) c.spec.ensures
    ∙ sym (line-some s h c.args.job c.args.line job a found ∙ ap (outcome_at s job) got))
    c.outcome_on.ensures

pub returns-in-None : goal.returns-in-None
returns-in-None c h a =
    let s = c.args.self.now in
    let job = facts c.in-Some.job.now in
    let found : find_job c.args.job s.jobs.jobs ≡ Some job = ap (λ (js : JobsFacts). find_job c.args.job js) (sym c.jobs.ensures) ∙ sym c.in-Some.ensures in
    let none : slice_get job.lines (c.args.line - 1) ≡ None =
    ap (λ (lines : List ObjectRef). slice_get lines (c.args.line - 1)) (sym c.lines.ensures)
    ∙ slice_get_past c.lines.result.now (c.args.line - 1) c.in-None.ensures.lookup.3 in
    sym (line-some s h c.args.job c.args.line job a found ∙ ap (outcome_at s job) none)
