use Rattle.std.proofs.Common.{sym, ◌∙◌, ap, ap₂}
use Rattle.s3r_jobs.specs.Jobs.{token_job}
use Rattle.s3r_region.specs.After.{seen}
use Rattle.s3r_desk.specs.Lookups.{seen_location}
use Rattle.s3r_desk.specs.Steps.{new_job, unless_made}
use Rattle.s3r_desk.proofs.NewJobs.{made_before, none_before}
use Rattle.s3r_desk.proofs.job.new_job.Goals as goal

pub returns-in-Some-clause-planned : goal.returns-in-Some-clause-planned
returns-in-Some-clause-planned c =
    let spec = c.args.spec.now in
    let r = c.args.location.region in
    let plan = new_job (seen c.args.state.now) spec (seen_location c.args.location) in
    made_before _ plan r c.in-Some.index c.in-Some.made.now spec (token_job c.as_str.result.now c.jobs.result.now) (sym c.in-Some.ensures.there)
    c.in-Some.ensures.job c.job_again.ensures.planned
    ∙ ap (unless_made plan r spec) (ap₂ token_job c.as_str.ensures c.jobs.ensures)

pub returns-in-Some-clause-fits : goal.returns-in-Some-clause-fits
returns-in-Some-clause-fits c = λ n within. c.job_again.ensures.fits n

pub returns-in-Some-not_taken-clause-planned : goal.returns-in-Some-not_taken-clause-planned
returns-in-Some-not_taken-clause-planned c =
    let spec = c.args.spec.now in
    let h = seen_location c.args.location in
    let plan = new_job (seen c.args.state.now) spec h in
    sym (c.in-Some-not_taken.ensures h)
    ∙ none_before plan h.region spec (token_job c.as_str.result.now c.jobs.result.now) (sym c.in_default.ensures.there)
    ∙ ap (unless_made plan h.region spec) (ap₂ token_job c.as_str.ensures c.jobs.ensures)

pub returns-in-None-clause-planned : goal.returns-in-None-clause-planned
returns-in-None-clause-planned c =
    let spec = c.args.spec.now in
    let h = seen_location c.args.location in
    let plan = new_job (seen c.args.state.now) spec h in
    c.over_manifest.ensures.planned
    ∙ sym (c.in-None.ensures h)
    ∙ none_before plan h.region spec (token_job c.as_str.result.now c.jobs.result.now) (sym c.in_default.ensures.there)
    ∙ ap (unless_made plan h.region spec) (ap₂ token_job c.as_str.ensures c.jobs.ensures)
