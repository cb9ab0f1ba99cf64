use Rattle.std.proofs.Common.{sym, ◌∙◌, ap, arith}
use Rattle.s3r_jobs.specs.Jobs.{JobsFacts}
use Rattle.s3r_jobs.specs.Turn.{next_step}
use Rattle.s3r_desk.proofs.StoreJobs.{step_is, next_accepted, next_fits}
use Rattle.s3r_desk.proofs.job_turn.next_step.Goals as goal

pub returns-clause-step : goal.returns-clause-step
returns-clause-step c = λ h after.
    step_is c.args.store.now c.in-Some.state.now c.in-Some.ensures h after
    ∙ sym (c.next_job.ensures ∙ ap (λ (jobs : JobsFacts). next_step jobs.live) c.jobs.ensures)

pub returns-clause-accepted : goal.returns-clause-accepted
returns-clause-accepted c = next_accepted c.args.store.now c.in-Some.state.now c.in-Some.ensures c.requires c.next_job.result
    (sym (c.next_job.ensures ∙ ap (λ (jobs : JobsFacts). next_step jobs.live) c.jobs.ensures)) c.steps_are_accepted.ensures.accepted

pub returns-clause-fits : goal.returns-clause-fits
returns-clause-fits c = next_fits c.args.store.now c.in-Some.state.now c.in-Some.ensures c.requires c.next_job.result
    (sym (c.next_job.ensures ∙ ap (λ (jobs : JobsFacts). next_step jobs.live) c.jobs.ensures))
    (omega (arith, c.commands-commands.ensures)) c.steps_are_accepted.ensures.limits
