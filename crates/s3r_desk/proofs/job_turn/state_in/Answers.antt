use Rattle.std.proofs.Common.{ap, ◌∙◌}
use Rattle.s3r_jobs.specs.Jobs.{find_job}
use Rattle.s3r_desk.specs.JobTurns.{state_or_new}
use Rattle.s3r_desk.proofs.StoreJobs.{state_is}
use Rattle.s3r_desk.proofs.job_turn.state_in.Goals as goal

pub returns : goal.returns
returns c = λ h after.
    c.state_or_new.ensures ∙ ap state_or_new (c.find.ensures ∙ ap (find_job c.args.job) c.jobs.ensures)
    ∙ state_is c.args.store.now c.in-Some.state.now c.in-Some.ensures c.args.job h after
