-- What is known of a job in whatever stage.
use Rattle.std.specs.Prelude.{Bool}
use Rattle.s3r_jobs.specs.declared.any.AnyJob.{AnyJob}
use Rattle.s3r_jobs.specs.declared.any.AnyJob.TheVariants as any
use Rattle.s3r_jobs.specs.States.{is_unprepared, is_prepared, is_under_way, is_stopping, has_ended}
use Rattle.s3r_jobs.specs.Facts.{JobFacts}

abbrev pub facts : AnyJob → JobFacts
facts (any.New job) = job
facts (any.Prepared job) = job
facts (any.Running job) = job
facts (any.Stopping job) = job
facts (any.Ended job) = job

-- whether its state is one of its stage
abbrev pub in_stage : AnyJob → Bool
in_stage (any.New job) = is_unprepared job.state
in_stage (any.Prepared job) = is_prepared job.state
in_stage (any.Running job) = is_under_way job.state
in_stage (any.Stopping job) = is_stopping job.state
in_stage (any.Ended job) = has_ended job.state
