-- What comes next among the jobs of a region.
use Rattle.std.specs.Prelude.{ℕ, Option, None}
use Rattle.s3r_jobs.specs.declared.turn.NextStep.{NextStep}
use Rattle.s3r_jobs.specs.declared.turn.NextStep.TheVariants as steps
use Rattle.s3r_jobs.specs.Turn.{next_step}
use Rattle.s3r_record.specs.declared.command.Command.{Command}
use Rattle.s3r_record.specs.declared.command.Command.TheVariants as command
use Rattle.s3r_history.specs.Words.{History}
use Rattle.s3r_history.specs.Deeds.{deeds}
use Rattle.s3r_history.specs.Jobs.{jobs_at}

-- the next step after the history h of region r
abbrev pub step_after : ℕ → History → Option NextStep
step_after r h = next_step (jobs_at (deeds r h)).live

-- the command that makes a step; no job has a report yet
abbrev pub command_of : NextStep → Command
command_of (steps.Finish job) = command.Finish job None
command_of (steps.Prepare job) = command.Prepare job
command_of (steps.Move job to) = command.MoveJob job to
command_of (steps.Line job line) = command.Line job line
