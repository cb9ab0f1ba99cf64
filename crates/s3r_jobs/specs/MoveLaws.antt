-- What is true of the table of moves.
use Rattle.std.specs.Prelude.{◌≡◌, false, IsTrue}
use Rattle.s3r_jobs.specs.declared.state.JobState.{JobState}
use Rattle.s3r_jobs.specs.States.{is_stopping, has_ended}
use Rattle.s3r_jobs.specs.Facts.{JobFacts}
use Rattle.s3r_jobs.specs.Moves.{may_move, end_of}

-- what has ended stays so
abbrev pub EndedStays : Type 0
EndedStays = (job : JobFacts) (from to : JobState) → IsTrue (has_ended from) → may_move job from to ≡ false

-- what is stopping only ends, and as it was stopped
abbrev pub StoppingEnds : Type 0
StoppingEnds = (job : JobFacts) (from to : JobState) → IsTrue (is_stopping from) → IsTrue (may_move job from to) → to ≡ end_of from
