-- The turns of a round of work, and what they come to together.
use Rattle.std.specs.Prelude.{ℕ, zero, suc, ◌+◌, ◌<◌, Bool, true, false, List, [], ◌∷◌, ◌++◌, count_by, if◌then◌else◌}
use Rattle.s3r_names.specs.declared.outcome.Outcome.{Outcome}
use Rattle.s3r_names.specs.declared.outcome.Outcome.TheVariants as came
use Rattle.s3r_desk.specs.declared.copy_outcome.CopyOutcome.{CopyOutcome}
use Rattle.s3r_desk.specs.declared.copy_outcome.CopyOutcome.TheVariants as copy
use Rattle.s3r_desk.specs.declared.job_outcome.JobOutcome.{JobOutcome}
use Rattle.s3r_desk.specs.declared.job_outcome.JobOutcome.TheVariants as job
use Rattle.s3r_desk.specs.declared.worker_turn.WorkerTurn.{WorkerTurn}
use Rattle.s3r_desk.specs.declared.worker_turn.WorkerTurn.TheVariants as turn
use Rattle.s3r_desk.specs.declared.worker_turn.TurnOutcome.{TurnOutcome}
use Rattle.s3r_desk.specs.declared.worker_turn.TurnOutcome.TheVariants.{Copied, Stepped}
use Rattle.s3r_desk.specs.declared.work_summary.WorkSummary.{WorkSummary}

-- ---- the turns

-- one of the copier from a region to each of so many
abbrev pub copies_from : ℕ → ℕ → List WorkerTurn
copies_from from zero = []
copies_from from (suc to) = copies_from from to ++ turn.Copy from to ∷ []

-- from each of so many to each of n
abbrev pub copies_below : ℕ → ℕ → List WorkerTurn
copies_below zero n = []
copies_below (suc from) n = copies_below from n ++ copies_from from n

-- one of the jobs of each of so many
abbrev pub jobs_below : ℕ → List WorkerTurn
jobs_below zero = []
jobs_below (suc region) = jobs_below region ++ turn.Jobs region ∷ []

-- a round: one turn of the copier for each pair of n regions in rising order, and then one of each region's jobs
abbrev pub round : ℕ → List WorkerTurn
round n = copies_below n n ++ jobs_below n

-- so many rounds
abbrev pub rounds : ℕ → ℕ → List WorkerTurn
rounds zero n = []
rounds (suc k) n = rounds k n ++ round n

-- ---- what they came to

abbrev pub is_applied : TurnOutcome → Bool
is_applied (Copied copy.Idle) = false
is_applied (Copied (copy.Settled number came.Applied)) = true
is_applied (Copied (copy.Settled number (came.Refused why))) = false
is_applied (Copied (copy.Retried number attempts)) = false
is_applied (Copied (copy.GaveUp number)) = false
is_applied (Stepped outcome) = false

abbrev pub is_refused : TurnOutcome → Bool
is_refused (Copied copy.Idle) = false
is_refused (Copied (copy.Settled number came.Applied)) = false
is_refused (Copied (copy.Settled number (came.Refused why))) = true
is_refused (Copied (copy.Retried number attempts)) = false
is_refused (Copied (copy.GaveUp number)) = false
is_refused (Stepped outcome) = false

abbrev pub is_retried : TurnOutcome → Bool
is_retried (Copied copy.Idle) = false
is_retried (Copied (copy.Settled number outcome)) = false
is_retried (Copied (copy.Retried number attempts)) = true
is_retried (Copied (copy.GaveUp number)) = false
is_retried (Stepped outcome) = false

abbrev pub is_given_up : TurnOutcome → Bool
is_given_up (Copied copy.Idle) = false
is_given_up (Copied (copy.Settled number outcome)) = false
is_given_up (Copied (copy.Retried number attempts)) = false
is_given_up (Copied (copy.GaveUp number)) = true
is_given_up (Stepped outcome) = false

abbrev pub is_move : TurnOutcome → Bool
is_move (Copied outcome) = false
is_move (Stepped job.Idle) = false
is_move (Stepped (job.Moved id state)) = true
is_move (Stepped (job.Lined id line)) = false
is_move (Stepped (job.Ended id state)) = false

abbrev pub is_line : TurnOutcome → Bool
is_line (Copied outcome) = false
is_line (Stepped job.Idle) = false
is_line (Stepped (job.Moved id state)) = false
is_line (Stepped (job.Lined id line)) = true
is_line (Stepped (job.Ended id state)) = false

abbrev pub is_end : TurnOutcome → Bool
is_end (Copied outcome) = false
is_end (Stepped job.Idle) = false
is_end (Stepped (job.Moved id state)) = false
is_end (Stepped (job.Lined id line)) = false
is_end (Stepped (job.Ended id state)) = true

-- how many turns of so many rounds came to what
abbrev pub summary : ℕ → List TurnOutcome → WorkSummary
summary k outcomes = record {
  applied = count_by is_applied outcomes;
  ended = count_by is_end outcomes;
  gave_up = count_by is_given_up outcomes;
  lines = count_by is_line outcomes;
  moves = count_by is_move outcomes;
  refused = count_by is_refused outcomes;
  retried = count_by is_retried outcomes;
  rounds = k;
}

-- ---- one turn more

abbrev pub one_more : Bool → ℕ → ℕ
one_more is n = if is then n + 1 else n

abbrev pub noted : WorkSummary → TurnOutcome → WorkSummary
noted s outcome = record {
  applied = one_more (is_applied outcome) s.applied;
  ended = one_more (is_end outcome) s.ended;
  gave_up = one_more (is_given_up outcome) s.gave_up;
  lines = one_more (is_line outcome) s.lines;
  moves = one_more (is_move outcome) s.moves;
  refused = one_more (is_refused outcome) s.refused;
  retried = one_more (is_retried outcome) s.retried;
  rounds = s.rounds;
}

-- how many turns were not idle
abbrev pub total : WorkSummary → ℕ
total s = s.applied + s.ended + s.gave_up + s.lines + s.moves + s.refused + s.retried

-- its regions are there, where there are n
abbrev pub IsThere : ℕ → WorkerTurn → Type 0
IsThere n (turn.Copy from to) = (from < n) × (to < n)
IsThere n (turn.Jobs region) = region < n
