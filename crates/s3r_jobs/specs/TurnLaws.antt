-- What is true of every turn.
use Rattle.std.specs.Prelude.{◌≡◌, ◌≤◌, ◌↔◌, ℕ, Bool, true, false, List, MatchOption, Contains}
use Rattle.s3r_jobs.specs.declared.state.JobState.{JobState}
use Rattle.s3r_jobs.specs.States.{is_waiting}
use Rattle.s3r_jobs.specs.Facts.{JobFacts}
use Rattle.s3r_jobs.specs.Turn.{Rank, lowest, best, is_better, is_outdone, rank}

-- no job is in such a state
abbrev pub HasNone : (JobState → Bool) → List JobFacts → Type 0
HasNone test jobs = (job : JobFacts) → Contains jobs job → test job.state ≡ false

-- it is the id of a job in such a state, and none of these jobs has a lower one
pub record IsLowest (test : JobState → Bool) (jobs : List JobFacts) (id : ℕ) : Type 0 where
  pub there : (job : JobFacts) × Contains jobs job × (test job.state ≡ true) × (job.id ≡ id)
  pub lowest : (job : JobFacts) → Contains jobs job → test job.state ≡ true → id ≤ job.id

abbrev pub LowestIsLowest : Type 0
LowestIsLowest = (test : JobState → Bool) (jobs : List JobFacts) → MatchOption (lowest test jobs) (HasNone test jobs) (IsLowest test jobs)

-- it is the priority and the id of a job that waits, and no job that waits is better
pub record IsBest (jobs : List JobFacts) (top : Rank) : Type 0 where
  pub there : (job : JobFacts) × Contains jobs job × (is_waiting job.state ≡ true) × (rank job ≡ top)
  pub best : (job : JobFacts) → Contains jobs job → is_waiting job.state ≡ true → is_better (rank job) top ≡ false

abbrev pub BestIsBest : Type 0
BestIsBest = (jobs : List JobFacts) → MatchOption (best jobs) (HasNone is_waiting jobs) (IsBest jobs)

-- of two jobs with different ids one is better, and of three in a row the first is better than the third
pub record IsStrict : Type 0 where
  pub one_way : (a b : Rank) → is_better a b ≡ true → is_better b a ≡ false
  pub along : (a b c : Rank) → is_better a b ≡ true → is_better b c ≡ true → is_better a c ≡ true
  pub total : (a b : Rank) → is_better a b ≡ false → is_better b a ≡ false → a.1 ≡ b.1

-- a job makes way exactly where one that waits is better
abbrev pub MakesWayToBetter : Type 0
MakesWayToBetter = (job : JobFacts) (jobs : List JobFacts) → (is_outdone job jobs ≡ true)
    ↔ ((other : JobFacts) × Contains jobs other × (is_waiting other.state ≡ true) × (is_better (rank other) (rank job) ≡ true))
