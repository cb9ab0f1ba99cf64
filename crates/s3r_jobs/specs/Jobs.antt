-- The jobs of a region.
use Rattle.std.specs.Prelude.{ℕ, suc, ◌+◌, ◌-◌, ◌≤◌, ◌==◌, nat_lt, Bool, false, ◌||◌, not, IsTrue, List, [], ◌∷◌, find, Option, Some, None, is_some, if◌then◌else◌}
use Rattle.std.specs.List.{list_all}
use Rattle.std.specs.Option.{option_or}
use Rattle.std.specs.Str.{bytes_eq}
use Rattle.s3r_jobs.specs.declared.spec.ReportSpec.{ReportSpec}
use Rattle.s3r_jobs.specs.States.{has_ended}
use Rattle.s3r_jobs.specs.Facts.{JobFacts}

-- Those in their place, and how many are out of theirs.
pub record JobsFacts : Type 0 where
  pub live : List JobFacts
  pub ended : List JobFacts
  pub out : ℕ

-- Room for all of them among those that haven't ended, and among those that have.
pub record HasPlaces (all room room_ended : ℕ) : Type 0 where
  pub live : all ≤ room
  pub ended : all ≤ room_ended
  pub few : all ≤ 4294967295

abbrev pub is_ended : JobFacts → Bool
is_ended job = has_ended job.state

abbrev pub is_unended : JobFacts → Bool
is_unended job = not (has_ended job.state)

-- Those that have ended stand apart from those that haven't.
abbrev pub AreApart : List JobFacts → List JobFacts → Type 0
AreApart live ended = IsTrue (list_all is_unended live) × IsTrue (list_all is_ended ended)

abbrev pub is_job : ℕ → JobFacts → Bool
is_job id job = job.id == id

-- how many jobs stand before the first of that id
abbrev pub place_of : ℕ → List JobFacts → ℕ
place_of id [] = 0
place_of id (job ∷ jobs) = if is_job id job then 0 else suc (place_of id jobs)

abbrev pub find_job : ℕ → JobsFacts → Option JobFacts
find_job id jobs = option_or (find (is_job id) jobs.live) (find (is_job id) jobs.ended)

-- without the first job of that id
abbrev pub without : ℕ → List JobFacts → List JobFacts
without id [] = []
without id (job ∷ jobs) = if is_job id job then jobs else job ∷ without id jobs

-- once the job is taken out of its place
abbrev pub taken : ℕ → JobsFacts → JobsFacts
taken id jobs =
    if is_some (find (is_job id) jobs.live) then record jobs { live = without id jobs.live; out = jobs.out + 1 }
    else if is_some (find (is_job id) jobs.ended) then record jobs { ended = without id jobs.ended; out = jobs.out + 1 }
    else jobs

-- the job before the first one that has a greater id
abbrev pub in_order : JobFacts → List JobFacts → List JobFacts
in_order job [] = job ∷ []
in_order job (other ∷ jobs) = if nat_lt job.id other.id then job ∷ other ∷ jobs else other ∷ in_order job jobs

-- how many jobs stand before the first one that has a greater id
abbrev pub order_of : ℕ → List JobFacts → ℕ
order_of id [] = 0
order_of id (job ∷ jobs) = if nat_lt id job.id then 0 else suc (order_of id jobs)

-- with the job in its place
abbrev pub with_job : JobFacts → JobsFacts → JobsFacts
with_job job jobs =
    if has_ended job.state then record jobs { ended = in_order job jobs.ended } else record jobs { live = in_order job jobs.live }

-- once a job that was out is in its place again
abbrev pub given_back : JobFacts → JobsFacts → JobsFacts
given_back job jobs = with_job job (record jobs { out = jobs.out - 1 })

abbrev pub has_token : List ℕ → JobFacts → Bool
has_token token job = bytes_eq job.spec.token token

-- the job that was made with a token
abbrev pub token_job : List ℕ → JobsFacts → Option JobFacts
token_job token jobs = option_or (find (has_token token) jobs.live) (find (has_token token) jobs.ended)

abbrev pub goes_to : List ℕ → Option ReportSpec → Bool
goes_to bucket None = false
goes_to bucket (Some report) = bytes_eq report.bucket bucket

-- whether a job's report goes to this bucket
abbrev pub reports_to : List ℕ → List JobFacts → Bool
reports_to bucket [] = false
reports_to bucket (job ∷ jobs) = goes_to bucket job.spec.report || reports_to bucket jobs
