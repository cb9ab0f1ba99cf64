-- The JSON of what is answered about jobs.
use Rattle.std.specs.Prelude.{ℕ, List, codes}
use Rattle.serde_json.specs.Data.{Data, Members, no_members, member, string, number, unsigned, object}
use Rattle.s3r_names.specs.declared.version.VersionId.{VersionId}
use Rattle.s3r_jobs.specs.declared.state.JobState.{JobState}
use Rattle.s3r_jobs.specs.Texts.{state_text}
use Rattle.s3r_desk.specs.declared.job_outcome.JobOutcome.{JobOutcome}
use Rattle.s3r_desk.specs.declared.job_outcome.JobOutcome.TheVariants as came
use Rattle.s3r_desk.specs.declared.work_summary.WorkSummary.{WorkSummary}
use Rattle.s3r_api.specs.Ids.{id_text}

-- a job's id, before other members
abbrev pub id_members : List ℕ → Members → Members
id_members id others = member (codes "JobId") (string id) others

abbrev pub made_with : List ℕ → Data
made_with id = object (id_members id no_members)

-- a job was made
abbrev pub made_data : VersionId → Data
made_data id = made_with (id_text id)

abbrev pub set_with : List ℕ → ℕ → Data
set_with id priority = object (id_members id (member (codes "Priority") (number (unsigned priority)) no_members))

-- its priority was set
abbrev pub set_data : VersionId → ℕ → Data
set_data id priority = set_with (id_text id) priority

abbrev pub moved_with : List ℕ → List ℕ → Data
moved_with id status = object (id_members id (member (codes "Status") (string status) no_members))

-- it moved to a state
abbrev pub moved_data : VersionId → JobState → Data
moved_data id state = moved_with (id_text id) (state_text state)

-- what a turn did, in a word
abbrev pub step_members : List ℕ → Members
step_members word = member (codes "Step") (string word) no_members

abbrev pub state_step : List ℕ → List ℕ → Data
state_step id state = object (member (codes "Job") (string id) (step_members state))

abbrev pub line_step : List ℕ → ℕ → Data
line_step id line = object (member (codes "Job") (string id) (member (codes "Line") (number (unsigned line)) (step_members (codes "Line"))))

-- what a turn of a region's jobs came to
abbrev pub step_data : JobOutcome → Data
step_data came.Idle = object (step_members (codes "Idle"))
step_data (came.Moved id state) = state_step (id_text id) (state_text state)
step_data (came.Lined id line) = line_step (id_text id) line
step_data (came.Ended id state) = state_step (id_text id) (state_text state)

-- what rounds of work came to
abbrev pub work_data : WorkSummary → Data
work_data s = object
    (member (codes "Applied") (number (unsigned s.applied))
    (member (codes "Ended") (number (unsigned s.ended))
    (member (codes "GaveUp") (number (unsigned s.gave_up))
    (member (codes "Lines") (number (unsigned s.lines))
    (member (codes "Moves") (number (unsigned s.moves))
    (member (codes "Refused") (number (unsigned s.refused))
    (member (codes "Retried") (number (unsigned s.retried))
    (member (codes "Rounds") (number (unsigned s.rounds)) no_members))))))))
