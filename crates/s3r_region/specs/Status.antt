-- A row's status, task by task.
use Rattle.std.specs.Prelude.{ℕ, zero, suc, Bool, not, ◌&&◌, List, [], ◌∷◌, ◌++◌, Option, Some, None, is_some, if◌then◌else◌}
use Rattle.std.specs.List.{list_any}
use Rattle.s3r_names.specs.declared.outcome.Status.{Status}
use Rattle.s3r_queue.specs.declared.task.Task.{Task}
use Rattle.s3r_queue.specs.declared.task.TaskState.{TaskState}
use Rattle.s3r_queue.specs.declared.task.TaskState.TheVariants as states
use Rattle.s3r_queue.specs.Tasks.{state_of}
use Rattle.s3r_queue.specs.Queues.{to_region}
use Rattle.s3r_queue.specs.Statuses.{status_of}
use Rattle.s3r_history.specs.declared.sent.Prescribed.{Prescribed}
use Rattle.s3r_history.specs.Words.{Name}
use Rattle.s3r_history.specs.Past.{Entry}
use Rattle.s3r_history.specs.Statuses.{is_about, is_followed_by}

-- the tasks to so many regions, from this one on
abbrev pub tasks_from : List (List (Task Prescribed)) → ℕ → ℕ → List (Task Prescribed)
tasks_from outbox d zero = []
tasks_from outbox d (suc n) = to_region outbox d ++ tasks_from outbox (suc d) n

-- those to all regions: no region is above 7
abbrev pub all_tasks : List (List (Task Prescribed)) → List (Task Prescribed)
all_tasks outbox = tasks_from outbox 0 8

-- a task about the row is outdone by a later one about it to the same bucket
abbrev pub outdoes : Name → Entry → Task Prescribed → Task Prescribed → Bool
outdoes b row t u = is_about b row u && is_followed_by t u

-- the task is about the row, and none of these outdoes it
abbrev pub decides : List (Task Prescribed) → Name → Entry → Task Prescribed → Bool
decides all b row t = is_about b row t && not (list_any (outdoes b row t) all)

-- of two states the one that decides a status
abbrev pub worse : TaskState → TaskState → TaskState
worse states.Pending t = states.Pending
worse states.Completed t = t
worse (states.Failed reason) states.Pending = states.Pending
worse (states.Failed reason) states.Completed = states.Failed reason
worse (states.Failed reason) (states.Failed other) = states.Failed reason
worse (states.Failed reason) states.Exhausted = states.Failed reason
worse states.Exhausted states.Pending = states.Pending
worse states.Exhausted states.Completed = states.Exhausted
worse states.Exhausted (states.Failed other) = states.Exhausted
worse states.Exhausted states.Exhausted = states.Exhausted

abbrev pub worse_of : Option TaskState → TaskState → TaskState
worse_of None t = t
worse_of (Some s) t = worse s t

-- the state that decides, of one that was found before and those of the tasks that pass the test
abbrev pub worst : (Task Prescribed → Bool) → Option TaskState → List (Task Prescribed) → Option TaskState
worst p so_far [] = so_far
worst p so_far (t ∷ ts) = worst p (if p t then Some (worse_of so_far (state_of t)) else so_far) ts

abbrev pub one : Option TaskState → List TaskState
one None = []
one (Some s) = s ∷ []

-- the status of a row of the bucket b
abbrev pub row_status : List (List (Task Prescribed)) → Name → Entry → Status
row_status outbox b row = status_of (is_some row.origin) (one (worst (decides (all_tasks outbox) b row) None (all_tasks outbox)))
