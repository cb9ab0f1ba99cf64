-- How far the replication of a version is.
use Rattle.std.specs.Prelude.{ℕ, zero, suc, Bool, not, ◌&&◌, nat_lt, nat_le, List, [], ◌++◌, map, filter, is_some}
use Rattle.std.specs.List.{list_any}
use Rattle.std.specs.Str.{bytes_eq}
use Rattle.s3r_names.specs.declared.outcome.Status.{Status}
use Rattle.s3r_queue.specs.declared.task.Task.{Task}
use Rattle.s3r_queue.specs.Tasks.{state_of}
use Rattle.s3r_queue.specs.Statuses.{status_of}
use Rattle.s3r_history.specs.declared.sent.Prescribed.{Prescribed}
use Rattle.s3r_history.specs.Words.{Name, History}
use Rattle.s3r_history.specs.Past.{Entry, Past}
use Rattle.s3r_history.specs.Carried.{source_of, target_of, key_of, id_of}
use Rattle.s3r_history.specs.Rows.{names_it}
use Rattle.s3r_history.specs.Tasks.{placed_tasks}

-- the tasks to so many regions, from this one on
abbrev pub tasks_beyond : History → Past → ℕ → ℕ → List (Task Prescribed)
tasks_beyond h past d zero = []
tasks_beyond h past d (suc n) = placed_tasks h past d ++ tasks_beyond h past (suc d) n

-- all tasks; no region is above 7
abbrev pub all_tasks : History → Past → List (Task Prescribed)
all_tasks h past = tasks_beyond h past 0 8

-- it is about the row of the bucket b: about its version at its source, and prescribed by the command that added the row, or by
-- a later one
abbrev pub is_about : Name → Entry → Task Prescribed → Bool
is_about b row t =
    nat_le row.place t.effect.place && names_it (source_of t.effect.effect) (key_of t.effect.effect) (id_of t.effect.effect) b row.key row.id

-- the second goes to the same bucket, and was prescribed by a later command
abbrev pub is_followed_by : Task Prescribed → Task Prescribed → Bool
is_followed_by t u = bytes_eq (target_of u.effect.effect) (target_of t.effect.effect) && nat_lt t.effect.place u.effect.place

-- those that none follows
abbrev pub last_to_each : List (Task Prescribed) → List (Task Prescribed)
last_to_each ts = filter (λ t. not (list_any (is_followed_by t) ts)) ts

-- a row that was received is a replica; another row's status is that of the last task about it to each bucket
abbrev pub status_by : List (Task Prescribed) → Name → Entry → Status
status_by ts b row = status_of (is_some row.origin) (map state_of (last_to_each (filter (is_about b row) ts)))

-- the status of a row of the bucket b after the commands h, which did this
abbrev pub status : History → Past → Name → Entry → Status
status h past b row = status_by (all_tasks h past) b row
