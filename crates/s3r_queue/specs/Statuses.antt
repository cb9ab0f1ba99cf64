-- The status of a version by its tasks.
use Rattle.std.specs.Prelude.{Bool, true, false, List, [], ◌∷◌, if◌then◌else◌}
use Rattle.std.specs.List.{list_any}
use Rattle.s3r_names.specs.declared.outcome.Status.{Status}
use Rattle.s3r_names.specs.declared.outcome.Status.TheVariants as status
use Rattle.s3r_queue.specs.declared.task.TaskState.{TaskState}
use Rattle.s3r_queue.specs.declared.task.TaskState.TheVariants as states
use Rattle.s3r_queue.specs.Tasks.{is_pending}

-- a task that was given up has failed too
abbrev pub is_failed : TaskState → Bool
is_failed states.Pending = false
is_failed states.Completed = false
is_failed (states.Failed reason) = true
is_failed states.Exhausted = true

-- where no task is pending or failed
abbrev pub of_settled : List TaskState → Status
of_settled [] = status.NoTask
of_settled (task ∷ tasks) = status.Completed

-- pending where a task is; else failed where one is; else completed where there are tasks
abbrev pub by_tasks : List TaskState → Status
by_tasks tasks =
    if list_any is_pending tasks then status.Pending
    else (if list_any is_failed tasks then status.Failed else of_settled tasks)

-- a version that was received itself is a replica, whatever its tasks are
abbrev pub status_of : Bool → List TaskState → Status
status_of true tasks = status.Replica
status_of false tasks = by_tasks tasks
