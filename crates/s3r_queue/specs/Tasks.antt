-- A region's tasks, the first first.
use Rattle.std.specs.Prelude.{ℕ, suc, ◌+◌, ◌-◌, max, Bool, true, false, nat_lt, List, [], ◌∷◌, Option, Some, None, if◌then◌else◌, is_some, slice_get}
use Rattle.std.specs.List.{list_all}
use Rattle.s3r_names.specs.declared.outcome.Outcome.{Outcome}
use Rattle.s3r_names.specs.declared.outcome.Outcome.TheVariants as outcomes
use Rattle.s3r_queue.specs.declared.task.Task.{Task}
use Rattle.s3r_queue.specs.declared.task.TaskState.{TaskState}
use Rattle.s3r_queue.specs.declared.task.TaskState.TheVariants as states

-- A task's state follows from what it came to, or else from its attempts. After eight it is given up.
abbrev pub state_by : Option Outcome → ℕ → TaskState
state_by None attempts = if nat_lt attempts 8 then states.Pending else states.Exhausted
state_by (Some outcomes.Applied) attempts = states.Completed
state_by (Some (outcomes.Refused reason)) attempts = states.Failed reason

abbrev pub state_of : {E : Type 0} → Task E → TaskState
state_of task = state_by task.outcome task.attempts

abbrev pub is_pending : TaskState → Bool
is_pending states.Pending = true
is_pending states.Completed = false
is_pending (states.Failed reason) = false
is_pending states.Exhausted = false

abbrev pub waits : {E : Type 0} → Task E → Bool
waits task = is_pending (state_of task)

-- the least number of a pending task, counted from 1; one above all where none is pending
abbrev pub first_of : {E : Type 0} → List (Task E) → ℕ
first_of [] = 1
first_of (task ∷ tasks) = if waits task then 1 else suc (first_of tasks)

-- how many are no longer pending
abbrev pub settled_of : {E : Type 0} → List (Task E) → ℕ
settled_of [] = 0
settled_of (task ∷ tasks) = if waits task then settled_of tasks else suc (settled_of tasks)

-- the tasks behind a pending one are pending
abbrev pub are_in_turn : {E : Type 0} → List (Task E) → Bool
are_in_turn [] = true
are_in_turn (task ∷ tasks) = if waits task then list_all waits tasks else are_in_turn tasks

-- the greatest number of a task that came to something, the first having this number; 0 where there is none
abbrev pub answered_from : {E : Type 0} → ℕ → List (Task E) → ℕ
answered_from n [] = 0
answered_from n (task ∷ tasks) = max (if is_some task.outcome then n else 0) (answered_from (suc n) tasks)

abbrev pub answered_of : {E : Type 0} → List (Task E) → ℕ
answered_of tasks = answered_from 1 tasks

-- ---- one task

-- a task as it is pushed
abbrev pub new_task : {E : Type 0} → E → Task E
new_task effect = record { effect = effect; outcome = None; attempts = 0 }

abbrev pub with_outcome : {E : Type 0} → Outcome → Task E → Task E
with_outcome outcome task = record task { outcome = Some outcome }

abbrev pub one_attempt_more : {E : Type 0} → Task E → Task E
one_attempt_more task = record task { attempts = task.attempts + 1 }

-- the first pending task is changed, and no other
abbrev pub on_first : {E : Type 0} → (Task E → Task E) → List (Task E) → List (Task E)
on_first f [] = []
on_first f (task ∷ tasks) = if waits task then f task ∷ tasks else task ∷ on_first f tasks

-- the task of this number, counted from 1
abbrev pub numbered : {E : Type 0} → ℕ → List (Task E) → Option (Task E)
numbered n tasks = if nat_lt 0 n then slice_get tasks (n - 1) else None
