-- What is told of one task.
use Rattle.std.specs.Prelude.{ℕ}
use Rattle.std.specs.Borrow.{Bor}
use Rattle.s3r_queue.specs.declared.task.Task.{Task}
use Rattle.s3r_queue.specs.declared.task.TaskState.{TaskState}
use Rattle.s3r_queue.specs.Tasks.{state_of}

-- its effect, its state and its attempts
abbrev pub entry_of : {E : Type 0} → Task E → E × TaskState × ℕ
entry_of task = (task.effect, state_of task, task.attempts)

-- what an entry of the code stands for, whose effect is borrowed
abbrev pub entry_behind : {E : Type 0} → Bor E × TaskState × ℕ → E × TaskState × ℕ
entry_behind entry = (entry.0.now, entry.1, entry.2)
