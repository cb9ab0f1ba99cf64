-- What a region keeps of its tasks, and of what it received.
use Rattle.std.specs.Prelude.{◌≡◌, ◌<◌, ℕ, nat_lt, List, [], ◌∷◌, ◌++◌, Option, None, if◌then◌else◌, length, slice_set}
use Rattle.s3r_queue.specs.declared.inbox.Noted.{Noted}
use Rattle.s3r_queue.specs.declared.task.Task.{Task}
use Rattle.s3r_queue.specs.Tasks.{new_task}
use Rattle.s3r_queue.specs.Queues.{to_region}
use Rattle.s3r_queue.specs.Received as queue
use Rattle.s3r_history.specs.declared.sent.Sent.{Sent}
use Rattle.s3r_history.specs.declared.sent.Prescribed.{Prescribed}
use Rattle.s3r_history.specs.Words.{History}
use Rattle.s3r_history.specs.Past.{Past}
use Rattle.s3r_history.specs.Deeds.{deeds}
use Rattle.s3r_history.specs.Tasks.{sent, settled_with, attempts, placed_tasks, last_from}

-- no task is settled or tried before it is prescribed
abbrev pub NoneAhead : History → Past → Type 0
NoneAhead h past = (d n : ℕ) → sent past d < n → (settled_with h d n ≡ None) × (attempts h d n ≡ 0)

-- The queues of region r, of so many, are after its history. Nothing is said of tasks to regions that aren't there.
pub record QueuesAfter (r regions : ℕ) (outbox : List (List (Task Prescribed))) (inbox : List (Option Noted)) (h : History) : Type 0 where
  pub boxes : length outbox ≡ regions
  pub notes : length inbox ≡ regions
  pub tasks : (d : ℕ) → d < regions → to_region outbox d ≡ placed_tasks h (deeds r h) d
  pub last : (s : ℕ) → s < regions → queue.last_from inbox s ≡ last_from (deeds r h) s
  pub ahead : NoneAhead h (deeds r h)

-- what a command of this index sends is put behind the tasks to its region, where that is there
abbrev pub push_one : ℕ → Sent → List (List (Task Prescribed)) → List (List (Task Prescribed))
push_one place s outbox =
    if nat_lt s.region (length outbox)
    then slice_set outbox s.region (to_region outbox s.region ++ new_task (record { effect = s.effect; place = place }) ∷ [])
    else outbox

abbrev pub push_all : ℕ → List Sent → List (List (Task Prescribed)) → List (List (Task Prescribed))
push_all place [] outbox = outbox
push_all place (s ∷ sends) outbox = push_all place sends (push_one place s outbox)
