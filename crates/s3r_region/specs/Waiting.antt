-- What a region keeps of tasks and of what it received.
use Rattle.std.specs.Prelude.{◌≡◌, ℕ, List, Option, None}
use Rattle.s3r_queue.specs.declared.inbox.Noted.{Noted}
use Rattle.s3r_queue.specs.declared.task.Task.{Task}
use Rattle.s3r_record.specs.declared.command.Command.{Command}
use Rattle.s3r_history.specs.declared.sent.Prescribed.{Prescribed}
use Rattle.s3r_history.specs.Words.{History}
use Rattle.s3r_history.specs.Accepts.{refusal}
use Rattle.s3r_history.specs.Kept.{QueuesAfter}

pub record Waiting : Type 0 where
  -- how many regions there are
  pub regions : ℕ
  -- the tasks to each region
  pub outbox : List (List (Task Prescribed))
  -- what was received last from each region
  pub inbox : List (Option Noted)

-- they are after the history of region r
abbrev pub IsAfter : ℕ → Waiting → History → Type 0
IsAfter r w h = QueuesAfter r w.regions w.outbox w.inbox h

abbrev pub IsAccepted : (n r : ℕ) → History → Command → Type 0
IsAccepted n r h c = refusal n r h c ≡ None
