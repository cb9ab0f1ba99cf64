-- What a state keeps of the first pending task to a region.
use Rattle.std.specs.Prelude.{◌≡◌, ℕ, List, [], Option, Some, None, find, option_map}
use Rattle.s3r_queue.specs.declared.task.Task.{Task}
use Rattle.s3r_queue.specs.Tasks.{waits, first_of}
use Rattle.s3r_queue.specs.Queues.{to_region}
use Rattle.s3r_names.specs.declared.outcome.Outcome.{Outcome}
use Rattle.s3r_record.specs.declared.command.Command.TheVariants as command
use Rattle.s3r_record.specs.declared.effect.Effect.TheVariants as effects
use Rattle.s3r_history.specs.declared.due.Due.{Due}
use Rattle.s3r_history.specs.declared.sent.Prescribed.{Prescribed}
use Rattle.s3r_history.specs.Words.{History}
use Rattle.s3r_history.specs.Past.{Carried}
use Rattle.s3r_history.specs.Accepts.{refusal}
use Rattle.s3r_region.specs.Contents.{Contents}

abbrev pub first_task : Contents → ℕ → Option (Task Prescribed)
first_task s to = find waits (to_region s.outbox to)

-- the same with its number
abbrev pub seen_due : Contents → ℕ → Option Due
seen_due s to =
    option_map (λ (t : Task Prescribed). record { number = first_of (to_region s.outbox to); attempts = t.attempts; effect = t.effect.effect })
    (first_task s to)

-- region r of n, after this history, refuses no command that settles the task of this number or tries it once more
abbrev pub MayEnd : (n r : ℕ) → History → (d number : ℕ) → Type 0
MayEnd n r h d number =
    ((outcome : Outcome) → refusal n r h (command.Settle d number outcome) ≡ None) × (refusal n r h (command.Attempt d number) ≡ None)

-- an effect's body, no bytes where it has none
abbrev pub body_of : Carried → List ℕ
body_of (effects.Replica from to key id n tags tags_stamp hold hold_stamp class body) = body
body_of (effects.Marker from to key id n) = []
body_of (effects.Tags from to key id tags stamp) = []
body_of (effects.Hold from to key id hold stamp) = []

-- the body of a task's effect, no bytes where there is no task
abbrev pub body_in : Option (Task Prescribed) → List ℕ
body_in None = []
body_in (Some task) = body_of task.effect.effect
