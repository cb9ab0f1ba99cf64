-- When regions disagree on the tasks from one to another, by their counts.
use Rattle.std.specs.Prelude.{ℕ, zero, suc, ◌+◌, ◌-◌, Bool, ◌&&◌, nat_le, List, length, Option, Some, None, if◌then◌else◌, slice_get}
use Rattle.std.specs.Option.{option_and_then}
use Rattle.s3r_queue.specs.Received as queue
use Rattle.s3r_queue.specs.Received.{watermark_of}
use Rattle.s3r_queue.specs.Tasks.{first_of, answered_of}
use Rattle.s3r_queue.specs.Queues.{to_region}
use Rattle.s3r_history.specs.Words.{History}
use Rattle.s3r_history.specs.Tasks.{sent, tasks_to, first, last_from}
use Rattle.s3r_history.specs.Deeds.{deeds}
use Rattle.s3r_region.specs.Contents.{Contents}
use Rattle.s3r_store.specs.declared.store.Store.{Store}
use Rattle.s3r_store.specs.Stores.{state_of}
use Rattle.s3r_desk.specs.declared.fault.DeskFault.{DeskFault}
use Rattle.s3r_desk.specs.declared.fault.DeskFault.TheVariants as faults
use Rattle.s3r_desk.specs.Steps.{Histories}

-- what was answered was received; what was received was sent, and isn't above the first pending task
abbrev pub is_within : (sent answered settled received : ℕ) → Bool
is_within sent answered settled received = nat_le answered received && (nat_le received (settled + 1) && nat_le received sent)

abbrev pub fault_by : (from to sent answered settled received : ℕ) → Option DeskFault
fault_by from to sent answered settled received =
    if is_within sent answered settled received then None else Some (faults.Disagree from to sent answered settled received)

-- Region s, whose history is h, and region d, whose history is k, disagree: by how many tasks s has to d, the last of them that came
-- to something, how many stand before the first pending one, and the last number that d received.
abbrev pub pair_fault : ℕ → ℕ → History → History → Option DeskFault
pair_fault s d h k =
    fault_by s d (sent (deeds s h) d) (answered_of (tasks_to h (deeds s h) d)) (first h (deeds s h) d - 1) (watermark_of (last_from (deeds d k) s))

abbrev pub or_later : {X : Type 0} → Option X → Option X → Option X
or_later None later = later
or_later (Some x) later = Some x

-- the first of so many, in rising order
abbrev pub first_below : {X : Type 0} → (ℕ → Option X) → ℕ → Option X
first_below f zero = None
first_below f (suc n) = or_later (first_below f n) (f n)

-- the first pair of regions, in rising order of the sender and then of the receiver
abbrev pub first_pair : ℕ → (ℕ → ℕ → Option DeskFault) → Option DeskFault
first_pair n f = first_below (λ s. first_below (f s) n) n

-- that disagrees
abbrev pub disagreement : ℕ → Histories → Option DeskFault
disagreement n at = first_pair n (λ s d. pair_fault s d (at s) (at d))

-- ---- as stores tell it

abbrev pub contents_at : List Store → ℕ → Option Contents
contents_at stores r = option_and_then state_of (slice_get stores r)

abbrev pub seen_by : ℕ → ℕ → Option Contents → Option Contents → Option DeskFault
seen_by s d None b = None
seen_by s d (Some a) None = None
seen_by s d (Some a) (Some b) =
    fault_by s d (length (to_region a.outbox d)) (answered_of (to_region a.outbox d)) (first_of (to_region a.outbox d) - 1)
    (watermark_of (queue.last_from b.inbox s))

abbrev pub seen_fault : List Store → ℕ → ℕ → Option DeskFault
seen_fault stores s d = seen_by s d (contents_at stores s) (contents_at stores d)
