-- What keeps two regions agreeing. No law needs that the histories are lawful.
use Rattle.std.specs.Prelude.{◌≡◌, ◌<◌, ◌≤◌, ◌-◌, ◌==◌, ℕ, Bool, false, ◌∷◌, ◌++◌, Some, slice_get}
use Rattle.s3r_names.specs.declared.outcome.Outcome.{Outcome}
use Rattle.s3r_record.specs.declared.command.Command.{Command}
use Rattle.s3r_record.specs.declared.command.Command.TheVariants as command
use Rattle.s3r_queue.specs.Tasks.{answered_of}
use Rattle.s3r_queue.specs.Received.{watermark_of}
use Rattle.s3r_history.specs.Words.{History}
use Rattle.s3r_history.specs.Past.{Carried}
use Rattle.s3r_history.specs.Deeds.{deeds}
use Rattle.s3r_history.specs.Placed.{prescribed}
use Rattle.s3r_history.specs.Tasks.{sent, tasks_to, first, received, last_from}
use Rattle.s3r_history.specs.Agree.{CameTo, Agrees}

-- the command settles a task to the region
abbrev pub settles_to : ℕ → Command → Bool
settles_to d (command.CreateBucket name locked) = false
settles_to d (command.DeleteBucket name) = false
settles_to d (command.SetVersioning name enabled) = false
settles_to d (command.SetReplication name config regions) = false
settles_to d (command.DropReplication name) = false
settles_to d (command.Put bucket key tags hold class body) = false
settles_to d (command.Marker bucket key) = false
settles_to d (command.Remove bucket key id) = false
settles_to d (command.SetTags bucket key id tags) = false
settles_to d (command.SetHold bucket key id hold) = false
settles_to d (command.Receive from number effect) = false
settles_to d (command.Settle to number outcome) = to == d
settles_to d (command.Attempt to number) = false
settles_to d (command.CreateJob spec manifest) = false
settles_to d (command.MoveJob job state) = false
settles_to d (command.SetPriority job priority) = false
settles_to d (command.Prepare job) = false
settles_to d (command.Line job line) = false
settles_to d (command.Finish job body) = false

-- the command receives an effect from the region
abbrev pub receives_from : ℕ → Command → Bool
receives_from s (command.CreateBucket name locked) = false
receives_from s (command.DeleteBucket name) = false
receives_from s (command.SetVersioning name enabled) = false
receives_from s (command.SetReplication name config regions) = false
receives_from s (command.DropReplication name) = false
receives_from s (command.Put bucket key tags hold class body) = false
receives_from s (command.Marker bucket key) = false
receives_from s (command.Remove bucket key id) = false
receives_from s (command.SetTags bucket key id tags) = false
receives_from s (command.SetHold bucket key id hold) = false
receives_from s (command.Receive from number effect) = from == s
receives_from s (command.Settle to number outcome) = false
receives_from s (command.Attempt to number) = false
receives_from s (command.CreateJob spec manifest) = false
receives_from s (command.MoveJob job state) = false
receives_from s (command.SetPriority job priority) = false
receives_from s (command.Prepare job) = false
receives_from s (command.Line job line) = false
receives_from s (command.Finish job body) = false

-- They still agree after one command more at the sender that settles no task to the receiver,
abbrev pub StaysAtSender : Type 0
StaysAtSender = (s d : ℕ) (h k : History) (c : Command) → settles_to d c ≡ false → Agrees s d h k → Agrees s d (c ∷ h) k

-- or at the receiver that receives nothing from the sender,
abbrev pub StaysAtReceiver : Type 0
StaysAtReceiver = (s d : ℕ) (h k : History) (c : Command) → receives_from s c ≡ false → Agrees s d h k → Agrees s d h (c ∷ k)

-- or where they are one region, one that does neither.
abbrev pub StaysWithItself : Type 0
StaysWithItself = (s : ℕ) (h : History) (c : Command) → settles_to s c ≡ false → receives_from s c ≡ false → Agrees s s h h
    → Agrees s s (c ∷ h) (c ∷ h)

-- the effect may be received: it is prescribed at this number, which isn't above the first pending one
pub record MayArrive (s d : ℕ) (h : History) (n : ℕ) (e : Carried) : Type 0 where
  pub to_first : n ≤ first h (deeds s h) d
  pub to_sent : n ≤ sent (deeds s h) d
  pub prescribed_there : slice_get (prescribed (deeds s h) d) (n - 1) ≡ Some e

-- They still agree after such an effect was received, at a number above the last,
abbrev pub StaysAtReceive : Type 0
StaysAtReceive = (s d : ℕ) (h k : History) (n : ℕ) (e : Carried) → MayArrive s d h n e → watermark_of (last_from (deeds d k) s) < n
    → Agrees s d h k → Agrees s d h (command.Receive s n e ∷ k)

-- or where they are one region.
abbrev pub StaysAtOwnReceive : Type 0
StaysAtOwnReceive = (s : ℕ) (h : History) (n : ℕ) (e : Carried) → MayArrive s s h n e → watermark_of (last_from (deeds s h) s) < n
    → Agrees s s h h → Agrees s s (command.Receive s n e ∷ h) (command.Receive s n e ∷ h)

-- They still agree after a task was settled as it came to at the receiver,
abbrev pub StaysAtSettle : Type 0
StaysAtSettle = (s d : ℕ) (h k : History) (n : ℕ) (o : Outcome) → CameTo n o (received (deeds d k) s) → Agrees s d h k
    → Agrees s d (command.Settle d n o ∷ h) k

-- or where they are one region.
abbrev pub StaysAtOwnSettle : Type 0
StaysAtOwnSettle = (s : ℕ) (h : History) (n : ℕ) (o : Outcome) → CameTo n o (received (deeds s h) s) → Agrees s s h h
    → Agrees s s (command.Settle s n o ∷ h) (command.Settle s n o ∷ h)

-- What may arrive may arrive after any further commands,
abbrev pub MayArriveLater : Type 0
MayArriveLater = (s d : ℕ) (h more : History) (n : ℕ) (e : Carried) → MayArrive s d h n e → MayArrive s d (more ++ h) n e

-- and what was received was received.
abbrev pub WasReceivedLater : Type 0
WasReceivedLater = (s d : ℕ) (k more : History) (n : ℕ) (o : Outcome) → CameTo n o (received (deeds d k) s) → CameTo n o (received (deeds d (more ++ k)) s)

-- Regions that agree are within the bound by which a desk tells disagreement: the last number that was settled as it came to isn't
-- above the last that was received, and that neither above the first pending one nor above the last that was prescribed.
abbrev pub AgreeingIsWithin : Type 0
AgreeingIsWithin = (s d : ℕ) (h k : History) → Agrees s d h k
    → (answered_of (tasks_to h (deeds s h) d) ≤ watermark_of (last_from (deeds d k) s))
    × (watermark_of (last_from (deeds d k) s) ≤ first h (deeds s h) d)
    × (watermark_of (last_from (deeds d k) s) ≤ sent (deeds s h) d)
