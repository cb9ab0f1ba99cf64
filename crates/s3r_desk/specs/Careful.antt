-- What must be known of the regions where a commit begins.
use Rattle.std.specs.Prelude.{◌≡◌, ℕ, ◌<◌, [], ◌∷◌, ◌++◌, Some, None}
use Rattle.s3r_record.specs.declared.command.Command.{Command}
use Rattle.s3r_record.specs.declared.command.Command.TheVariants as command
use Rattle.s3r_history.specs.Words.{History}
use Rattle.s3r_history.specs.Deeds.{deeds}
use Rattle.s3r_history.specs.Tasks.{received}
use Rattle.s3r_history.specs.Accepts.{refusal}
use Rattle.s3r_history.specs.Agree.{Agrees, CameTo}
use Rattle.s3r_history.specs.AgreeLaws.{MayArrive}
use Rattle.s3r_desk.specs.Events.{found, began, answered, Events, known, Leads}
use Rattle.s3r_desk.specs.Steps.{Histories}

-- Each of n regions agrees with each, itself among them: what it received of the other is what that one prescribed, in order, each
-- once, up to its first pending task.
abbrev pub AreAgreed : ℕ → Histories → Type 0
AreAgreed n at = (s d : ℕ) → s < n → d < n → Agrees s d (at s) (at d)

-- What a command asks of another region, which is known too: that the effect is prescribed there and may arrive, or that the task
-- came to its outcome there. The region itself may be the other one.
abbrev pub IsLicensed : Events → ℕ → Command → Type 0
IsLicensed events r (command.CreateBucket name locked) = Unit {0}
IsLicensed events r (command.DeleteBucket name) = Unit {0}
IsLicensed events r (command.SetVersioning name enabled) = Unit {0}
IsLicensed events r (command.SetReplication name config regions) = Unit {0}
IsLicensed events r (command.DropReplication name) = Unit {0}
IsLicensed events r (command.Put bucket key tags hold class body) = Unit {0}
IsLicensed events r (command.Marker bucket key) = Unit {0}
IsLicensed events r (command.Remove bucket key id) = Unit {0}
IsLicensed events r (command.SetTags bucket key id tags) = Unit {0}
IsLicensed events r (command.SetHold bucket key id hold) = Unit {0}
IsLicensed events r (command.Receive from number effect) = (h : History) × (known events from ≡ Some h) × MayArrive from r h number effect
IsLicensed events r (command.Settle to number outcome) =
    (k : History) × (known events to ≡ Some k) × CameTo number outcome (received (deeds to k) r)
IsLicensed events r (command.Attempt to number) = Unit {0}
IsLicensed events r (command.CreateJob spec manifest) = Unit {0}
IsLicensed events r (command.MoveJob job state) = Unit {0}
IsLicensed events r (command.SetPriority job priority) = Unit {0}
IsLicensed events r (command.Prepare job) = Unit {0}
IsLicensed events r (command.Line job line) = Unit {0}
IsLicensed events r (command.Finish job body) = Unit {0}

-- A command may begin at region r, one of n: its history is known and accepts it, and the command has what it asks for.
pub record MayBegin (n : ℕ) (events : Events) (r : ℕ) (c : Command) : Type 0 where
  pub history : History
  pub is_known : known events r ≡ Some history
  pub accepted : refusal n r history c ≡ None
  pub licensed : IsLicensed events r c

-- Each command that began at one of n regions might, by what was known then. The events came behind those before.
abbrev pub AreCareful : ℕ → Events → Events → Type 0
AreCareful n before [] = Unit {0}
AreCareful n before (found r h ∷ events) = AreCareful n before events
AreCareful n before (began r c ∷ events) = (r < n → MayBegin n (events ++ before) r c) × AreCareful n before events
AreCareful n before (answered text ∷ events) = AreCareful n before events

-- a region that is known has this history
abbrev pub IsWhatIsKnown : Events → ℕ → History → Type 0
IsWhatIsKnown events r h = (g : History) → known events r ≡ Some g → h ≡ g

-- the events lead each of n regions there
abbrev pub LeadAll : ℕ → Events → Histories → Histories → Type 0
LeadAll n events at later = (r : ℕ) → r < n → Leads events r (at r) (later r)
