-- What reading a volume tells.
use Rattle.std.specs.Prelude.{◌≡◌, ℕ, List, ◌∷◌, None, Result, Ok, Err}
use Rattle.s3r_world.specs.declared.world.Side.TheVariants as side
use Rattle.s3r_world.specs.Outside.{Counts, Rises}
use Rattle.s3r_record.specs.declared.command.Command.{Command}
use Rattle.s3r_record.specs.Spelling.{spelling, IsCommand}
use Rattle.s3r_history.specs.Words.{History}
use Rattle.s3r_history.specs.Accepts.{refusal}
use Rattle.s3r_region.specs.Contents.{Contents}
use Rattle.s3r_region.specs.After.{IsAfter}
use Rattle.s3r_store.specs.declared.fault.StoreFault.{StoreFault}
use Rattle.s3r_store.specs.declared.fault.StoreFault.TheVariants as faults
use Rattle.s3r_store.specs.Stands.{StandsFor, DamagedAt}

-- one command more was taken in
pub record TakesOne (n r : ℕ) (s : List ℕ) (h : History) (new : Contents) : Type 0 where
  pub command : Command
  pub fits : IsCommand command
  pub spelled : s ≡ spelling command
  pub accepted : refusal n r h command ≡ None
  pub after : IsAfter new (command ∷ h)

-- the command that is spelled so was taken in, or there is none that the history accepts
abbrev pub TakesIn : {A : Type 0} → ℕ → ℕ → List ℕ → Result A StoreFault → Contents → Contents → Type 0
TakesIn v at s (Ok x) old new = ((h : History) → IsAfter old h → TakesOne old.regions old.region s h new) × (new.region ≡ old.region)
    × (new.regions ≡ old.regions)
TakesIn v at s (Err (faults.Refused f)) old new = ⊥
TakesIn v at s (Err (faults.Full u)) old new = ⊥
TakesIn v at s (Err (faults.Volume u)) old new = ⊥
TakesIn v at s (Err (faults.Damaged u offset)) old new =
    (u ≡ v) × (offset ≡ at) × ((h : History) → IsAfter old h → (c : Command) → IsCommand c → s ≡ spelling c → refusal old.regions old.region h c ≡ None → ⊥)
TakesIn v at s (Err faults.OutOfMemory) old new = Unit {0}

-- damage is told where it is, and the bytes stand for no lawful history then
abbrev pub IsDamage : (n v : ℕ) → List ℕ → StoreFault → Type 0
IsDamage n v bytes (faults.Refused f) = Unit {0}
IsDamage n v bytes (faults.Full u) = Unit {0}
IsDamage n v bytes (faults.Volume u) = Unit {0}
IsDamage n v bytes (faults.Damaged u offset) = DamagedAt n v offset bytes × ((k : History) → StandsFor n v k bytes → ⊥)
IsDamage n v bytes faults.OutOfMemory = Unit {0}

-- why a volume wasn't read
abbrev pub HasCause : ℕ → StoreFault → Counts → Counts → Type 0
HasCause v (faults.Refused f) old new = ⊥
HasCause v (faults.Full u) old new = ⊥
HasCause v (faults.Volume u) old new = (u ≡ v) × Rises 1 (side.Volume v) old new
HasCause v (faults.Damaged u offset) old new = u ≡ v
HasCause v faults.OutOfMemory old new = Unit {0}
