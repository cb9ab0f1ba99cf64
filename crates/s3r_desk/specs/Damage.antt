-- When a volume is told to be damaged.
use Rattle.std.specs.Prelude.{ℕ, Result, Ok, Err}
use Rattle.s3r_world.specs.Image.{Image}
use Rattle.s3r_history.specs.Words.{History}
use Rattle.s3r_store.specs.Stands.{StandsFor, DamagedAt}
use Rattle.s3r_desk.specs.declared.fault.DeskFault.{DeskFault}
use Rattle.s3r_desk.specs.declared.fault.DeskFault.TheVariants as faults

-- damage is where the volume stands for no lawful history
abbrev pub IsDamage : {A : Type 0} → ℕ → Image → Result A DeskFault → Type 0
IsDamage n c (Ok a) = Unit {0}
IsDamage n c (Err (faults.Volume v)) = Unit {0}
IsDamage n c (Err (faults.Full v)) = Unit {0}
IsDamage n c (Err (faults.Damaged v offset)) = DamagedAt n v offset (c.volume v) × ((k : History) → StandsFor n v k (c.volume v) → ⊥)
IsDamage n c (Err (faults.Disagree from to sent last settled received)) = Unit {0}
IsDamage n c (Err faults.OutOfMemory) = Unit {0}
