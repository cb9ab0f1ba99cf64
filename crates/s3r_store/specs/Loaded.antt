-- What was loaded of a region, whatever the world tells.
use Rattle.std.specs.Prelude.{◌≡◌, ℕ, Some}
use Rattle.s3r_record.specs.declared.command.Command.{Command}
use Rattle.s3r_history.specs.Words.{History}
use Rattle.s3r_history.specs.Accepts.{refusal, IsLawful}
use Rattle.s3r_region.specs.After.{IsAfter}
use Rattle.s3r_store.specs.declared.fault.StoreFault.{StoreFault}
use Rattle.s3r_store.specs.declared.fault.StoreFault.TheVariants as faults
use Rattle.s3r_store.specs.declared.loaded_region.LoadedRegion.{LoadedRegion}

-- the state is after some lawful history of region v, one of n
abbrev pub IsLoaded : (n v : ℕ) → LoadedRegion → Type 0
IsLoaded n v held = (h : History) × IsAfter held.state h × (held.state.region ≡ v) × (held.state.regions ≡ n) × IsLawful n v h

-- where a command is refused, each history that the state is after refuses it so
abbrev pub IsDenied : LoadedRegion → Command → StoreFault → Type 0
IsDenied held c (faults.Refused f) = (h : History) → IsAfter held.state h → refusal held.state.regions held.state.region h c ≡ Some f
IsDenied held c (faults.Full u) = Unit {0}
IsDenied held c (faults.Volume u) = Unit {0}
IsDenied held c (faults.Damaged u offset) = Unit {0}
IsDenied held c faults.OutOfMemory = Unit {0}
