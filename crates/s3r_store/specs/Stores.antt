-- What a store shows, and what a commit does to it.
use Rattle.std.specs.Prelude.{◌≡◌, ℕ, ◌+◌, ◌<◌, ◌≤◌, true, false, ◌∷◌, length, Option, Some, None, Result, Ok, Err, unwrap_or}
use Rattle.std.specs.Option.{option_map}
use Rattle.s3r_world.specs.Outside.{Outside}
use Rattle.s3r_record.specs.declared.command.Command.{Command}
use Rattle.s3r_history.specs.Words.{History}
use Rattle.s3r_history.specs.Accepts.{refusal}
use Rattle.s3r_region.specs.Contents.{Contents}
use Rattle.s3r_store.specs.declared.fault.StoreFault.{StoreFault}
use Rattle.s3r_store.specs.declared.fault.StoreFault.TheVariants as faults
use Rattle.s3r_store.specs.declared.loaded_region.LoadedRegion.{LoadedRegion}
use Rattle.s3r_store.specs.declared.store.Store.{Store}
use Rattle.s3r_store.specs.Knows.{IsStoreAfter, Holds}
use Rattle.s3r_store.specs.Commits.{Commits, length_with}

abbrev pub state_of : Store → Option Contents
state_of store = option_map (λ (held : LoadedRegion). held.state) store.held

abbrev pub end_in : Option LoadedRegion → ℕ
end_in None = 0
end_in (Some held) = unwrap_or held.end 0

abbrev pub end_of : Store → ℕ
end_of store = end_in store.held

-- where a command is refused, each history that the state is after refuses it so
abbrev pub IsRefusal : Store → Command → StoreFault → Type 0
IsRefusal store c (faults.Refused f) = (h : History) → IsStoreAfter store h → refusal store.regions store.v h c ≡ Some f
IsRefusal store c (faults.Full u) = Unit {0}
IsRefusal store c (faults.Volume u) = Unit {0}
IsRefusal store c (faults.Damaged u offset) = Unit {0}
IsRefusal store c faults.OutOfMemory = Unit {0}

-- what a commit behind this history came to
abbrev pub StoreCommits : (n v : ℕ) → History → Command → Result ℕ StoreFault → ℕ → Store → Store → Outside → Outside → Type 0
StoreCommits n v h c (Ok index) room a b old new =
    (index ≡ length h + 1) × (refusal n v h c ≡ None) × (length_with v h c ≤ room) × Holds b (c ∷ h) new × Commits n v h c true old new
StoreCommits n v h c (Err (faults.Refused f)) room a b old new = refusal n v h c ≡ Some f
StoreCommits n v h c (Err (faults.Full u)) room a b old new = (refusal n v h c ≡ None) × (room < length_with v h c)
StoreCommits n v h c (Err (faults.Volume u)) room a b old new = (refusal n v h c ≡ None) × (length_with v h c ≤ room) × (b.held ≡ None)
    × Commits n v h c false old new
StoreCommits n v h c (Err (faults.Damaged u offset)) room a b old new = ⊥
StoreCommits n v h c (Err faults.OutOfMemory) room a b old new = (refusal n v h c ≡ None) × (b.held ≡ None) × Commits n v h c false old new
