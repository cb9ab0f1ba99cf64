-- What a store holds is after some lawful history, whatever the world tells.
use Rattle.std.proofs.Common.{◌≡◌, ℕ, ◌∷◌, length, Option, Some, None, refl, sym, ◌∙◌, subst}
use Rattle.std.proofs.Math.Logic.{∥∥₁_elim, ∥∥₁_map}
use Rattle.std.proofs.Math.Nat.{ℕ_set}
use Rattle.std.specs.Prelude.{IsSome, IsSomeAnd, option_map}
use Rattle.s3r_record.specs.declared.command.Command.{Command}
use Rattle.s3r_record.specs.Spelling.{IsCommand}
use Rattle.s3r_history.specs.declared.refusal.Refusal.{Refusal}
use Rattle.s3r_history.specs.Words.{History}
use Rattle.s3r_history.specs.Accepts.{refusal, IsLawful}
use Rattle.s3r_region.specs.Contents.{Contents}
use Rattle.s3r_region.specs.After.{IsAfter}
use Rattle.s3r_store.specs.declared.fault.StoreFault.{StoreFault}
use Rattle.s3r_store.specs.declared.fault.StoreFault.TheVariants as faults
use Rattle.s3r_store.specs.declared.loaded_region.LoadedRegion.{LoadedRegion}
use Rattle.s3r_store.specs.declared.store.Store.{Store}
use Rattle.s3r_store.specs.Loaded.{IsLoaded, IsDenied}
use Rattle.s3r_store.specs.Knows.{IsStoreAfter, IsAfterSome}
use Rattle.s3r_store.specs.Stores.{IsRefusal, state_of}
use Rattle.s3r_store.proofs.Histories.{accepted_as}

pub region-of : (n v : ℕ) (held : LoadedRegion) → ∥ IsLoaded n v held ∥₁ → held.state.region ≡ v
region-of n v held some = ∥∥₁_elim some (ℕ_set _ _) (λ l. l.2)

pub regions-of : (n v : ℕ) (held : LoadedRegion) → ∥ IsLoaded n v held ∥₁ → held.state.regions ≡ n
regions-of n v held some = ∥∥₁_elim some (ℕ_set _ _) (λ l. l.3)

-- it notes what was received last from each region
pub notes-of : (n v : ℕ) (held : LoadedRegion) → ∥ IsLoaded n v held ∥₁ → length held.state.inbox ≡ n
notes-of n v held some = ∥∥₁_elim some (ℕ_set _ _) (λ l. l.1.queues.notes ∙ l.3)

-- each history that the state is after accepts the command, and the new state is after that with the command
abbrev pub GoesOn : LoadedRegion → LoadedRegion → Command → Type 0
GoesOn old new c = (h : History) → IsAfter old.state h → (refusal old.state.regions old.state.region h c ≡ None) × IsAfter new.state (c ∷ h)

pub loaded-then : (n v : ℕ) (old new : LoadedRegion) (c : Command) → IsCommand c → GoesOn old new c → new.state.region ≡ old.state.region
    → new.state.regions ≡ old.state.regions → ∥ IsLoaded n v old ∥₁ → ∥ IsLoaded n v new ∥₁
loaded-then n v old new c fits goes region regions some =
    ∥∥₁_map some (λ l.
    let next = goes l.0 l.1 in (c ∷ l.0, next.1, region ∙ l.2, regions ∙ l.3, (fits, accepted_as _ _ _ _ l.0 c l.3 l.2 next.0, l.4)))

-- ---- of a store

pub after-some : (store : Store) → IsSome store.held → IsAfterSome store
after-some store read = go store.held refl read
  where
    go : (o : Option LoadedRegion) → store.held ≡ o → IsSome o → IsAfterSome store
    go None e read = absurd cc
    go (Some held) e read =
        ∥∥₁_map (store.lawful held e)
        (λ l. (l.0, subst (λ (o : Option LoadedRegion). IsSomeAnd o (λ (held : LoadedRegion). IsAfter held.state l.0)) (sym e) l.1, l.4))

-- what is held of a store that was read
pub state-of : (store : Store) (s : Contents) → Some s ≡ state_of store → (held : LoadedRegion) × (store.held ≡ Some held) × (s ≡ held.state)
state-of store s is = go store.held refl is
  where
    go : (o : Option LoadedRegion) → store.held ≡ o → Some s ≡ option_map (λ (held : LoadedRegion). held.state) o
        → (held : LoadedRegion) × (store.held ≡ Some held) × (s ≡ held.state)
    go None e is = absurd cc
    go (Some held) e is = (held, e, cc)

pub held-after : (store : Store) (held : LoadedRegion) (h : History) → store.held ≡ Some held → IsStoreAfter store h → IsAfter held.state h
held-after store held h e after = subst (λ (o : Option LoadedRegion). IsSomeAnd o (λ (held : LoadedRegion). IsAfter held.state h)) e after

refusal-as : (m n q r : ℕ) (h : History) (c : Command) (o : Option Refusal) → m ≡ n → q ≡ r → refusal m q h c ≡ o → refusal n r h c ≡ o
refusal-as m n q r h c o regions region is =
    subst (λ (k : ℕ). refusal k r h c ≡ o) regions (subst (λ (k : ℕ). refusal m k h c ≡ o) region is)

module _ (store : Store) (held : LoadedRegion) (is : store.held ≡ Some held) (c : Command) where
  as-stored : (h : History) (o : Option Refusal) → refusal held.state.regions held.state.region h c ≡ o → refusal store.regions store.v h c ≡ o
  as-stored h o said =
      refusal-as _ _ _ _ h c o (regions-of store.regions store.v held (store.lawful held is)) (region-of store.regions store.v held (store.lawful held is)) said

  pub refused-as : (e : StoreFault) → IsDenied held c e → IsRefusal store c e
  refused-as (faults.Refused f) denied = λ h after. as-stored h (Some f) (denied h (held-after store held h is after))
  refused-as (faults.Full u) denied = tt
  refused-as (faults.Volume u) denied = tt
  refused-as (faults.Damaged u offset) denied = tt
  refused-as faults.OutOfMemory denied = tt

  pub goes-on : (new : LoadedRegion) → GoesOn held new c → (h : History) → IsStoreAfter store h
      → (refusal store.regions store.v h c ≡ None) × IsAfter new.state (c ∷ h)
  goes-on new goes h after = let next = goes h (held-after store held h is after) in (as-stored h None next.0, next.1)

-- What each lawful history accepts isn't refused.
pub never-refused : (store : Store) (c : Command) → IsSome store.held
    → ((h : History) → IsStoreAfter store h → IsLawful store.regions store.v h → refusal store.regions store.v h c ≡ None) → (f : Refusal)
    → IsRefusal store c (faults.Refused f) → ⊥
never-refused store c read accepted f refused =
    ∥∥₁_elim (after-some store read) (λ x. absurd x) (λ s. let none = accepted s.0 s.1 s.2 in let some = refused s.0 s.1 in absurd cc)
