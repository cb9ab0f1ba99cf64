-- What one commit leaves of several stores.
use Rattle.std.proofs.Common.{◌≡◌, ◌≢◌, ℕ, ◌<◌, Bool, true, false, List, [], ◌∷◌, length, Option, Some, None, IfSome, IsSome, IsSomeAnd, Result, Ok, Err, OnOk, IfErr, slice_set, refl, sym, ◌∙◌, subst}
use Rattle.std.specs.Prelude.{slice_get}
use Rattle.std.proofs.Math.Logic.{∥∥₁_elim}
use Rattle.std.proofs.Math.Bool.{Bool-set}
use Rattle.s3r_world.specs.declared.world.Side.TheVariants as side
use Rattle.s3r_world.specs.Outside.{Outside, Looks, Counts, Rises}
use Rattle.s3r_journal.proofs.Elsewhere.{left_looks, left_elsewhere}
use Rattle.s3r_record.specs.declared.command.Command.{Command}
use Rattle.s3r_history.specs.declared.refusal.Refusal.{Refusal}
use Rattle.s3r_history.specs.Words.{History}
use Rattle.s3r_history.specs.Accepts.{refusal}
use Rattle.s3r_region.specs.After.{IsAfter}
use Rattle.s3r_store.specs.declared.fault.StoreFault.{StoreFault}
use Rattle.s3r_store.specs.declared.fault.StoreFault.TheVariants as store
use Rattle.s3r_store.specs.declared.loaded_region.LoadedRegion.{LoadedRegion}
use Rattle.s3r_store.specs.declared.store.Store.{Store}
use Rattle.s3r_store.specs.Knows.{IsKnown, Knows, IsStoreAfter, Holds, Ties}
use Rattle.s3r_store.specs.Commits.{IsEither, Commits, IsCause, WhereDenied}
use Rattle.s3r_store.specs.Stores.{IsRefusal, StoreCommits}
use Rattle.s3r_store.proofs.Lawful.{after-some, never-refused}
use Rattle.s3r_desk.specs.declared.committing.Committed.TheVariants as committed
use Rattle.s3r_desk.specs.declared.fault.DeskFault.{DeskFault}
use Rattle.s3r_desk.specs.declared.fault.DeskFault.TheVariants as faults
use Rattle.s3r_desk.specs.Events.{found, began, Events, known, history_at}
use Rattle.s3r_desk.specs.Copying.{IsNoDamage}
use Rattle.s3r_desk.specs.Keeping.{Keeps, AreNumbered, AreTied}
use Rattle.s3r_desk.specs.Responds.{HasCause, CommitsOne}
use Rattle.s3r_desk.specs.Happened.{StoreHas, Happened, IsCommit, IsReadAt, IsAcceptedAt}
use Rattle.s3r_desk.specs.Committing.{told_as, IsRefusedAt, GoesOnWhere}
use Rattle.s3r_desk.proofs.Places.{get_there, one_of}
use Rattle.s3r_desk.proofs.Keeps.{tied_set, tied_but, known_left, ties_none, ties_held}
use Rattle.s3r_desk.proofs.OneStore.{store_set}
use Rattle.s3r_desk.proofs.CopyStores.{known_store}

-- ---- of its cause

pub undamaged : (v : ℕ) (result : Result ℕ StoreFault) (a b : Counts) → IsCause v result a b → (u offset : ℕ) → result ≢ Err (store.Damaged u offset)
undamaged v result a b cause u offset is = subst (λ (x : Result ℕ StoreFault). IsCause v x a b) is cause

-- so the desk tells no damage
pub told_undamaged : (result : Result ℕ StoreFault) → ((u offset : ℕ) → result ≢ Err (store.Damaged u offset)) → IfErr (told_as result) IsNoDamage
told_undamaged (Ok index) none = tt
told_undamaged (Err (store.Refused why)) none = tt
told_undamaged (Err (store.Full u)) none = tt
told_undamaged (Err (store.Volume u)) none = tt
told_undamaged (Err (store.Damaged u offset)) none = none u offset refl
told_undamaged (Err store.OutOfMemory) none = tt

pub cause_told : (v n : ℕ) (result : Result ℕ StoreFault) (a b : Counts) → v < n → IsCause v result a b → HasCause n (told_as result) a b
cause_told v n (Ok index) a b lt cause = tt
cause_told v n (Err (store.Refused why)) a b lt cause = tt
cause_told v n (Err (store.Full u)) a b lt cause = subst (λ (m : ℕ). m < n) (sym cause) lt
cause_told v n (Err (store.Volume u)) a b lt cause =
    (subst (λ (m : ℕ). m < n) (sym cause.0) lt, subst (λ (m : ℕ). Rises 1 (side.Volume m) a b) (sym cause.0) cause.1)
cause_told v n (Err (store.Damaged u offset)) a b lt cause = absurd cause
cause_told v n (Err store.OutOfMemory) a b lt cause = tt

-- ---- of its store

after_read : (o : Option LoadedRegion) (h : History) → IsSomeAnd o (λ held. IsAfter held.state h) → IsSome o
after_read None h after = absurd after
after_read (Some held) h after = refl

-- the store's state goes on to be after the command
abbrev pub StoreGoesOn : Store → Command → Store → Type 0
StoreGoesOn s c s' = (h : History) → IsStoreAfter s h → (refusal s.regions s.v h c ≡ None) × IsStoreAfter s' (c ∷ h)

still_read : (s s' : Store) (c : Command) → IsSome s.held → StoreGoesOn s c s' → IsSome s'.held
still_read s s' c read goes = ∥∥₁_elim (after-some s read) (Bool-set _ _) (λ l. after_read s'.held (c ∷ l.0) (goes l.0 l.1).1)

holds_of : (n v : ℕ) (o : Option LoadedRegion) (w : Outside) → IsSome o → IfSome o (λ held. IsKnown n v held w)
    → (h : History) × IsSomeAnd o (λ held. Knows n v held h w)
holds_of n v None w read ties = absurd cc
holds_of n v (Some held) w read ties = ties

-- a store with the same numbers that holds the same
ties_same : (s s' : Store) (w : Outside) → s'.v ≡ s.v → s'.regions ≡ s.regions → s'.held ≡ s.held → Ties s w → Ties s' w
ties_same s s' w v regions held ties =
    subst (λ (n : ℕ). IfSome s'.held (λ x. IsKnown n s'.v x w)) (sym regions)
    (subst (λ (m : ℕ). IfSome s'.held (λ x. IsKnown s.regions m x w)) (sym v)
    (subst (λ (o : Option LoadedRegion). IfSome o (λ x. IsKnown s.regions s.v x w)) (sym held) ties))

module _ (stores : List Store) (r : ℕ) (s s' : Store) (c : Command) (lt : r < length stores) (at : slice_get stores r ≡ Some s) where
  pub refused_told : (result : Result ℕ StoreFault) → IfErr result (IsRefusal s c) → IsRefusedAt stores r c (told_as result)
  refused_told (Ok index) refused = tt
  refused_told (Err (store.Refused why)) refused = λ x get.
      subst (λ (y : Store). (h : History) → IsStoreAfter y h → refusal y.regions y.v h c ≡ Some why) (one_of (slice_get stores r) s x at get) refused
  refused_told (Err (store.Full v)) refused = tt
  refused_told (Err (store.Volume v)) refused = tt
  refused_told (Err (store.Damaged v offset)) refused = tt
  refused_told (Err store.OutOfMemory) refused = tt

  goes_on_now : IsSome s.held → StoreGoesOn s c s' → (x : Store) → slice_get stores r ≡ Some x
      → StoreHas (λ y. IsSome y.held × ((h : History) → IsStoreAfter x h → IsStoreAfter y (c ∷ h))) (slice_set stores r s') r
  goes_on_now read goes x get = subst
      (λ (x : Store). StoreHas (λ y. IsSome y.held × ((h : History) → IsStoreAfter x h → IsStoreAfter y (c ∷ h))) (slice_set stores r s') r)
      (one_of (slice_get stores r) s x at get)
      (store_set (λ (y : Store). IsSome y.held × ((h : History) → IsStoreAfter s h → IsStoreAfter y (c ∷ h))) stores r s' lt
      (still_read s s' c read goes, λ h after. (goes h after).1))

  pub goes_on_told : (result : Result ℕ StoreFault) → IsSome s.held → OnOk result (StoreGoesOn s c s')
      → GoesOnWhere stores (slice_set stores r s') r c (told_as result)
  goes_on_told (Ok index) read goes = goes_on_now read goes
  goes_on_told (Err (store.Refused why)) read goes = tt
  goes_on_told (Err (store.Full v)) read goes = tt
  goes_on_told (Err (store.Volume v)) read goes = tt
  goes_on_told (Err (store.Damaged v offset)) read goes = tt
  goes_on_told (Err store.OutOfMemory) read goes = tt

  module _ (old new : Outside) (numbered : AreNumbered stores) (tied : AreTied stores old) (v : s'.v ≡ s.v) (regions : s'.regions ≡ s.regions) where
    -- nothing was written
    looked : Looks old new → s'.held ≡ s.held → AreTied (slice_set stores r s') new
    looked looks held = tied_set stores r s' old new lt tied
        (ties_same s s' new v regions held (known_left s.regions s.v s.held old new (left_looks s.v old new looks) (tied r s at)))
        (λ q. left_looks q old new looks)

    -- its own volume was
    wrote : (n m : ℕ) (h : History) (k : Command) → m ≡ r → (ok : Bool) → Ties s' new → Commits n m h k ok old new → AreTied (slice_set stores r s') new
    wrote n m h k is ok ties did = tied_but stores r s' old new lt numbered tied ties
        (λ q ne. left_elsewhere m q (IsEither n m h k) (IsEither n m h k) old new (λ e. ne (e ∙ is)) did.images did.as_read)

    tied_so : (h : History) (room : ℕ) (result : Result ℕ StoreFault) → StoreCommits s.regions s.v h c result room s s' old new
        → WhereDenied result (Looks old new × (s'.held ≡ s.held)) → AreTied (slice_set stores r s') new
    tied_so h room (Ok index) told denied =
        wrote s.regions s.v h c (numbered.v r s at) true (ties_held s' new (c ∷ h) told.3) told.4
    tied_so h room (Err (store.Refused why)) told denied = looked denied.0 denied.1
    tied_so h room (Err (store.Full u)) told denied = looked denied.0 denied.1
    tied_so h room (Err (store.Volume u)) told denied =
        wrote s.regions s.v h c (numbered.v r s at) false (ties_none s' new told.2) told.3
    tied_so h room (Err (store.Damaged u offset)) told denied = absurd told
    tied_so h room (Err store.OutOfMemory) told denied =
        wrote s.regions s.v h c (numbered.v r s at) false (ties_none s' new told.1) told.2

    pub tied_told : (room : ℕ) (result : Result ℕ StoreFault) → IsSome s.held
        → ((h : History) → Holds s h old → StoreCommits s.regions s.v h c result room s s' old new)
        → WhereDenied result (Looks old new × (s'.held ≡ s.held)) → AreTied (slice_set stores r s') new
    tied_told room result read told denied =
        let it = holds_of s.regions s.v s.held old read (tied r s at) in tied_so it.0 room result (told it.0 it.1) denied

-- ---- of a command that its region accepts

pub never_refused : (stores : List Store) (r : ℕ) (c : Command) (why : Refusal) → r < length stores → IsReadAt stores r → IsAcceptedAt stores r c
    → IsRefusedAt stores r c (Ok (committed.Refused why)) → ⊥
never_refused stores r c why lt read accepted refused =
    let there = get_there stores r lt in
    never-refused there.0 c (read there.0 there.1) (λ h after lawful. accepted there.0 there.1 h after) why (refused there.0 there.1)

pub known_at : (before : Events) (stores : List Store) (r : ℕ) (w : Outside) → Keeps before stores w → r < length stores → IsReadAt stores r
    → known before r ≡ Some (history_at before r)
known_at before stores r w keeps lt read =
    let there = get_there stores r lt in (known_store before stores w keeps r there.0 there.1 (read there.0 there.1)).known_is

module _ (before : Events) (a b : List Store) (r : ℕ) (c : Command) (room : ℕ → ℕ) (old new : Outside) where
  pub own_made : (index : ℕ) → CommitsOne before (length a) r (history_at before r) c (room r) (Ok (committed.At index)) b old new
      → Happened (IsCommit {A = Unit {0}} room before r c (Ok tt)) before a b old new
  own_made index did = record {
    events = found r (c ∷ history_at before r) ∷ began r c ∷ [];
    such = (did.2, refl);
    keeps = did.3;
    happens = did.4;
  }

  pub own_failed : (e : DeskFault) → CommitsOne before (length a) r (history_at before r) c (room r) (Err e) b old new
      → Happened (IsCommit {A = Unit {0}} room before r c (Err e)) before a b old new
  own_failed (faults.Volume v) did = record { events = began r c ∷ []; such = (did.0, did.2, refl); keeps = did.3; happens = did.4 }
  own_failed (faults.Full v) did = record { events = []; such = (did.0, did.2, refl); keeps = did.3; happens = did.4 }
  own_failed (faults.Damaged v offset) did = absurd did
  own_failed (faults.Disagree from to sent last settled received) did = absurd did
  own_failed faults.OutOfMemory did = record { events = began r c ∷ []; such = refl; keeps = did.1; happens = did.2 }
