-- What stores that were read tell a turn of the copier.
use Rattle.std.proofs.Common.{◌≡◌, ℕ, ◌<◌, List, [], length, Option, Some, None, IsSome, IsSomeAnd, refl, sym, ◌∙◌, ap, subst}
use Rattle.std.specs.Prelude.{slice_get, option_map, unwrap_or}
use Rattle.std.specs.Option.{option_and_then}
use Rattle.s3r_world.specs.Outside.{Outside}
use Rattle.s3r_history.specs.Words.{History}
use Rattle.s3r_history.specs.declared.due.Due.{Due}
use Rattle.s3r_region.specs.Contents.{Contents}
use Rattle.s3r_region.specs.After.{IsAfter}
use Rattle.s3r_store.specs.declared.loaded_region.LoadedRegion.{LoadedRegion}
use Rattle.s3r_store.specs.declared.store.Store.{Store}
use Rattle.s3r_store.specs.Knows.{Knows, IsStoreAfter}
use Rattle.s3r_store.specs.Stores.{state_of}
use Rattle.s3r_desk.specs.Events.{Events, known, history_at}
use Rattle.s3r_desk.specs.Keeping.{IsHeld, Keeps, AreNumbered}
use Rattle.s3r_desk.specs.Comparing.{pair_fault, contents_at, seen_by, seen_fault}
use Rattle.s3r_desk.specs.Copying.{due_of, IsCompared, IsDue}
use Rattle.s3r_desk.specs.Happened.{StoreHas, IsReadAt, IsFirstDueAt, IsDueAt}
use Rattle.s3r_desk.proofs.Places.{get_there}
use Rattle.s3r_desk.proofs.Disagreeing.{same_fault}

-- a store that was read has a history that is known
pub record IsKnownAt (before : Events) (r : ℕ) (x : Store) (w : Outside) : Type 0 where
  pub held : LoadedRegion
  pub is : x.held ≡ Some held
  pub known_is : known before r ≡ Some (history_at before r)
  pub knows : Knows x.regions r held (history_at before r) w

held_known : (before : Events) (n r : ℕ) (o : Option LoadedRegion) (w : Outside) → IsHeld n before r o w → IsSome o
    → (held : LoadedRegion) × (o ≡ Some held) × (known before r ≡ Some (history_at before r)) × Knows n r held (history_at before r) w
held_known before n r None w was some = absurd cc
held_known before n r (Some held) w was some =
    let same : was.0 ≡ history_at before r = sym (ap (λ (o : Option History). unwrap_or o []) was.1) in
    (held, refl, subst (λ (h : History). known before r ≡ Some h) same was.1, subst (λ (h : History). Knows n r held h w) same was.2)

module _ (before : Events) (stores : List Store) (w : Outside) (keeps : Keeps before stores w) (r : ℕ) where
  pub known_store : (x : Store) → slice_get stores r ≡ Some x → IsSome x.held → IsKnownAt before r x w
  known_store x get some =
      let it = held_known before x.regions r x.held w (keeps r x get) some in
      record { held = it.0; is = it.1; known_is = it.2; knows = it.3 }

  pub store_after : (x : Store) → slice_get stores r ≡ Some x → IsSome x.held → IsStoreAfter x (history_at before r)
  store_after x get some =
      let it = known_store x get some in
      subst (λ (o : Option LoadedRegion). IsSomeAnd o (λ held. IsAfter held.state (history_at before r))) (sym it.is) it.knows.after

  pub is_known : r < length stores → IsReadAt stores r → IsSome (known before r)
  is_known lt read =
      let there = get_there stores r lt in
      let it = known_store there.0 there.1 (read there.0 there.1) in
      subst (λ (o : Option History). IsSome o) (sym it.known_is) refl

  pub unread_unknown : (x : Store) → slice_get stores r ≡ Some x → x.held ≡ None → known before r ≡ None
  unread_unknown x get none = go x.held none (keeps r x get)
    where
      go : (o : Option LoadedRegion) → o ≡ None → IsHeld x.regions before r o w → known before r ≡ None
      go None e was = was
      go (Some held) e was = absurd cc

pub unknown_at : (before : Events) (stores : List Store) (w : Outside) → Keeps before stores w → (r : ℕ) → r < length stores
    → StoreHas (λ x. x.held ≡ None) stores r → known before r ≡ None
unknown_at before stores w keeps r lt unread =
    let there = get_there stores r lt in unread_unknown before stores w keeps r there.0 there.1 (unread there.0 there.1)

module _ (before : Events) (stores : List Store) (w : Outside) (keeps : Keeps before stores w) (numbered : AreNumbered stores) (s d : ℕ)
    (ls : s < length stores) (ld : d < length stores) (from : IsReadAt stores s) (to : IsReadAt stores d) where
  -- the comparison of two stores is that of their histories
  pub compared_is : seen_fault stores s d ≡ pair_fault s d (history_at before s) (history_at before d)
  compared_is =
      let x = get_there stores s ls in
      let y = get_there stores d ld in
      let a = known_store before stores w keeps s x.0 x.1 (from x.0 x.1) in
      let b = known_store before stores w keeps d y.0 y.1 (to y.0 y.1) in
      let at_s : contents_at stores s ≡ Some a.held.state =
      ap (option_and_then state_of) x.1 ∙ ap (option_map (λ (held : LoadedRegion). held.state)) a.is in
      let at_d : contents_at stores d ≡ Some b.held.state =
      ap (option_and_then state_of) y.1 ∙ ap (option_map (λ (held : LoadedRegion). held.state)) b.is in
      ap (λ (o : Option Contents). seen_by s d o (contents_at stores d)) at_s ∙ ap (seen_by s d (Some a.held.state)) at_d
      ∙ same_fault s d a.held.state b.held.state (history_at before s) (history_at before d) a.knows.after b.knows.after a.knows.region b.knows.region
      (subst (λ (m : ℕ). s < m) (sym (b.knows.regions ∙ numbered.regions d y.0 y.1)) ls)

-- the task that a store has is that of its history
first_due_is : (before : Events) (stores : List Store) (w : Outside) → Keeps before stores w → AreNumbered stores → (s d : ℕ) (o : Option Due)
    → s < length stores → IsReadAt stores s → IsFirstDueAt stores s d o → due_of s d (history_at before s) ≡ o
first_due_is before stores w keeps numbered s d o lt read due =
    let x = get_there stores s lt in
    subst (λ (v : ℕ). due_of v d (history_at before s) ≡ o) (numbered.v s x.0 x.1)
    (due x.0 x.1 (history_at before s) (store_after before stores w keeps s x.0 x.1 (read x.0 x.1)))

pub due_is : (before : Events) (stores : List Store) (w : Outside) → Keeps before stores w → AreNumbered stores → (s d : ℕ) (t : Due) → s < length stores
    → IsReadAt stores s → IsDueAt stores s d t → due_of s d (history_at before s) ≡ Some t
due_is before stores w keeps numbered s d t lt read due = first_due_is before stores w keeps numbered s d (Some t) lt read due

pub due_none : (before : Events) (stores : List Store) (w : Outside) → Keeps before stores w → AreNumbered stores → (s d : ℕ) → s < length stores
    → IsReadAt stores s → IsFirstDueAt stores s d None → due_of s d (history_at before s) ≡ None
due_none before stores w keeps numbered s d lt read due = first_due_is before stores w keeps numbered s d None lt read due

-- a pair that was compared, and a task that is pending
module _ (before : Events) (stores : List Store) (w : Outside) (keeps : Keeps before stores w) (numbered : AreNumbered stores) (s d : ℕ)
    (ls : s < length stores) (ld : d < length stores) (from : IsReadAt stores s) (to : IsReadAt stores d) (compared : seen_fault stores s d ≡ None) where
  pub is_compared : IsCompared s d before
  is_compared = record {
    from = is_known before stores w keeps s ls from;
    to = is_known before stores w keeps d ld to;
    within = sym (compared_is before stores w keeps numbered s d ls ld from to) ∙ compared;
  }

  pub is_due : (t : Due) → IsDueAt stores s d t → IsDue s d before t
  is_due t due = record { compared = is_compared; due = due_is before stores w keeps numbered s d t ls from due }
