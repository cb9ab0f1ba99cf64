-- Regions touched in turn.
use Rattle.std.proofs.Common.{◌≡◌, ℕ, ◌<◌, List, [], ◌∷◌, ◌++◌, length, Option, Some, None, IsSome, IsSomeAnd, Result, Ok, Err, OnErr, slice_set, refl, sym, ◌∙◌, ap, subst, arith}
use Rattle.std.specs.Prelude.{slice_get}
use Rattle.s3r_world.specs.Image.{Image}
use Rattle.s3r_world.specs.Outside.{Outside, Looks}
use Rattle.s3r_world.specs.Moments.{looks_then}
use Rattle.s3r_journal.specs.Leaves.{Leaves}
use Rattle.s3r_journal.proofs.Elsewhere.{left_looks}
use Rattle.s3r_history.specs.Words.{History}
use Rattle.s3r_store.specs.declared.loaded_region.LoadedRegion.{LoadedRegion}
use Rattle.s3r_store.specs.declared.store.Store.{Store}
use Rattle.s3r_store.specs.Stands.{StandsFor}
use Rattle.s3r_store.specs.Knows.{Knows, Holds}
use Rattle.s3r_store.proofs.Committed.{stable_at, stands_for}
use Rattle.s3r_desk.specs.Events.{found, Events, known}
use Rattle.s3r_desk.specs.Keeping.{IsHeld, Keeps}
use Rattle.s3r_desk.specs.declared.fault.DeskFault.{DeskFault}
use Rattle.s3r_desk.specs.declared.fault.DeskFault.TheVariants as faults
use Rattle.s3r_desk.specs.Responds.{IsBelow, IsNext, FailsToTouch, FailsAt, Touches}
use Rattle.s3r_desk.proofs.Places.{get_there}
use Rattle.s3r_desk.proofs.Knowing.{known_found, found_elsewhere}
use Rattle.s3r_desk.proofs.Stepping.{happens_none, happens_found, happens_then}
use Rattle.s3r_desk.proofs.Keeps.{knows_as, keeps_set, held_left}

pub touches_none : (before : Events) (a : List Store) (w : Outside) → Looks w w → Keeps before a w → Touches before (Ok tt) a a w w
touches_none before a w looks keeps = record {
  touched = [];
  touches = tt;
  keeps = keeps;
  looks = looks;
  happens = happens_none (length a) w w looks;
  fails =
      tt;
}

module _ (before : Events) (a b : List Store) (r : ℕ) (s s' : Store) (old mid new : Outside) (lt : r < length b) (same : length b ≡ length a)
    (at : slice_get b r ≡ Some s) (looks : Looks mid new) (so_far : Touches before (Ok tt) a b old mid) where
  left : (q : ℕ) → Leaves q mid new
  left q = left_looks q mid new looks

  -- the store stays as it is
  pub touches_same : (result : Result (Unit {0}) DeskFault) → OnErr result (FailsToTouch (IsBelow (length a)) (so_far.touched ++ before) result)
      → IsHeld s'.regions (so_far.touched ++ before) r s'.held new → Touches before result a (slice_set b r s') old new
  touches_same result fails held = record {
    touched = so_far.touched;
    touches = so_far.touches;
    keeps = keeps_set (so_far.touched ++ before) (so_far.touched ++ before) b r s' mid new lt so_far.keeps held (λ q ne. refl) (λ q ne. left q);
    looks = looks_then old mid new so_far.looks looks;
    happens = happens_then (length a) so_far.touched [] old mid new so_far.happens (happens_none (length a) mid new looks);
    fails = fails;
  }

  -- the region's history was found
  pub touches_found : s'.regions ≡ length a → IsNext (IsBelow (length a)) (so_far.touched ++ before) r → (held : LoadedRegion) (h : History) → s'.held
      ≡ Some held
      → Knows (length a) r held h new
      → Touches before (Ok tt) a (slice_set b r s') old new
  touches_found regions next held h is knows =
      let stands = stands_for (length a) r held h new knows in
      let read : new.as_read ≡ old.as_read = (looks_then old mid new so_far.looks looks).as_read in
      record {
        touched = found r h ∷ so_far.touched;
        touches = (next, subst (λ (i : Image). StandsFor (length a) r h (i.volume r)) read stands, so_far.touches);
        keeps = keeps_set (so_far.touched ++ before) (found r h ∷ (so_far.touched ++ before)) b r s' mid new lt so_far.keeps
            (subst (λ (x : Option LoadedRegion). IsHeld s'.regions (found r h ∷ (so_far.touched ++ before)) r x new) (sym is)
            (h, known_found r h (so_far.touched ++ before), subst (λ (m : ℕ). Knows m r held h new) (sym regions) knows))
            (λ q ne. found_elsewhere r q h (so_far.touched ++ before) ne) (λ q ne. left q);
        looks = looks_then old mid new so_far.looks looks;
        happens = happens_then (length a) so_far.touched (found r h ∷ []) old mid new so_far.happens
            (happens_found (length a) r h mid new looks (stable_at r held.end _ new knows.volume) stands);
        fails = tt;
      }

-- what a touch that was made came to
pub holds_held : (n v : ℕ) (o : Option LoadedRegion) (h : History) (w : Outside) → IsSomeAnd o (λ held. Knows n v held h w) → (held : LoadedRegion)
    × (o ≡ Some held) × Knows n v held h w
holds_held n v None h w holds = absurd holds
holds_held n v (Some held) h w holds = (held, refl, holds)

pub some_is : (o : Option LoadedRegion) (held : LoadedRegion) → o ≡ Some held → IsSome o
some_is o held e = subst (λ (x : Option LoadedRegion). IsSome x) (sym e) refl

-- a store that was read has a history that is known
pub known_some : (n : ℕ) (events : Events) (r : ℕ) (o : Option LoadedRegion) (w : Outside) → IsHeld n events r o w → IsSome o → IsSome (known events r)
known_some n events r None w was some = absurd cc
known_some n events r (Some held) w was some = subst (λ (x : Option History). IsSome x) (sym was.1) refl

-- regions below this one were read
abbrev pub AreReadTo : List Store → ℕ → Type 0
AreReadTo stores r = (q : ℕ) (s : Store) → q < r → slice_get stores q ≡ Some s → IsSome s.held

known_before : (events : Events) (stores : List Store) (r : ℕ) (w : Outside) → r < length stores → Keeps events stores w → AreReadTo stores r → (q : ℕ)
    → q < r → IsSome (known events q)
known_before events stores r w lt keeps read q less =
    let there = get_there stores q (omega (arith, lt, less)) in
    known_some there.0.regions events q there.0.held w (keeps q there.0 there.1) (read q there.0 less there.1)

-- a fault of the next region
fails_next : (among : ℕ → Type 0) (events : Events) (r : ℕ) (e : DeskFault) → FailsAt {A = Unit {0}} r (Err e) → IsNext among events r
    → FailsToTouch {A = Unit {0}} among events (Err e)
fails_next among events r (faults.Volume v) at next = subst (λ (m : ℕ). IsNext among events m) (sym at) next
fails_next among events r (faults.Full v) at next = at
fails_next among events r (faults.Damaged v offset) at next = subst (λ (m : ℕ). IsNext among events m) (sym at) next
fails_next among events r (faults.Disagree from to sent last settled received) at next = absurd at
fails_next among events r faults.OutOfMemory at next = (r, next)

module _ (before : Events) (a b : List Store) (r : ℕ) (s s' : Store) (old mid new : Outside) (lt : r < length b) (same : length b ≡ length a)
    (at : slice_get b r ≡ Some s) (looks : Looks mid new) (so_far : Touches before (Ok tt) a b old mid) where
  next : AreReadTo b r → known (so_far.touched ++ before) r ≡ None → IsNext (IsBelow (length a)) (so_far.touched ++ before) r
  next read none = record {
    here = subst (λ (n : ℕ). r < n) same lt;
    unread = none;
    others = λ q below less. known_before (so_far.touched ++ before) b r mid lt so_far.keeps read q less;
  }

  -- it is read now
  pub touches_ok : (number : s'.v ≡ r) (regions : s'.regions ≡ length a) → AreReadTo b r → ((h : History) × Holds s' h new) → (IsSome s.held → s' ≡ s)
      → Touches before (Ok tt) a (slice_set b r s') old new
  touches_ok number regions read holds read_before = go s.held refl (so_far.keeps r s at)
    where
      known_now : (held : LoadedRegion) × (s'.held ≡ Some held) × Knows s'.regions s'.v held holds.0 new
      known_now = holds_held s'.regions s'.v s'.held holds.0 new holds.1

      knows : Knows (length a) r known_now.0 holds.0 new
      knows = knows_as s'.regions (length a) s'.v r known_now.0 holds.0 new regions number known_now.2

      go : (o : Option LoadedRegion) → s.held ≡ o → IsHeld s.regions (so_far.touched ++ before) r o mid → Touches before (Ok tt) a (slice_set b r s') old new
      go None e was = touches_found before a b r s s' old mid new lt same at looks so_far regions (next read was) known_now.0 holds.0 known_now.1 knows
      go (Some held) e was = touches_same before a b r s s' old mid new lt same at looks so_far (Ok tt) tt
          (subst (λ (x : Store). IsHeld x.regions (so_far.touched ++ before) r x.held new) (sym (read_before (some_is s.held held e)))
          (subst (λ (x : Option LoadedRegion). IsHeld s.regions (so_far.touched ++ before) r x new) (sym e)
          (held_left s.regions (so_far.touched ++ before) (so_far.touched ++ before) r (Some held) mid new refl (left_looks r mid new looks) was)))

  -- it stays unread
  pub touches_not : AreReadTo b r → s'.held ≡ None → (IsSome s.held → s' ≡ s) → (e : DeskFault) → FailsAt {A = Unit {0}} r (Err e)
      → Touches before (Err e) a (slice_set b r s') old new
  touches_not read unread read_before fault fails = go s.held refl (so_far.keeps r s at)
    where
      go : (o : Option LoadedRegion) → s.held ≡ o → IsHeld s.regions (so_far.touched ++ before) r o mid
          → Touches before (Err fault) a (slice_set b r s') old new
      go None e was = touches_same before a b r s s' old mid new lt same at looks so_far (Err fault)
          (fails_next (IsBelow (length a)) (so_far.touched ++ before) r fault fails (next read was))
          (subst (λ (x : Option LoadedRegion). IsHeld s'.regions (so_far.touched ++ before) r x new) (sym unread) was)
      go (Some held) e was = let no : None ≡ Some held = sym unread ∙ ap (λ (x : Store). x.held) (read_before (some_is s.held held e)) ∙ e in absurd cc
