-- One region of several, touched.
use Rattle.std.proofs.Common.{◌≡◌, ℕ, ◌<◌, ◌≤◌, List, [], ◌∷◌, length, Option, Some, None, IsSome, Result, Ok, Err, OnOk, OnErr, slice_set, refl, sym, ◌∙◌, ap, subst, inl, inr, arith}
use Rattle.std.specs.Prelude.{slice_get}
use Rattle.s3r_world.specs.Image.{Image}
use Rattle.s3r_world.specs.Outside.{Outside, Looks, Counts}
use Rattle.s3r_journal.proofs.Elsewhere.{left_looks}
use Rattle.s3r_history.specs.Words.{History}
use Rattle.s3r_store.specs.declared.loaded_region.LoadedRegion.{LoadedRegion}
use Rattle.s3r_store.specs.declared.store.Store.{Store}
use Rattle.s3r_store.specs.Stands.{StandsFor}
use Rattle.s3r_store.specs.Knows.{Knows, Holds, Ties}
use Rattle.s3r_store.proofs.Committed.{stable_at, stands_for}
use Rattle.s3r_desk.specs.declared.fault.DeskFault.{DeskFault}
use Rattle.s3r_desk.specs.declared.fault.DeskFault.TheVariants as faults
use Rattle.s3r_desk.specs.Events.{found, Events, known}
use Rattle.s3r_desk.specs.Keeping.{IsHeld, Keeps}
use Rattle.s3r_desk.specs.Responds.{AsRead, FailsAt, HasCause}
use Rattle.s3r_desk.specs.Happened.{Happened, IsTouch}
use Rattle.s3r_desk.proofs.Knowing.{known_found, found_elsewhere}
use Rattle.s3r_desk.proofs.Stepping.{happens_none, happens_found}
use Rattle.s3r_desk.proofs.Keeps.{knows_as, keeps_set, held_left, ties_none, ties_held}
use Rattle.s3r_desk.proofs.Touched.{holds_held, some_is, known_some}
use Rattle.s3r_desk.proofs.Causes.{cause_wider}

module _ (before : Events) (stores : List Store) (r : ℕ) (s s' : Store) (old new : Outside) (lt : r < length stores) (at : slice_get stores r ≡ Some s)
    (looks : Looks old new) (keeps : Keeps before stores old) where
  -- nothing is known that wasn't
  stays : (result : Result (Unit {0}) DeskFault) → IsTouch (AsRead (length stores) old) before r result [] → IsHeld s'.regions before r s'.held new
      → Happened (IsTouch (AsRead (length stores) old) before r result) before stores (slice_set stores r s') old new
  stays result such held = record {
    events = [];
    such = such;
    keeps = keeps_set before before stores r s' old new lt keeps held (λ q ne. refl) (λ q ne. left_looks q old new looks);
    happens = happens_none (length stores) old new looks;
  }

  -- the region's history was found
  is_found : s'.regions ≡ length stores → known before r ≡ None → (held : LoadedRegion) (h : History) → s'.held ≡ Some held → Knows (length stores) r held h new
      → Happened (IsTouch {A = Unit {0}} (AsRead (length stores) old) before r (Ok tt)) before stores (slice_set stores r s') old new
  is_found regions none held h is knows =
      let stands = stands_for (length stores) r held h new knows in
      let there = known_found r h before in
      record {
        events = found r h ∷ [];
        such = (
          inr (none, h, subst (λ (i : Image). StandsFor (length stores) r h (i.volume r)) looks.as_read stands, refl),
          subst (λ (o : Option History). IsSome o) (sym there) refl,
        );
        keeps = keeps_set before (found r h ∷ before) stores r s' old new lt keeps
            (subst (λ (x : Option LoadedRegion). IsHeld s'.regions (found r h ∷ before) r x new) (sym is)
            (h, there, subst (λ (m : ℕ). Knows m r held h new) (sym regions) knows))
            (λ q ne. found_elsewhere r q h before ne) (λ q ne. left_looks q old new looks);
        happens = happens_found (length stores) r h old new looks (stable_at r held.end _ new knows.volume) stands;
      }

  -- it is read now
  touched : s'.v ≡ r → s'.regions ≡ length stores → ((h : History) × Holds s' h new) → (IsSome s.held → s' ≡ s)
      → Happened (IsTouch {A = Unit {0}} (AsRead (length stores) old) before r (Ok tt)) before stores (slice_set stores r s') old new
  touched number regions holds read_before = go s.held refl (keeps r s at)
    where
      go : (o : Option LoadedRegion) → s.held ≡ o → IsHeld s.regions before r o old
          → Happened (IsTouch {A = Unit {0}} (AsRead (length stores) old) before r (Ok tt)) before stores (slice_set stores r s') old new
      go None e was =
          let it = holds_held s'.regions s'.v s'.held holds.0 new holds.1 in
          is_found regions was it.0 holds.0 it.1 (knows_as s'.regions (length stores) s'.v r it.0 holds.0 new regions number it.2)
      go (Some held) e was = stays (Ok tt) (inl refl, known_some s.regions before r (Some held) old was refl)
          (subst (λ (x : Store). IsHeld x.regions before r x.held new) (sym (read_before (some_is s.held held e)))
          (subst (λ (x : Option LoadedRegion). IsHeld s.regions before r x new) (sym e)
          (held_left s.regions before before r (Some held) old new refl (left_looks r old new looks) was)))

  fails : (e : DeskFault) → known before r ≡ None → FailsAt {A = Unit {0}} r (Err e)
      → IsTouch {A = Unit {0}} (AsRead (length stores) old) before r (Err e) []
  fails (faults.Volume v) none at = (at, none, refl)
  fails (faults.Full v) none at = at
  fails (faults.Damaged v offset) none at = (at, none, refl)
  fails (faults.Disagree from to sent last settled received) none at = at
  fails faults.OutOfMemory none at = refl

  -- it stays unread
  untouched : s'.held ≡ None → (IsSome s.held → s' ≡ s) → (e : DeskFault) → FailsAt {A = Unit {0}} r (Err e)
      → Happened (IsTouch {A = Unit {0}} (AsRead (length stores) old) before r (Err e)) before stores (slice_set stores r s') old new
  untouched unread read_before e at_r = go s.held refl (keeps r s at)
    where
      go : (o : Option LoadedRegion) → s.held ≡ o → IsHeld s.regions before r o old
          → Happened (IsTouch {A = Unit {0}} (AsRead (length stores) old) before r (Err e)) before stores (slice_set stores r s') old new
      go None is was = stays (Err e) (fails e was at_r) (subst (λ (x : Option LoadedRegion). IsHeld s'.regions before r x new) (sym unread) was)
      go (Some held) is was = let no : None ≡ Some held = sym unread ∙ ap (λ (x : Store). x.held) (read_before (some_is s.held held is)) ∙ is in absurd cc

  pub one_touch : (result : Result (Unit {0}) DeskFault) → s'.v ≡ r → s'.regions ≡ length stores → OnOk result ((h : History) × Holds s' h new)
      → OnErr result (s'.held ≡ None) → OnErr result (FailsAt r result) → (IsSome s.held → s' ≡ s)
      → Happened (IsTouch (AsRead (length stores) old) before r result) before stores (slice_set stores r s') old new
  one_touch (Ok x) number regions holds unread at read_before = touched number regions holds read_before
  one_touch (Err e) number regions holds unread at read_before = untouched unread read_before e at

pub ties_touched : (result : Result (Unit {0}) DeskFault) (s' : Store) (w : Outside) → OnOk result ((h : History) × Holds s' h w)
    → OnErr result (s'.held ≡ None) → Ties s' w
ties_touched (Ok x) s' w holds unread = ties_held s' w holds.0 holds.1
ties_touched (Err e) s' w holds unread = ties_none s' w unread

pub cause_at : (result : Result (Unit {0}) DeskFault) (m n : ℕ) (a b : Counts) → m ≤ n → HasCause m result a b → HasCause n result a b
cause_at (Ok x) m n a b le cause = tt
cause_at (Err e) m n a b le cause = cause_wider (Unit {0}) (Unit {0}) m n e a a b le
    (record { most = refl; volume = λ u. omega arith; input = omega arith; output = omega arith; door = omega arith }) cause
