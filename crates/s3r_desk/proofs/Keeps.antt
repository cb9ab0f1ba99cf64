-- Stores of which one is replaced.
use Rattle.std.proofs.Common.{◌≡◌, ℕ, ◌<◌, List, length, Option, Some, None, IfSome, IsSome, IsSomeAnd, ◌+◌, arith, slice_set, refl, sym, ◌∙◌, ap, subst, ⊎_elim}
use Rattle.std.specs.Prelude.{slice_get}
use Rattle.std.proofs.Math.ListN.{length-set}
use Rattle.std.proofs.lemmas.Bool.{cases_lt}
use Rattle.s3r_world.specs.Outside.{Outside}
use Rattle.s3r_journal.specs.Leaves.{Leaves}
use Rattle.s3r_history.specs.Words.{History}
use Rattle.s3r_store.specs.declared.loaded_region.LoadedRegion.{LoadedRegion}
use Rattle.s3r_store.specs.declared.store.Store.{Store}
use Rattle.s3r_store.specs.Knows.{Knows, Ties, IsKnown, Holds}
use Rattle.s3r_store.proofs.Left.{knows_left}
use Rattle.s3r_desk.specs.Events.{Events, known}
use Rattle.s3r_desk.specs.Keeping.{AreNumbered, IsHeld, Keeps, AreTied}
use Rattle.s3r_desk.proofs.Places.{same_or_other, get_set_same, get_set_other, one_of}

-- numbers that are the same
pub knows_as : (m n v r : ℕ) (held : LoadedRegion) (h : History) (w : Outside) → m ≡ n → v ≡ r → Knows m v held h w → Knows n r held h w
knows_as m n v r held h w regions region knows = subst (λ (k : ℕ). Knows k r held h w) regions (subst (λ (k : ℕ). Knows m k held h w) region knows)

pub held_left : (n : ℕ) (before after : Events) (q : ℕ) (held : Option LoadedRegion) (a b : Outside) → known after q ≡ known before q → Leaves q a b
    → IsHeld n before q held a → IsHeld n after q held b
held_left n before after q None a b same left was = same ∙ was
held_left n before after q (Some held) a b same left was = (was.0, same ∙ was.1, knows_left n q held was.0 a b left was.2)

module _ (before after : Events) (stores : List Store) (r : ℕ) (s' : Store) (a b : Outside) (lt : r < length stores) where
  pub keeps_set : Keeps before stores a → IsHeld s'.regions after r s'.held b → ((q : ℕ) → (q ≡ r → ⊥) → known after q ≡ known before q)
      → ((q : ℕ) → (q ≡ r → ⊥) → Leaves q a b) → Keeps after (slice_set stores r s') b
  keeps_set was here same left q s get = ⊎_elim
      (λ e.
      let is : s' ≡ s = one_of _ s' s (get_set_same stores r s' lt) (subst (λ (m : ℕ). slice_get (slice_set stores r s') m ≡ Some s) e get) in
      subst (λ (x : Store). IsHeld x.regions after q x.held b) is (subst (λ (m : ℕ). IsHeld s'.regions after m s'.held b) (sym e) here))
      (λ ne. held_left s.regions before after q s.held a b (same q ne) (left q ne) (was q s (sym (get_set_other stores r q s' ne) ∙ get)))
      (same_or_other q r)

-- nothing was replaced
pub keeps_left : (before : Events) (stores : List Store) (a b : Outside) → ((q : ℕ) → Leaves q a b) → Keeps before stores a → Keeps before stores b
keeps_left before stores a b left was q s get = held_left s.regions before before q s.held a b refl (left q) (was q s get)

pub numbered_set : (stores : List Store) (r : ℕ) (s s' : Store) → r < length stores → slice_get stores r ≡ Some s → s'.v ≡ s.v → s'.regions ≡ s.regions
    → AreNumbered stores → AreNumbered (slice_set stores r s')
numbered_set stores r s s' lt at v regions was = record {
  v = λ q x get. ⊎_elim
      (λ e.
      let is : s' ≡ x = one_of _ s' x (get_set_same stores r s' lt) (subst (λ (m : ℕ). slice_get (slice_set stores r s') m ≡ Some x) e get) in
      ap (λ (y : Store). y.v) (sym is) ∙ v ∙ was.v r s at ∙ sym e)
      (λ ne. was.v q x (sym (get_set_other stores r q s' ne) ∙ get))
      (same_or_other q r);
  regions = λ q x get. ⊎_elim
      (λ e.
      let is : s' ≡ x = one_of _ s' x (get_set_same stores r s' lt) (subst (λ (m : ℕ). slice_get (slice_set stores r s') m ≡ Some x) e get) in
      ap (λ (y : Store). y.regions) (sym is) ∙ regions ∙ was.regions r s at ∙ sym (length-set stores r s'))
      (λ ne. was.regions q x (sym (get_set_other stores r q s' ne) ∙ get) ∙ sym (length-set stores r s'))
      (same_or_other q r);
}

ties_of : (events : Events) (r : ℕ) (s : Store) (w : Outside) → s.v ≡ r → (held : Option LoadedRegion) → IsHeld s.regions events r held w
    → IfSome held (λ x. IsKnown s.regions s.v x w)
ties_of events r s w is None was = tt
ties_of events r s w is (Some held) was = (was.0, subst (λ (m : ℕ). Knows s.regions m held was.0 w) (sym is) was.2)

pub tied : (events : Events) (stores : List Store) (w : Outside) → AreNumbered stores → Keeps events stores w → AreTied stores w
tied events stores w numbered keeps r s get = ties_of events r s w (numbered.v r s get) s.held (keeps r s get)

pub known_left : (n v : ℕ) (o : Option LoadedRegion) (a b : Outside) → Leaves v a b → IfSome o (λ held. IsKnown n v held a)
    → IfSome o (λ held. IsKnown n v held b)
known_left n v None a b left was = tt
known_left n v (Some held) a b left was = (was.0, knows_left n v held was.0 a b left was.1)

pub tied_set : (stores : List Store) (r : ℕ) (s' : Store) (a b : Outside) → r < length stores → AreTied stores a → Ties s' b → ((q : ℕ) → Leaves q a b)
    → AreTied (slice_set stores r s') b
tied_set stores r s' a b lt was here left q s get = ⊎_elim
    (λ e.
    let is : s' ≡ s = one_of _ s' s (get_set_same stores r s' lt) (subst (λ (m : ℕ). slice_get (slice_set stores r s') m ≡ Some s) e get) in
    subst (λ (x : Store). Ties x b) is here)
    (λ ne. known_left s.regions s.v s.held a b (left s.v) (was q s (sym (get_set_other stores r q s' ne) ∙ get)))
    (same_or_other q r)

-- the other stores' volumes were left
pub tied_but : (stores : List Store) (r : ℕ) (s' : Store) (a b : Outside) → r < length stores → AreNumbered stores → AreTied stores a → Ties s' b
    → ((q : ℕ) → (q ≡ r → ⊥) → Leaves q a b) → AreTied (slice_set stores r s') b
tied_but stores r s' a b lt numbered was here left q s get = ⊎_elim
    (λ e.
    let is : s' ≡ s = one_of _ s' s (get_set_same stores r s' lt) (subst (λ (m : ℕ). slice_get (slice_set stores r s') m ≡ Some s) e get) in
    subst (λ (x : Store). Ties x b) is here)
    (λ ne.
    let at : slice_get stores q ≡ Some s = sym (get_set_other stores r q s' ne) ∙ get in
    known_left s.regions s.v s.held a b (subst (λ (m : ℕ). Leaves m a b) (sym (numbered.v q s at)) (left q ne)) (was q s at))
    (same_or_other q r)

pub ties_none : (s : Store) (w : Outside) → s.held ≡ None → Ties s w
ties_none s w none = subst (λ (o : Option LoadedRegion). IfSome o (λ held. IsKnown s.regions s.v held w)) (sym none) tt

ties_some : (n v : ℕ) (o : Option LoadedRegion) (w : Outside) (h : History) → IsSomeAnd o (λ held. Knows n v held h w) → IfSome o (λ held. IsKnown n v held w)
ties_some n v None w h holds = absurd holds
ties_some n v (Some held) w h holds = (h, holds)

pub ties_held : (s : Store) (w : Outside) (h : History) → Holds s h w → Ties s w
ties_held s w h holds = ties_some s.regions s.v s.held w h holds

pub read_set : (stores : List Store) (r : ℕ) (s' : Store) (n : ℕ) → r < length stores → IsSome s'.held
    → ((q : ℕ) (s : Store) → q < r → slice_get stores q ≡ Some s → IsSome s.held) → (q : ℕ) (s : Store) → q < r + 1
    → slice_get (slice_set stores r s') q ≡ Some s → IsSome s.held
read_set stores r s' n lt here was q s below get = ⊎_elim
    (λ e.
    let is : s' ≡ s = one_of _ s' s (get_set_same stores r s' lt) (subst (λ (m : ℕ). slice_get (slice_set stores r s') m ≡ Some s) e get) in
    subst (λ (x : Store). IsSome x.held) is here)
    (λ ne. was q s (⊎_elim (λ lt. lt) (λ ge. absurd (ne (omega (arith, ge, below)))) (cases_lt q r)) (sym (get_set_other stores r q s' ne) ∙ get))
    (same_or_other q r)

-- no volume was written
pub tied_left : (stores : List Store) (a b : Outside) → ((q : ℕ) → Leaves q a b) → AreTied stores a → AreTied stores b
tied_left stores a b left was r s get = known_left s.regions s.v s.held a b (left s.v) (was r s get)
