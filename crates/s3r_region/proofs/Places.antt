-- A change or a removal at the first place that passes a test.
use Rattle.std.proofs.Common.{◌≡◌, ℕ, zero, suc, ◌+◌, Bool, true, false, cond, List, [], ◌∷◌, Some, None, is_some, find, length, remove, position, slice_set, slice_index_or, refl, sym, ap, ◌∙◌, subst, arith, add-one, true≢false}
use Rattle.std.specs.List.{position_from, list_all}
use Rattle.std.proofs.lemmas.Bool.{and_parts, and_from}
use Rattle.std.proofs.lemmas.Iterator.Adapters.{position_from-zero}
use Rattle.s3r_region.specs.Changes.{set_first, without_first}

-- the test passes at m, and at none before
abbrev pub IsFirstAt : {X : Type 0} → (X → Bool) → ℕ → List X → Type 0
IsFirstAt p m [] = ⊥
IsFirstAt p zero (x ∷ xs) = p x ≡ true
IsFirstAt p (suc m) (x ∷ xs) = (p x ≡ false) × IsFirstAt p m xs

from_place : {X : Type 0} (p : X → Bool) (k j : ℕ) (xs : List X) → position_from p k xs ≡ Some j → (m : ℕ) × (j ≡ k + m) × IsFirstAt p m xs
from_place p k j [] h = absurd cc
from_place p k j (x ∷ xs) h = go (p x) refl h (from_place p (k + 1) j xs)
  where
    go : (t : Bool) → p x ≡ t → cond t (Some k) (position_from p (k + 1) xs) ≡ Some j
        → (position_from p (k + 1) xs ≡ Some j → (m : ℕ) × (j ≡ (k + 1) + m) × IsFirstAt p m xs) → (m : ℕ) × (j ≡ k + m) × IsFirstAt p m (x ∷ xs)
    go true e h ih = (0, grind arith, e)
    go false e h ih = let w = ih h in (suc w.0, omega (arith, w.1), (e, w.2))

pub first-position : {X : Type 0} (p : X → Bool) (xs : List X) (i : ℕ) → position p xs ≡ Some i → IsFirstAt p i xs
first-position p xs i h =
    let w = from_place p 0 i xs (sym (position_from-zero p xs) ∙ h) in
    let e : w.0 ≡ i = omega (arith, w.1) in
    subst (λ n. IsFirstAt p n xs) e w.2

set_first-at : {X : Type 0} (p : X → Bool) (f : X → X) (xs : List X) (i : ℕ) (d : X) → IsFirstAt p i xs
    → slice_set xs i (f (slice_index_or xs i d)) ≡ set_first p f xs
set_first-at p f [] i d h = absurd h
set_first-at p f (x ∷ xs) zero d h = sym (ap (λ t. cond t (f x ∷ xs) (x ∷ set_first p f xs)) h)
set_first-at p f (x ∷ xs) (suc i) d h = ap (λ ys. x ∷ ys) (set_first-at p f xs i d h.1) ∙ sym (ap (λ t. cond t (f x ∷ xs) (x ∷ set_first p f xs)) h.0)

-- the element x at the place is the changed one
pub set_at : {X : Type 0} (p : X → Bool) (f : X → X) (xs : List X) (i : ℕ) (x d : X) → position p xs ≡ Some i → x ≡ f d → d ≡ slice_index_or xs i d
    → slice_set xs i x ≡ set_first p f xs
set_at p f xs i x d h e at = ap (λ y. slice_set xs i y) (e ∙ ap f at) ∙ set_first-at p f xs i d (first-position p xs i h)

none_from : {X : Type 0} (p : X → Bool) (f : X → X) (k : ℕ) (xs : List X) → position_from p k xs ≡ None → set_first p f xs ≡ xs
none_from p f k [] h = refl
none_from p f k (x ∷ xs) h = go (p x) h (none_from p f (k + 1) xs)
  where
    go : (t : Bool) → cond t (Some k) (position_from p (k + 1) xs) ≡ None → (position_from p (k + 1) xs ≡ None → set_first p f xs ≡ xs)
        → cond t (f x ∷ xs) (x ∷ set_first p f xs) ≡ x ∷ xs
    go true h ih = absurd cc
    go false h ih = ap (λ ys. x ∷ ys) (ih h)

pub set_first-none : {X : Type 0} (p : X → Bool) (f : X → X) (xs : List X) → position p xs ≡ None → set_first p f xs ≡ xs
set_first-none p f xs h = none_from p f 0 xs (sym (position_from-zero p xs) ∙ h)

pub length-set_first : {X : Type 0} (p : X → Bool) (f : X → X) (xs : List X) → length (set_first p f xs) ≡ length xs
length-set_first p f [] = refl
length-set_first p f (x ∷ xs) = go (p x) (length-set_first p f xs)
  where
    go : (t : Bool) → length (set_first p f xs) ≡ length xs → length (cond t (f x ∷ xs) (x ∷ set_first p f xs)) ≡ suc (length xs)
    go true ih = refl
    go false ih = ap suc ih

-- what holds of all holds at the place
pub all-first : {X : Type 0} (p q : X → Bool) (xs : List X) (i : ℕ) (d : X) → IsFirstAt p i xs → list_all q xs ≡ true → q (slice_index_or xs i d) ≡ true
all-first p q [] i d h all = absurd h
all-first p q (x ∷ xs) zero d h all = (and_parts (q x) (list_all q xs) all).0
all-first p q (x ∷ xs) (suc i) d h all = all-first p q xs i d h.1 (and_parts (q x) (list_all q xs) all).1

pub all-set_first : {X : Type 0} (p q : X → Bool) (f : X → X) (xs : List X) → ((x : X) → q x ≡ true → q (f x) ≡ true) → list_all q xs ≡ true
    → list_all q (set_first p f xs) ≡ true
all-set_first p q f [] keeps all = refl
all-set_first p q f (x ∷ xs) keeps all = go (p x) (all-set_first p q f xs keeps parts.1)
  where
    parts : (q x ≡ true) × (list_all q xs ≡ true)
    parts = and_parts (q x) (list_all q xs) all

    go : (t : Bool) → list_all q (set_first p f xs) ≡ true → list_all q (cond t (f x ∷ xs) (x ∷ set_first p f xs)) ≡ true
    go true ih = and_from _ _ (keeps x parts.0) parts.1
    go false ih = and_from _ _ parts.0 ih

-- ---- the first is taken out

pub length-without_first : {X : Type 0} (p : X → Bool) (xs : List X) → is_some (find p xs) ≡ true → length xs ≡ length (without_first p xs) + 1
length-without_first p [] found = absurd (true≢false (sym found))
length-without_first p (x ∷ xs) found = go (p x) found (length-without_first p xs)
  where
    go : (t : Bool) → is_some (cond t (Some x) (find p xs)) ≡ true → (is_some (find p xs) ≡ true → length xs ≡ length (without_first p xs) + 1)
        → suc (length xs) ≡ length (cond t xs (x ∷ without_first p xs)) + 1
    go true h ih = sym (add-one (length xs))
    go false h ih = ap suc (ih h) ∙ sym (add-one (length (without_first p xs) + 1)) ∙ ap (λ n. n + 1) (add-one (length (without_first p xs)))

pub all-without_first : {X : Type 0} (p q : X → Bool) (xs : List X) → list_all q xs ≡ true → list_all q (without_first p xs) ≡ true
all-without_first p q [] all = refl
all-without_first p q (x ∷ xs) all = go (p x) (all-without_first p q xs parts.1)
  where
    parts : (q x ≡ true) × (list_all q xs ≡ true)
    parts = and_parts (q x) (list_all q xs) all

    go : (t : Bool) → list_all q (without_first p xs) ≡ true → list_all q (cond t xs (x ∷ without_first p xs)) ≡ true
    go true ih = parts.1
    go false ih = and_from _ _ parts.0 ih

remove-first : {X : Type 0} (p : X → Bool) (xs : List X) (i : ℕ) → IsFirstAt p i xs → remove xs i ≡ without_first p xs
remove-first p [] i h = absurd h
remove-first p (x ∷ xs) zero h = sym (ap (λ t. cond t xs (x ∷ without_first p xs)) h)
remove-first p (x ∷ xs) (suc i) h = ap (λ ys. x ∷ ys) (remove-first p xs i h.1) ∙ sym (ap (λ t. cond t xs (x ∷ without_first p xs)) h.0)

pub remove_at : {X : Type 0} (p : X → Bool) (xs : List X) (i : ℕ) → position p xs ≡ Some i → remove xs i ≡ without_first p xs
remove_at p xs i h = remove-first p xs i (first-position p xs i h)

kept_from : {X : Type 0} (p : X → Bool) (k : ℕ) (xs : List X) → position_from p k xs ≡ None → without_first p xs ≡ xs
kept_from p k [] h = refl
kept_from p k (x ∷ xs) h = go (p x) h (kept_from p (k + 1) xs)
  where
    go : (t : Bool) → cond t (Some k) (position_from p (k + 1) xs) ≡ None → (position_from p (k + 1) xs ≡ None → without_first p xs ≡ xs)
        → cond t xs (x ∷ without_first p xs) ≡ x ∷ xs
    go true h ih = absurd cc
    go false h ih = ap (λ ys. x ∷ ys) (ih h)

pub without_first-none : {X : Type 0} (p : X → Bool) (xs : List X) → position p xs ≡ None → without_first p xs ≡ xs
without_first-none p xs h = kept_from p 0 xs (sym (position_from-zero p xs) ∙ h)
