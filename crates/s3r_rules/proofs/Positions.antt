-- The place of the first element that passes a test.
use Rattle.std.proofs.Common.{◌≡◌, ℕ, suc, ◌+◌, ◌<◌, Bool, true, false, not, ◌||◌, cond, nat_lt, List, [], ◌∷◌, ◌++◌, length, Option, Some, None, option_map, option_and_then, find, position, slice_get, refl, sym, ap, ap₂, ◌∙◌, arith, lt-ltb}
use Rattle.std.specs.List.{list_all, list_any, position_or_len}
use Rattle.std.specs.Option.{option_or}
use Rattle.std.proofs.lemmas.Bool.{and_parts}
use Rattle.std.proofs.lemmas.Bool.Decides.{nat_tests}
use Rattle.std.proofs.lemmas.List.Quantifiers.{position-Some}

-- the same by cases
abbrev pub first_place : {X : Type 0} → (X → Bool) → List X → Option ℕ
first_place p [] = None
first_place p (x ∷ xs) = cond (p x) (Some 0) (option_map suc (first_place p xs))

pub is_position : {X : Type 0} (p : X → Bool) (xs : List X) → position p xs ≡ first_place p xs
is_position p [] = refl
is_position {X} p (x ∷ xs) = go (p x) (is_position p xs)
  where
    later : (n len : ℕ) → cond (nat_lt (1 + n) (suc len)) (Some (1 + n)) None ≡ option_map suc (cond (nat_lt n len) (Some n) None)
    later n len = ap₂ (λ b m. cond b (Some m) None) more (omega arith) ∙ inside (nat_lt n len)
      where
        more : nat_lt (1 + n) (suc len) ≡ nat_lt n len
        more = grind (arith, nat_tests)

        inside : (b : Bool) → cond b (Some (suc n)) None ≡ option_map suc (cond b (Some n) None)
        inside true = refl
        inside false = refl

    go : (b : Bool) → position p xs ≡ first_place p xs
        → cond (nat_lt (cond (not b) (1 + position_or_len p xs) 0) (suc (length xs))) (Some (cond (not b) (1 + position_or_len p xs) 0)) None
        ≡ cond b (Some 0) (option_map suc (first_place p xs))
    go true ih = ap (λ b. cond b (Some 0) None) (lt-ltb 0 (suc (length xs)) (omega arith))
    go false ih = later (position_or_len p xs) (length xs) ∙ ap (option_map suc) ih

-- one element more
push_place : {X : Type 0} (p : X → Bool) (xs : List X) (y : X)
    → first_place p (xs ++ y ∷ []) ≡ option_or (first_place p xs) (cond (p y) (Some (length xs)) None)
push_place p [] y = refl
push_place {X} p (x ∷ xs) y = ap (λ o. cond (p x) (Some 0) (option_map suc o)) (push_place p xs y) ∙ go (p x) (first_place p xs) (p y)
  where
    go : (b : Bool) (o : Option ℕ) (c : Bool) → cond b (Some 0) (option_map suc (option_or o (cond c (Some (length xs)) None)))
        ≡ option_or (cond b (Some 0) (option_map suc o)) (cond c (Some (suc (length xs))) None)
    go true o c = refl
    go false (Some n) c = refl
    go false None true = refl
    go false None false = refl

pub position-push : {X : Type 0} (p : X → Bool) (xs : List X) (y : X)
    → position p (xs ++ y ∷ []) ≡ option_or (position p xs) (cond (p y) (Some (length xs)) None)
position-push p xs y =
    is_position p (xs ++ y ∷ []) ∙ push_place p xs y ∙ ap (λ o. option_or o (cond (p y) (Some (length xs)) None)) (sym (is_position p xs))

-- tests that agree have one place
same_place : {X : Type 0} (p q : X → Bool) (xs : List X) → ((x : X) → p x ≡ q x) → first_place p xs ≡ first_place q xs
same_place p q [] same = refl
same_place p q (x ∷ xs) same = ap₂ (λ b o. cond b (Some 0) (option_map suc o)) (same x) (same_place p q xs same)

pub position-same : {X : Type 0} (p q : X → Bool) (xs : List X) → ((x : X) → p x ≡ q x) → position p xs ≡ position q xs
position-same p q xs same = is_position p xs ∙ same_place p q xs same ∙ sym (is_position q xs)

-- where none passes there is no place
no_place : {X : Type 0} (p : X → Bool) (xs : List X) → list_any p xs ≡ false → first_place p xs ≡ None
no_place p [] none = refl
no_place {X} p (x ∷ xs) none = go (p x) none (no_place p xs)
  where
    go : (b : Bool) → (b || list_any p xs) ≡ false → (list_any p xs ≡ false → first_place p xs ≡ None)
        → cond b (Some 0) (option_map suc (first_place p xs)) ≡ None
    go true none ih = absurd cc
    go false none ih = ap (option_map suc) (ih none)

pub position-none : {X : Type 0} (p : X → Bool) (xs : List X) → list_any p xs ≡ false → position p xs ≡ None
position-none p xs none = is_position p xs ∙ no_place p xs none

-- the element at the place is the first that passes
found_there : {X : Type 0} (p : X → Bool) (xs : List X) → find p xs ≡ option_and_then (slice_get xs) (first_place p xs)
found_there p [] = refl
found_there {X} p (x ∷ xs) = go (p x) (first_place p xs) (found_there p xs)
  where
    go : (b : Bool) (o : Option ℕ) → find p xs ≡ option_and_then (slice_get xs) o
        → cond b (Some x) (find p xs) ≡ option_and_then (slice_get (x ∷ xs)) (cond b (Some 0) (option_map suc o))
    go true o ih = refl
    go false None ih = ih
    go false (Some n) ih = ih

pub find-position : {X : Type 0} (p : X → Bool) (xs : List X) → find p xs ≡ option_and_then (slice_get xs) (position p xs)
find-position p xs = found_there p xs ∙ ap (option_and_then (slice_get xs)) (sym (is_position p xs))

pub find-passes : {X : Type 0} (p : X → Bool) (xs : List X) (y : X) → find p xs ≡ Some y → p y ≡ true
find-passes p [] y is = absurd cc
find-passes {X} p (x ∷ xs) y is = go (p x) refl is (find-passes p xs y)
  where
    go : (b : Bool) → p x ≡ b → cond b (Some x) (find p xs) ≡ Some y → (find p xs ≡ Some y → p y ≡ true) → p y ≡ true
    go true e is ih = let same : x ≡ y = cc in ap p (sym same) ∙ e
    go false e is ih = ih is

-- what is found is one of them
pub find-among : {X : Type 0} (p q : X → Bool) (xs : List X) (y : X) → find p xs ≡ Some y → list_all q xs ≡ true → q y ≡ true
find-among p q [] y is all = absurd cc
find-among {X} p q (x ∷ xs) y is all =
    let parts = and_parts (q x) (list_all q xs) all in
    go (p x) is parts.0 (λ found. find-among p q xs y found parts.1)
  where
    go : (b : Bool) → cond b (Some x) (find p xs) ≡ Some y → q x ≡ true → (find p xs ≡ Some y → q y ≡ true) → q y ≡ true
    go true is here ih = let same : x ≡ y = cc in ap q (sym same) ∙ here
    go false is here ih = ih is

pub find-none : {X : Type 0} (p : X → Bool) (xs : List X) → find p xs ≡ None → list_any p xs ≡ false
find-none p [] is = refl
find-none {X} p (x ∷ xs) is = go (p x) is (find-none p xs)
  where
    go : (b : Bool) → cond b (Some x) (find p xs) ≡ None → (find p xs ≡ None → list_any p xs ≡ false) → (b || list_any p xs) ≡ false
    go true is ih = absurd cc
    go false is ih = ih is

-- where one passes, one is found
pub find-some : {X : Type 0} (p : X → Bool) (xs : List X) → list_any p xs ≡ true → (y : X) × (find p xs ≡ Some y)
find-some p [] some = absurd cc
find-some {X} p (x ∷ xs) some = go (p x) some (find-some p xs)
  where
    go : (b : Bool) → (b || list_any p xs) ≡ true → (list_any p xs ≡ true → (y : X) × (find p xs ≡ Some y)) → (y : X) × (cond b (Some x) (find p xs) ≡ Some y)
    go true some ih = (x, refl)
    go false some ih = ih some

-- and it has a place
pub position-some : {X : Type 0} (p : X → Bool) (xs : List X) (y : X) → find p xs ≡ Some y → (i : ℕ) × (position p xs ≡ Some i) × (slice_get xs i ≡ Some y)
position-some {X} p xs y is = go (position p xs) refl (sym (find-position p xs) ∙ is)
  where
    go : (o : Option ℕ) → position p xs ≡ o → option_and_then (slice_get xs) o ≡ Some y → (i : ℕ) × (position p xs ≡ Some i) × (slice_get xs i ≡ Some y)
    go None e at = absurd cc
    go (Some i) e at = (i, e, at)

pub position-below : {X : Type 0} (p : X → Bool) (xs : List X) (i : ℕ) → position p xs ≡ Some i → i < length xs
position-below p [] i is = absurd cc
position-below p (x ∷ xs) i is = (position-Some p (x ∷ xs) i x is).0
