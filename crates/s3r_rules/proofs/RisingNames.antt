-- What is made of each of some rising names, where one name more may come among them.
use Rattle.std.proofs.Common.{◌≡◌, ℕ, zero, suc, ◌+◌, Bool, true, false, not, ◌||◌, cond, List, [], ◌∷◌, drop, insert, set, get_or, map, refl, sym, ap, ap₂, ◌∙◌, arith}
use Rattle.std.specs.List.{list_all, list_any}
use Rattle.std.specs.Str.{bytes_eq}
use Rattle.std.specs.Ordering.{is_eq}
use Rattle.std.proofs.lemmas.Bool.{and_parts, and_from, or_left, or_right, or_from, false_from_ne_true, both_ways, not_from_false, not-true}
use Rattle.std.proofs.lemmas.Map.Text.{is_eq-slice_cmp}
use Rattle.std.proofs.lemmas.Slice.Eq.{bytes_eq-Decides}
use Rattle.s3r_names.specs.Tags.{is_key_below}
use Rattle.s3r_rules.specs.Destinations.{place_of, is_first, rise}
use Rattle.s3r_rules.proofs.Naming.{Name, cmp, is_less, other-below, below-all}

pub eq-self : (a : Name) → bytes_eq a a ≡ true
eq-self a = (bytes_eq-Decides a a).1 refl

pub eq-sym : (a b : Name) → bytes_eq a b ≡ false → bytes_eq b a ≡ false
eq-sym a b e = false_from_ne_true (bytes_eq b a) (λ h. both_ways (bytes_eq a b) e ((bytes_eq-Decides a b).1 (sym ((bytes_eq-Decides b a).0 h))))

below-differs : (a b : Name) → is_key_below a b ≡ true → bytes_eq a b ≡ false
below-differs a b low = sym (is_eq-slice_cmp a b) ∙ ap is_eq (is_less (cmp a b) low)

-- what is above a name isn't it
above-differ : (name : Name) (names : List Name) → list_all (is_key_below name) names ≡ true → list_all (λ other. not (bytes_eq other name)) names ≡ true
above-differ name [] all = refl
above-differ name (first ∷ names) all =
    let parts = and_parts (is_key_below name first) (list_all (is_key_below name) names) all in
    let differs = eq-sym name first (below-differs name first parts.0) in
    and_from (not (bytes_eq first name)) _ (not_from_false (bytes_eq first name) differs) (above-differ name names parts.1)

all-fail : (test : Name → Bool) (names : List Name) → list_all (λ other. not (test other)) names ≡ true → list_any test names ≡ false
all-fail test [] all = refl
all-fail test (first ∷ names) all =
    let parts = and_parts (not (test first)) (list_all (λ other. not (test other)) names) all in
    or_from (test first) (list_any test names) (not-true (test first) parts.0) (all-fail test names parts.1)

-- a name that isn't at its place isn't there
pub name-missing : (name : Name) (names : List Name) → rise names ≡ true → is_first name (drop (place_of name names) names) ≡ false
    → list_any (λ o. bytes_eq o name) names ≡ false
name-missing name [] up none = refl
name-missing name (first ∷ names) up none =
    let parts = and_parts (list_all (is_key_below first) names) (rise names) up in
    go parts.0 (name-missing name names parts.1) (is_key_below first name) refl none
  where
    go : list_all (is_key_below first) names ≡ true
        → (is_first name (drop (place_of name names) names) ≡ false → list_any (λ o. bytes_eq o name) names ≡ false)
        → (b : Bool) → is_key_below first name ≡ b → is_first name (drop (cond b (1 + place_of name names) 0) (first ∷ names)) ≡ false
        → (bytes_eq first name || list_any (λ o. bytes_eq o name) names) ≡ false
    go above ih true low none =
        let more : 1 + place_of name names ≡ suc (place_of name names) = omega arith in
        or_from (bytes_eq first name) _ (below-differs first name low) (ih (sym (ap (λ n. is_first name (drop n (first ∷ names))) more) ∙ none))
    go above ih false low none =
        let under = other-below first name low none in
        or_from (bytes_eq first name) _ none (all-fail (λ o. bytes_eq o name) names (above-differ name names (below-all name first names under above)))

module _ {X : Type 0} (name : Name) (f new : Name → X) where
  -- the others of these names stay as they are
  abbrev pub Stay : List Name → Type 0
  Stay names = (other : Name) → list_any (λ o. bytes_eq o other) names ≡ true → bytes_eq other name ≡ false → new other ≡ f other

  rest : (first : Name) (names : List Name) → Stay (first ∷ names) → Stay names
  rest first names stay other there differ = stay other (or_right (bytes_eq first other) (list_any (λ o. bytes_eq o other) names) there) differ

  first-stays : (first : Name) (names : List Name) → Stay (first ∷ names) → bytes_eq first name ≡ false → new first ≡ f first
  first-stays first names stay differ = stay first (or_left (bytes_eq first first) (list_any (λ o. bytes_eq o first) names) (eq-self first)) differ

  all-stay : (names : List Name) → Stay names → list_all (λ other. not (bytes_eq other name)) names ≡ true → map new names ≡ map f names
  all-stay [] stay differ = refl
  all-stay (first ∷ names) stay differ =
      let parts = and_parts (not (bytes_eq first name)) (list_all (λ other. not (bytes_eq other name)) names) differ in
      ap₂ (λ x xs. x ∷ xs) (first-stays first names stay (not-true (bytes_eq first name) parts.0)) (all-stay names (rest first names stay) parts.1)

  -- the name is one of them
  pub name-there : (names : List Name) → rise names ≡ true → is_first name (drop (place_of name names) names) ≡ true → Stay names
      → set (map f names) (place_of name names) (new name) ≡ map new names
  name-there [] up there stay = absurd cc
  name-there (first ∷ names) up there stay =
      let parts = and_parts (list_all (is_key_below first) names) (rise names) up in
      go parts.0 (λ there. name-there names parts.1 there (rest first names stay)) (is_key_below first name) refl there
    where
      go : list_all (is_key_below first) names ≡ true
          → (is_first name (drop (place_of name names) names) ≡ true → set (map f names) (place_of name names) (new name) ≡ map new names)
          → (b : Bool) → is_key_below first name ≡ b → is_first name (drop (cond b (1 + place_of name names) 0) (first ∷ names)) ≡ true
          → set (f first ∷ map f names) (cond b (1 + place_of name names) 0) (new name) ≡ new first ∷ map new names
      go above ih true low there =
          let more : 1 + place_of name names ≡ suc (place_of name names) = omega arith in
          ap (λ n. set (f first ∷ map f names) n (new name)) more
          ∙ ap₂ (λ x xs. x ∷ xs) (sym (first-stays first names stay (below-differs first name low)))
          (ih (sym (ap (λ n. is_first name (drop n (first ∷ names))) more) ∙ there))
      go above ih false low there =
          let same : first ≡ name = (bytes_eq-Decides first name).0 there in
          ap₂ (λ x xs. x ∷ xs) (ap new (sym same))
          (sym (all-stay names (rest first names stay) (above-differ name names (sym (ap (λ n. list_all (is_key_below n) names) same) ∙ above))))

  -- it isn't
  pub name-new : (names : List Name) → rise names ≡ true → is_first name (drop (place_of name names) names) ≡ false → Stay names
      → insert (map f names) (place_of name names) (new name) ≡ map new (insert names (place_of name names) name)
  name-new [] up none stay = refl
  name-new (first ∷ names) up none stay =
      let parts = and_parts (list_all (is_key_below first) names) (rise names) up in
      go parts.0 (λ none. name-new names parts.1 none (rest first names stay)) (is_key_below first name) refl none
    where
      go : list_all (is_key_below first) names ≡ true
          → (is_first name (drop (place_of name names) names) ≡ false
          → insert (map f names) (place_of name names) (new name) ≡ map new (insert names (place_of name names) name))
          → (b : Bool) → is_key_below first name ≡ b → is_first name (drop (cond b (1 + place_of name names) 0) (first ∷ names)) ≡ false
          → insert (f first ∷ map f names) (cond b (1 + place_of name names) 0) (new name)
          ≡ map new (insert (first ∷ names) (cond b (1 + place_of name names) 0) name)
      go above ih true low none =
          let more : 1 + place_of name names ≡ suc (place_of name names) = omega arith in
          ap (λ n. insert (f first ∷ map f names) n (new name)) more
          ∙ ap₂ (λ x xs. x ∷ xs) (sym (first-stays first names stay (below-differs first name low)))
          (ih (sym (ap (λ n. is_first name (drop n (first ∷ names))) more) ∙ none))
          ∙ ap (λ n. map new (insert (first ∷ names) n name)) (sym more)
      go above ih false low none =
          let under = other-below first name low none in
          let all = above-differ name names (below-all name first names under above) in
          ap (λ xs. new name ∷ xs) (sym (ap₂ (λ x xs. x ∷ xs) (first-stays first names stay none) (all-stay names (rest first names stay) all)))

-- a name among them is at its place
pub at-first : {X : Type 0} (f : Name → X) (name : Name) (names : List Name) (i : ℕ) (d : X) → is_first name (drop i names) ≡ true
    → get_or (map f names) i d ≡ f name
at-first f name [] zero d there = absurd cc
at-first f name [] (suc i) d there = absurd cc
at-first f name (first ∷ names) zero d there = ap f ((bytes_eq-Decides first name).0 there)
at-first f name (first ∷ names) (suc i) d there = at-first f name names i d there

-- one of them is there
pub first-is-there : (name : Name) (names : List Name) (i : ℕ) → is_first name (drop i names) ≡ true → list_any (λ o. bytes_eq o name) names ≡ true
first-is-there name [] zero there = absurd cc
first-is-there name [] (suc i) there = absurd cc
first-is-there name (first ∷ names) zero there = or_left (bytes_eq first name) _ there
first-is-there name (first ∷ names) (suc i) there = or_right (bytes_eq first name) _ (first-is-there name names i there)

-- names that are made something else and told again
pub map-back : {X : Type 0} (f : Name → X) (g : X → Name) (names : List Name)
    → ((other : Name) → list_any (λ o. bytes_eq o other) names ≡ true → g (f other) ≡ other) → map g (map f names) ≡ names
map-back f g [] back = refl
map-back f g (first ∷ names) back =
    ap₂ (λ x xs. x ∷ xs) (back first (or_left (bytes_eq first first) _ (eq-self first)))
    (map-back f g names (λ other there. back other (or_right (bytes_eq first other) _ there)))
