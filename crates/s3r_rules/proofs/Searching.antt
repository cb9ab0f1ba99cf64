-- Among choices whose names rise, those below a name stand first.
use Rattle.std.proofs.Common.{◌≡◌, ℕ, zero, suc, ◌+◌, ◌<◌, ◌≤◌, Bool, true, false, cond, List, [], ◌∷◌, length, map, get_or, refl, sym, ap, ◌∙◌, arith}
use Rattle.std.specs.List.{prefix_len, list_all}
use Rattle.std.specs.List.Sorted.{IsPartitionedBy, IsPartitionPoint}
use Rattle.std.proofs.lemmas.Bool.{and_parts}
use Rattle.std.proofs.lemmas.List.Sums.{prefix_len_is}
use Rattle.s3r_names.specs.Tags.{is_key_below}
use Rattle.s3r_rules.specs.Destinations.{place_of, rise}
use Rattle.s3r_rules.proofs.Naming.{Name, below-trans}

module _ {X : Type 0} (g : X → Name) (name : Name) where
  abbrev is_low : X → Bool
  is_low x = is_key_below (g x) name

  low-before : (xs : List X) (i j : ℕ) (d : X) → rise (map g xs) ≡ true → i ≤ j → j < length xs → is_low (get_or xs j d) ≡ true → is_low (get_or xs i d) ≡ true
  low-before [] i j d up le low is = absurd (omega arith)
  low-before (x ∷ xs) zero zero d up le low is = is
  low-before (x ∷ xs) zero (suc j) d up le low is =
      let parts = and_parts (list_all (is_key_below (g x)) (map g xs)) (rise (map g xs)) up in
      below-trans (g x) (g (get_or xs j d)) name (all-names xs j parts.0 (omega arith)) is
    where
      all-names : (ys : List X) (k : ℕ) → list_all (is_key_below (g x)) (map g ys) ≡ true → k < length ys → is_key_below (g x) (g (get_or ys k d)) ≡ true
      all-names [] k all lt = absurd (omega arith)
      all-names (y ∷ ys) zero all lt = (and_parts (is_key_below (g x) (g y)) (list_all (is_key_below (g x)) (map g ys)) all).0
      all-names (y ∷ ys) (suc k) all lt =
          all-names ys k (and_parts (is_key_below (g x) (g y)) (list_all (is_key_below (g x)) (map g ys)) all).1 (omega arith)
  low-before (x ∷ xs) (suc i) zero d up le low is = absurd (omega arith)
  low-before (x ∷ xs) (suc i) (suc j) d up le low is =
      let parts = and_parts (list_all (is_key_below (g x)) (map g xs)) (rise (map g xs)) up in
      low-before xs i j d parts.1 (omega arith) (omega arith) is

  pub low-first : (xs : List X) → rise (map g xs) ≡ true → IsPartitionedBy is_low xs
  low-first xs up i j d le low is = low-before xs i j d up le low is

  prefix-map : (xs : List X) → prefix_len is_low xs ≡ place_of name (map g xs)
  prefix-map [] = refl
  prefix-map (x ∷ xs) = ap (λ n. cond (is_low x) (1 + n) 0) (prefix-map xs)

  -- the point between those below and the others is the name's place
  pub place-is : (xs : List X) (point : ℕ) (d : X) → point ≤ length xs → IsPartitionPoint (λ x. is_low x ≡ true) (λ x. is_low x ≡ false) xs point
      → point ≡ place_of name (map g xs)
  place-is xs point d within parted =
      sym (prefix_len_is is_low xs point d within (λ k low. parted.0 k d (omega arith) low) (λ low. parted.1 point d (omega arith) low))
      ∙ prefix-map xs
