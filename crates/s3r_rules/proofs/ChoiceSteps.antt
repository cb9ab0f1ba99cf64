-- The rule that decides, where one rule more stands behind the others.
use Rattle.std.proofs.Common.{◌≡◌, ℕ, ◌<◌, ◌≤◌, Bool, true, false, not, ◌&&◌, ◌||◌, nat_le, cond, List, [], ◌∷◌, ◌++◌, length, Option, Some, None, position, refl, sym, ap, ◌∙◌, arith}
use Rattle.std.specs.List.{list_all, list_any}
use Rattle.std.specs.Option.{option_or}
use Rattle.std.proofs.lemmas.Bool.{and_parts, and_from, and_left, and_right, or_parts, or_from, leb-true, leb-false, le-leb, lt-leb}
use Rattle.std.proofs.lemmas.List.Folds.{list_all-append}
use Rattle.s3r_rules.specs.declared.rule.Rule.{Rule}
use Rattle.s3r_rules.specs.Choice.{is_choice, choice}
use Rattle.s3r_rules.specs.Choices.{has_at_least, chosen_with}
use Rattle.s3r_rules.proofs.Choosing.{chosen_none_fits}
use Rattle.s3r_rules.proofs.ChoicePlaces.{choice-place}
use Rattle.s3r_rules.proofs.Positions.{position-push, position-same, position-none, find-passes, find-among, position-some}

module _ (test : Rule → Bool) (rules : List Rule) (rule : Rule) where
  abbrev more : List Rule
  more = rules ++ rule ∷ []

  -- the rule doesn't fit, or its priority is at most this
  abbrev within : ℕ → Rule → Bool
  within k other = not (test other) || nat_le other.priority k

  within-parts : (other : Rule) → is_choice test more other ≡ (test other && (list_all (within other.priority) rules && (within other.priority rule && true)))
  within-parts other = ap (λ b. test other && b) (list_all-append (within other.priority) rules (rule ∷ []))

  and-true : (b : Bool) → (b && true) ≡ b
  and-true true = refl
  and-true false = refl

  -- ---- it doesn't fit

  same-without : test rule ≡ false → (other : Rule) → is_choice test more other ≡ is_choice test rules other
  same-without no_fit other =
      within-parts other
      ∙ ap (λ b. test other && (list_all (within other.priority) rules && ((not b || nat_le rule.priority other.priority) && true))) no_fit
      ∙ ap (λ b. test other && b) (and-true (list_all (within other.priority) rules))

  none-more : (o : Option ℕ) → option_or o None ≡ o
  none-more None = refl
  none-more (Some i) = refl

  pub place-without : test rule ≡ false → position (is_choice test more) more ≡ position (is_choice test rules) rules
  place-without no_fit =
      position-same (is_choice test more) (is_choice test rules) more (same-without no_fit)
      ∙ position-push (is_choice test rules) rules rule
      ∙ ap (λ b. option_or (position (is_choice test rules) rules) (cond b (Some (length rules)) None)) (and_left (test rule) _ no_fit)
      ∙ none-more (position (is_choice test rules) rules)

  -- ---- it fits

  -- where it is chosen, no other is
  decides-alone : test rule ≡ true → list_all (within rule.priority) rules ≡ true → list_any (is_choice test more) rules ≡ false
      → position (is_choice test more) more ≡ Some (length rules)
  decides-alone fit all none =
      let decides : is_choice test more rule ≡ true = within-parts rule ∙ and_from (test rule) _ fit
      (and_from (list_all (within rule.priority) rules) _ all (and_from (within rule.priority rule) true (self (test rule)) refl)) in
      position-push (is_choice test more) rules rule
      ∙ ap (λ o. option_or o (cond (is_choice test more rule) (Some (length rules)) None)) (position-none (is_choice test more) rules none)
      ∙ ap (λ b. cond b (Some (length rules)) None) decides
    where
      self : (b : Bool) → (not b || nat_le rule.priority rule.priority) ≡ true
      self false = refl
      self true = le-leb rule.priority rule.priority (omega arith)

  -- no rule fitted before
  first-fits : test rule ≡ true → list_any test rules ≡ false → position (is_choice test more) more ≡ Some (length rules)
  first-fits fit none = decides-alone fit (all-within rules none) (none-decide rules none)
    where
      all-within : (others : List Rule) → list_any test others ≡ false → list_all (within rule.priority) others ≡ true
      all-within [] none = refl
      all-within (other ∷ others) none =
          let parts = or_parts (test other) (list_any test others) none in
          and_from (within rule.priority other) (list_all (within rule.priority) others) (ap (λ b. not b || nat_le other.priority rule.priority) parts.0)
          (all-within others parts.1)

      none-decide : (others : List Rule) → list_any test others ≡ false → list_any (is_choice test more) others ≡ false
      none-decide [] none = refl
      none-decide (other ∷ others) none =
          let parts = or_parts (test other) (list_any test others) none in
          or_from (is_choice test more other) (list_any (is_choice test more) others) (and_left (test other) _ parts.0) (none-decide others parts.1)

  -- what the rule that decided says of the others
  module _ (best : Rule) (found : choice test rules ≡ Some best) where
    best-parts : (test best ≡ true) × (list_all (within best.priority) rules ≡ true)
    best-parts = and_parts (test best) (list_all (within best.priority) rules) (find-passes (is_choice test rules) rules best found)

    at-most : (other : Rule) (k : ℕ) → test other ≡ true → within k other ≡ true → other.priority ≤ k
    at-most other k fit low = leb-true other.priority k (sym (ap (λ b. not b || nat_le other.priority k) fit) ∙ low)

    -- a greater priority wins
    pub is-beaten : test rule ≡ true → best.priority < rule.priority → position (is_choice test more) more ≡ Some (length rules)
    is-beaten fit less = decides-alone fit (all-within rules best-parts.1) (none-decide rules best-parts.1)
      where
        below : (other : Rule) → within best.priority other ≡ true → (b : Bool) → test other ≡ b → within rule.priority other ≡ true
        below other low false e = ap (λ b. not b || nat_le other.priority rule.priority) e
        below other low true e =
            let le = at-most other best.priority e low in
            ap (λ b. not b || nat_le other.priority rule.priority) e ∙ le-leb other.priority rule.priority (omega arith)

        loses : (other : Rule) → within best.priority other ≡ true → (b : Bool) → test other ≡ b → is_choice test more other ≡ false
        loses other low false e = and_left (test other) _ e
        loses other low true e =
            let le = at-most other best.priority e low in
            let not_within : within other.priority rule ≡ false =
            ap (λ b. not b || nat_le rule.priority other.priority) fit ∙ lt-leb rule.priority other.priority (omega arith) in
            within-parts other
            ∙ and_right (test other) _ (and_right (list_all (within other.priority) rules) _ (and_left (within other.priority rule) true not_within))

        all-within : (others : List Rule) → list_all (within best.priority) others ≡ true → list_all (within rule.priority) others ≡ true
        all-within [] all = refl
        all-within (other ∷ others) all =
            let parts = and_parts (within best.priority other) (list_all (within best.priority) others) all in
            and_from (within rule.priority other) _ (below other parts.0 (test other) refl) (all-within others parts.1)

        none-decide : (others : List Rule) → list_all (within best.priority) others ≡ true → list_any (is_choice test more) others ≡ false
        none-decide [] all = refl
        none-decide (other ∷ others) all =
            let parts = and_parts (within best.priority other) (list_all (within best.priority) others) all in
            or_from (is_choice test more other) _ (loses other parts.0 (test other) refl) (none-decide others parts.1)

    -- else the rule stays that decided
    pub stays : test rule ≡ true → rule.priority ≤ best.priority → position (is_choice test more) more ≡ position (is_choice test rules) rules
    stays fit least =
        let there = position-some (is_choice test rules) rules best found in
        position-same (is_choice test more) (is_choice test rules) more same
        ∙ position-push (is_choice test rules) rules rule
        ∙ ap (λ o. option_or o (cond (is_choice test rules rule) (Some (length rules)) None)) there.1
        ∙ sym there.1
      where
        same : (other : Rule) → is_choice test more other ≡ is_choice test rules other
        same other = within-parts other ∙ go (test other) (list_all (within other.priority) rules) refl
          where
            go : (t a : Bool) → list_all (within other.priority) rules ≡ a → (t && (a && (within other.priority rule && true))) ≡ (t && a)
            go false a e = refl
            go true false e = refl
            go true true e =
                let le = at-most best other.priority best-parts.0 (find-among (is_choice test rules) (within other.priority) rules best found e) in
                let high : within other.priority rule ≡ true =
                ap (λ b. not b || nat_le rule.priority other.priority) fit ∙ le-leb rule.priority other.priority (omega arith) in
                and_from (within other.priority rule) true high refl

  pub chosen-next : position (is_choice test more) more ≡ chosen_with rules (position (is_choice test rules) rules) rule (test rule)
  chosen-next =
      go (test rule) refl (choice test rules) refl
      ∙ ap (λ o. cond (not (test rule) || has_at_least rule.priority o) (position (is_choice test rules) rules) (Some (length rules))) (choice-place test rules)
    where
      high : (best : Rule) → choice test rules ≡ Some best → test rule ≡ true → (b : Bool) → nat_le rule.priority best.priority ≡ b
          → position (is_choice test more) more ≡ cond b (position (is_choice test rules) rules) (Some (length rules))
      high best found fit true e = stays best found fit (leb-true rule.priority best.priority e)
      high best found fit false e = is-beaten best found fit (leb-false rule.priority best.priority e)

      go : (b : Bool) → test rule ≡ b → (o : Option Rule) → choice test rules ≡ o
          → position (is_choice test more) more
          ≡ cond (not b || has_at_least rule.priority o) (position (is_choice test rules) rules) (Some (length rules))
      go false fit o found = place-without fit
      go true fit None found = first-fits fit (chosen_none_fits test rules found)
      go true fit (Some best) found = high best found fit (nat_le rule.priority best.priority) refl
