-- The rule of greatest priority is the one that no other exceeds.
use Rattle.std.proofs.Common.{◌≡◌, ℕ, ◌≤◌, Bool, true, false, not, ◌==◌, ◌&&◌, ◌||◌, nat_le, nat_lt, if◌then◌else◌, List, [], ◌∷◌, find, Option, Some, None, refl, sym, ap, ap₂, subst, ◌∙◌, ◌⊎◌, inl, inr, cond, arith}
use Rattle.std.specs.List.{list_all, list_any}
use Rattle.std.proofs.lemmas.Bool.{and_parts, and_from, or_left, or_right, eq-eqb}
use Rattle.std.proofs.lemmas.Bool.Decides.{nat_tests}
use Rattle.s3r_rules.specs.declared.rule.Rule.{Rule}
use Rattle.s3r_rules.specs.Choice.{is_choice, choice, above, greatest_from, greatest, with_priority, chosen}
use Rattle.s3r_rules.proofs.Positions.{find-some}

le-true : (a b : ℕ) → a ≤ b → nat_le a b ≡ true
le-true a b h = grind (arith, nat_tests)

true-le : (a b : ℕ) → nat_le a b ≡ true → a ≤ b
true-le a b h = grind (arith, nat_tests)

module _ (test : Rule → Bool) where
  -- the rule doesn't fit, or its priority is at most this
  abbrev within : ℕ → Rule → Bool
  within k rule = not (test rule) || nat_le rule.priority k

  abbrev AtMost : Option ℕ → ℕ → Type 0
  AtMost None k = Unit {0}
  AtMost (Some n) k = n ≤ k

  above-parts : (most : Option ℕ) (p k : ℕ) → AtMost (above most p) k → AtMost most k × (p ≤ k)
  above-parts None p k h = (tt, h)
  above-parts (Some n) p k h = go (nat_lt p n) refl h
    where
      go : (b : Bool) → nat_lt p n ≡ b → AtMost (if b then Some n else Some p) k → (n ≤ k) × (p ≤ k)
      go true e h = (h, grind (arith, nat_tests))
      go false e h = (grind (arith, nat_tests), h)

  above-whole : (most : Option ℕ) (p k : ℕ) → AtMost most k → p ≤ k → AtMost (above most p) k
  above-whole None p k h le = le
  above-whole (Some n) p k h le = go (nat_lt p n)
    where
      go : (b : Bool) → AtMost (if b then Some n else Some p) k
      go true = h
      go false = le

  bounded : (rules : List Rule) (most : Option ℕ) (m : ℕ) → greatest_from test most rules ≡ Some m → AtMost most m × (list_all (within m) rules ≡ true)
  bounded [] most m e = (subst (λ o. AtMost o m) (sym e) (omega arith), refl)
  bounded (rule ∷ rules) most m e = go (λ before. bounded rules before m) (test rule) refl e
    where
      go : ((before : Option ℕ) → greatest_from test before rules ≡ Some m → AtMost before m × (list_all (within m) rules ≡ true))
          → (b : Bool) → test rule ≡ b → greatest_from test (if b then above most rule.priority else most) rules ≡ Some m
          → AtMost most m × (((not (test rule) || nat_le rule.priority m) && list_all (within m) rules) ≡ true)
      go ih false is e = let rest = ih most e in (rest.0, rw (is, rest.1) refl)
      go ih true is e =
          let rest = ih (above most rule.priority) e in
          let parts = above-parts most rule.priority m rest.0 in
          let le : nat_le rule.priority m ≡ true = le-true rule.priority m parts.1 in
          (parts.0, rw (is, le, rest.1) refl)

  least : (rules : List Rule) (most : Option ℕ) (m k : ℕ) → greatest_from test most rules ≡ Some m → AtMost most k → list_all (within k) rules ≡ true → m ≤ k
  least [] most m k e h all = subst (λ o. AtMost o k) e h
  least (rule ∷ rules) most m k e h all =
      let parts = and_parts (within k rule) (list_all (within k) rules) all in
      go (λ before e h. least rules before m k e h parts.1) (test rule) refl e parts.0
    where
      go : ((before : Option ℕ) → greatest_from test before rules ≡ Some m → AtMost before k → m ≤ k)
          → (b : Bool) → test rule ≡ b → greatest_from test (if b then above most rule.priority else most) rules ≡ Some m
          → (not (test rule) || nat_le rule.priority k) ≡ true → m ≤ k
      go ih false is e one = ih most e h
      go ih true is e one =
          let low : nat_le rule.priority k ≡ true = sym (ap (λ b. not b || nat_le rule.priority k) is) ∙ one in
          ih (above most rule.priority) e (above-whole most rule.priority k h (true-le rule.priority k low))

  never-none : (rules : List Rule) (n : ℕ) → greatest_from test (Some n) rules ≡ None → ⊥
  never-none [] n e = absurd (cc e)
  never-none (rule ∷ rules) n e = go (never-none rules) (test rule) (nat_lt rule.priority n) e
    where
      go : ((k : ℕ) → greatest_from test (Some k) rules ≡ None → ⊥)
          → (b c : Bool) → greatest_from test (if b then (if c then Some n else Some rule.priority) else Some n) rules ≡ None → ⊥
      go ih false c e = ih n e
      go ih true true e = ih n e
      go ih true false e = ih rule.priority e

  none-found : (all rules : List Rule) → greatest_from test None rules ≡ None → find (is_choice test all) rules ≡ None
  none-found all [] e = refl
  none-found all (rule ∷ rules) e = go (none-found all rules) (test rule) refl e
    where
      go : (greatest_from test None rules ≡ None → find (is_choice test all) rules ≡ None) → (b : Bool) → test rule ≡ b
          → greatest_from test (if b then Some rule.priority else None) rules ≡ None
          → cond (test rule && list_all (λ (other : Rule). not (test other) || nat_le other.priority rule.priority) all) (Some rule)
          (find (is_choice test all) rules) ≡ None
      go ih false is e = rw is (ih e)
      go ih true is e = absurd (never-none rules rule.priority e)

  same-test : (all : List Rule) (m : ℕ) (rule : Rule) → list_all (within m) all ≡ true → ((k : ℕ) → list_all (within k) all ≡ true → m ≤ k)
      → within m rule ≡ true
      → with_priority test m rule ≡ is_choice test all rule
  same-test all m rule bound low one = go (test rule) refl one
    where
      decide : (b c : Bool) → (rule.priority == m) ≡ b → list_all (within rule.priority) all ≡ c → rule.priority ≤ m → b ≡ c
      decide true true e f le = refl
      decide false false e f le = refl
      decide true false e f le =
          let same : rule.priority ≡ m = grind (arith, nat_tests) in
          sym (ap (λ k. list_all (within k) all) same ∙ bound) ∙ f
      decide false true e f le = let ge = low rule.priority f in grind (arith, nat_tests)

      go : (b : Bool) → test rule ≡ b → (not b || nat_le rule.priority m) ≡ true
          → (test rule && rule.priority == m) ≡ (test rule && list_all (within rule.priority) all)
      go false is one = rw is refl
      go true is one = rw is (decide (rule.priority == m) (list_all (within rule.priority) all) refl refl (true-le rule.priority m one))

  found : (all rules : List Rule) (m : ℕ) → list_all (within m) all ≡ true → ((k : ℕ) → list_all (within k) all ≡ true → m ≤ k)
      → list_all (within m) rules ≡ true
      → find (with_priority test m) rules ≡ find (is_choice test all) rules
  found all [] m bound low each = refl
  found all (rule ∷ rules) m bound low each =
      let parts = and_parts (within m rule) (list_all (within m) rules) each in
      ap₂ (λ b rest. cond b (Some rule) rest) (same-test all m rule bound low parts.0) (found all rules m bound low parts.1)

  -- where no rule has a priority, none is chosen
  pub chosen_none : (rules : List Rule) → greatest test rules ≡ None → choice test rules ≡ None
  chosen_none rules e = none-found rules rules e

  pub choice_by_priority : (rules : List Rule) → chosen test rules (greatest test rules) ≡ choice test rules
  choice_by_priority rules = go (greatest test rules) refl
    where
      go : (most : Option ℕ) → greatest test rules ≡ most → chosen test rules most ≡ choice test rules
      go None e = sym (none-found rules rules e)
      go (Some m) e = let bound = (bounded rules None m e).1 in found rules rules m bound (λ k all. least rules None m k e tt all) bound

  none-fits : (rules : List Rule) → greatest_from test None rules ≡ None → list_any test rules ≡ false
  none-fits [] e = refl
  none-fits (rule ∷ rules) e = go (none-fits rules) (test rule) e
    where
      go : (greatest_from test None rules ≡ None → list_any test rules ≡ false) → (b : Bool)
          → greatest_from test (if b then Some rule.priority else None) rules ≡ None → (b || list_any test rules) ≡ false
      go ih true e = absurd (never-none rules rule.priority e)
      go ih false e = ih e

  -- the greatest priority is one of a rule, or the one before all rules
  abbrev IsThere : Option ℕ → ℕ → List Rule → Type 0
  IsThere most m rules = (most ≡ Some m) ⊎ (list_any (with_priority test m) rules ≡ true)

  later : (rule : Rule) (rules : List Rule) (most : Option ℕ) (m : ℕ) → IsThere most m rules → IsThere most m (rule ∷ rules)
  later rule rules most m (inl h) = inl h
  later rule rules most m (inr h) = inr (or_right (with_priority test m rule) (list_any (with_priority test m) rules) h)

  fresh : (rule : Rule) (rules : List Rule) (most : Option ℕ) (m : ℕ) → test rule ≡ true → IsThere (Some rule.priority) m rules
      → IsThere most m (rule ∷ rules)
  fresh rule rules most m is (inl h) =
      let same : rule.priority ≡ m = cc in
      inr (or_left (with_priority test m rule) (list_any (with_priority test m) rules)
      (and_from (test rule) (rule.priority == m) is (eq-eqb rule.priority m same)))
  fresh rule rules most m is (inr h) = inr (or_right (with_priority test m rule) (list_any (with_priority test m) rules) h)

  greatest-there : (rules : List Rule) (most : Option ℕ) (m : ℕ) → greatest_from test most rules ≡ Some m → IsThere most m rules
  greatest-there [] most m e = inl e
  greatest-there (rule ∷ rules) most m e = go (λ before. greatest-there rules before m) (test rule) refl most e
    where
      go : ((before : Option ℕ) → greatest_from test before rules ≡ Some m → IsThere before m rules) → (b : Bool) → test rule ≡ b
          → (before : Option ℕ) → greatest_from test (if b then above before rule.priority else before) rules ≡ Some m → IsThere before m (rule ∷ rules)
      go ih false is before e = later rule rules before m (ih before e)
      go ih true is None e = fresh rule rules None m is (ih (Some rule.priority) e)
      go ih true is (Some n) e = split (nat_lt rule.priority n) e
        where
          split : (b : Bool) → greatest_from test (if b then Some n else Some rule.priority) rules ≡ Some m → IsThere (Some n) m (rule ∷ rules)
          split true e = later rule rules (Some n) m (ih (Some n) e)
          split false e = fresh rule rules (Some n) m is (ih (Some rule.priority) e)

  -- where none is chosen no rule fits
  pub chosen_none_fits : (rules : List Rule) → choice test rules ≡ None → list_any test rules ≡ false
  chosen_none_fits rules none = go (greatest test rules) refl
    where
      there : (m : ℕ) → greatest test rules ≡ Some m → IsThere None m rules → list_any test rules ≡ false
      there m e (inl h) = absurd cc
      there m e (inr h) =
          let one = find-some (with_priority test m) rules h in
          let found : chosen test rules (Some m) ≡ None = ap (chosen test rules) (sym e) ∙ choice_by_priority rules ∙ none in
          absurd (cc (one.1, found))

      go : (most : Option ℕ) → greatest test rules ≡ most → list_any test rules ≡ false
      go None e = none-fits rules e
      go (Some m) e = there m e (greatest-there rules None m e)
