-- At most one rule decides.
use Rattle.std.proofs.Common.{◌≡◌, ◌≤◌, ℕ, Bool, true, false, not, ◌==◌, ◌&&◌, ◌||◌, nat_le, List, [], ◌∷◌, length, filter, refl, sym, ap, ◌∙◌, arith}
use Rattle.std.specs.List.{list_all}
use Rattle.std.specs.Str.{bytes_eq}
use Rattle.std.proofs.lemmas.Bool.{and_parts}
use Rattle.std.proofs.lemmas.Bool.Decides.{nat_tests}
use Rattle.std.proofs.lemmas.Slice.Eq.{bytes_eq-Decides}
use Rattle.s3r_rules.specs.declared.rule.Rule.{Rule}
use Rattle.s3r_rules.specs.Rules.{is_rule, has_id, has_priority, are_apart}
use Rattle.s3r_rules.specs.Choice.{Write, is_to, matches_write, fits, is_choice}
use Rattle.s3r_rules.specs.Laws.{OneDecides}

both : (a b : Bool) → a ≡ true → b ≡ true → (a && b) ≡ true
both a b h k = rw (h, k) refl

not_both : (b : Bool) → not b ≡ true → b ≡ true → ⊥
not_both true h e = absurd (cc h)
not_both false h e = absurd (cc e)

module _ (to : List ℕ) (write : Write) (all : List Rule) where
  abbrev test : Rule → Bool
  test rule = fits to write rule

  -- the rule doesn't fit, or its priority is at most this
  abbrev within : ℕ → Rule → Bool
  within k rule = not (test rule) || nat_le rule.priority k

  abbrev decides : Rule → Bool
  decides rule = is_choice test all rule

  -- what bounds all rules bounds these
  abbrev Part : List Rule → Type 0
  Part rules = (k : ℕ) → list_all (within k) all ≡ true → list_all (within k) rules ≡ true

  low : (rule : Rule) (k : ℕ) → test rule ≡ true → within k rule ≡ true → rule.priority ≤ k
  low rule k fit h = go (sym (ap (λ b. not b || nat_le rule.priority k) fit) ∙ h)
    where
      go : nat_le rule.priority k ≡ true → rule.priority ≤ k
      go e = grind (arith, nat_tests)

  bucket_is : (rule : Rule) → test rule ≡ true → rule.bucket ≡ to
  bucket_is rule fit = (bytes_eq-Decides rule.bucket to).0 (and_parts rule.enabled (bytes_eq rule.bucket to)
      (and_parts (is_to to rule) (matches_write write rule) fit).0).1

  same_number : (a b : ℕ) → a ≤ b → b ≤ a → (a == b) ≡ true
  same_number a b up down = grind (arith, nat_tests)

  -- two that decide have one priority to one bucket
  clash : (first other : Rule) → decides first ≡ true → decides other ≡ true → within first.priority other ≡ true → within other.priority first ≡ true
      → has_priority other first ≡ true
  clash first other one two up down =
      let fit = (and_parts (test first) (list_all (within first.priority) all) one).0 in
      let fit_other = (and_parts (test other) (list_all (within other.priority) all) two).0 in
      let bucket = (bytes_eq-Decides other.bucket first.bucket).1 (bucket_is other fit_other ∙ sym (bucket_is first fit)) in
      let number = same_number other.priority first.priority (low other first.priority fit_other up) (low first other.priority fit down) in
      rw (bucket, number) refl

  -- beside a rule that decides no other does
  none_beside : (first : Rule) (rules : List Rule) → decides first ≡ true → list_all (λ other. not (has_priority other first)) rules ≡ true
      → Part (first ∷ rules) → filter decides rules ≡ []
  none_beside first [] one apart part = refl
  none_beside first (other ∷ rules) one apart part =
      let parts = and_parts (not (has_priority other first)) (list_all (λ o. not (has_priority o first)) rules) apart in
      let all_first = (and_parts (test first) (list_all (within first.priority) all) one).1 in
      let rest : Part (first ∷ rules) = λ k h.
      let whole = and_parts (within k first) (within k other && list_all (within k) rules) (part k h) in
      both (within k first) (list_all (within k) rules) whole.0 (and_parts (within k other) (list_all (within k) rules) whole.1).1 in
      let up = (and_parts (within first.priority other) (list_all (within first.priority) rules)
      (and_parts (within first.priority first) (within first.priority other && list_all (within first.priority) rules)
      (part first.priority all_first)).1).0 in
      go (decides other) refl parts.0 up (none_beside first rules one parts.1 rest)
    where
      go : (b : Bool) → decides other ≡ b → not (has_priority other first) ≡ true → within first.priority other ≡ true → filter decides rules ≡ []
          → filter decides (other ∷ rules) ≡ []
      go false e clear up none = rw e none
      go true e clear up none =
          let all_other = (and_parts (test other) (list_all (within other.priority) all) e).1 in
          let down = (and_parts (within other.priority first) (within other.priority other && list_all (within other.priority) rules)
          (part other.priority all_other)).0 in
          absurd (not_both (has_priority other first) clear (clash first other one e up down))

  at_most_one : (rules : List Rule) → are_apart has_priority rules ≡ true → Part rules → length (filter decides rules) ≤ 1
  at_most_one [] apart part = omega arith
  at_most_one (rule ∷ rules) apart part =
      let parts = and_parts (list_all (λ other. not (has_priority other rule)) rules) (are_apart has_priority rules) apart in
      let rest : Part rules = λ k h. (and_parts (within k rule) (list_all (within k) rules) (part k h)).1 in
      go (decides rule) refl (at_most_one rules parts.1 rest)
    where
      go : (b : Bool) → decides rule ≡ b → length (filter decides rules) ≤ 1 → length (filter decides (rule ∷ rules)) ≤ 1
      go false e few = rw e few
      go true e few =
          let none = none_beside rule rules e (and_parts (list_all (λ other. not (has_priority other rule)) rules)
          (are_apart has_priority rules) apart).0 part in
          rw (e, none) (omega arith)

pub one_decides : OneDecides
one_decides rules to write h =
    let apart = (and_parts (nat_le 1 (length rules) && nat_le (length rules) 1000 && list_all is_rule rules && are_apart has_id rules)
    (are_apart has_priority rules) h).1 in
    at_most_one to write rules rules apart (λ k all. all)
