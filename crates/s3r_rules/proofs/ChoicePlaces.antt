-- What stands at the places of a choice. This is for the crates above.
use Rattle.std.proofs.Common.{◌≡◌, ℕ, ◌<◌, Bool, true, List, [], ◌∷◌, length, map, option_map, Option, Some, None, IfSome, All, position, unwrap_or, slice_get, option_and_then, refl, sym, ap, subst, ◌∙◌}
use Rattle.std.specs.List.{list_any}
use Rattle.std.specs.Str.{bytes_eq}
use Rattle.std.proofs.lemmas.Bool.{or_left, or_right}
use Rattle.std.proofs.lemmas.List.Elements.{All-nil, All-cons}
use Rattle.std.proofs.lemmas.Slice.Eq.{bytes_eq-Decides}
use Rattle.s3r_rules.specs.declared.rule.Rule.{Rule}
use Rattle.s3r_rules.specs.declared.per_destination.Choice.{Choice}
use Rattle.s3r_rules.specs.Choice.{Write, fits, is_choice, choice}
use Rattle.s3r_rules.specs.Destinations.{destinations}
use Rattle.s3r_rules.specs.Choices.{is_for, choice_to}
use Rattle.s3r_rules.proofs.Naming.{Name, complete}
use Rattle.s3r_rules.proofs.Positions.{position-some, position-below, find-position, find-passes, find-some}

-- the rule at the place that is chosen is the one that decides
pub choice-place : (test : Rule → Bool) (rules : List Rule) → choice test rules ≡ option_and_then (slice_get rules) (position (is_choice test rules) rules)
choice-place test rules = find-position (is_choice test rules) rules

pub chosen-below : (test : Rule → Bool) (rules : List Rule) (i : ℕ) → position (is_choice test rules) rules ≡ Some i → i < length rules
chosen-below test rules i is = position-below (is_choice test rules) rules i is

-- a bucket's first rule, and its place
pub record FirstRule (rules : List Rule) (to : Name) : Type 0 where
  pub place : ℕ
  pub rule : Rule
  pub is : position (is_for to) rules ≡ Some place
  pub at : slice_get rules place ≡ Some rule
  pub bucket : rule.bucket ≡ to

-- where there is a rule to a bucket, there is a first one
pub first-rule : (rules : List Rule) (to : Name) → list_any (is_for to) rules ≡ true → FirstRule rules to
first-rule rules to known =
    let one = find-some (is_for to) rules known in
    let there = position-some (is_for to) rules one.0 one.1 in
    record {
      place = there.0;
      rule = one.0;
      is = there.1;
      at = there.2;
      bucket = (bytes_eq-Decides one.0.bucket to).0 (find-passes (is_for to) rules one.0 one.1);
    }

-- the rule at a destination's first place is to the destination
pub first-bucket : (write : Write) (rules : List Rule) (to : Name) → list_any (is_for to) rules ≡ true
    → option_map (λ (rule : Rule). rule.bucket) (slice_get rules (choice_to write rules to).first) ≡ Some to
first-bucket write rules to known =
    let one = first-rule rules to known in
    ap (λ o. option_map (λ (rule : Rule). rule.bucket) (slice_get rules (unwrap_or o 0))) one.is
    ∙ ap (option_map (λ (rule : Rule). rule.bucket)) one.at
    ∙ ap Some one.bucket

pub first-below : (write : Write) (rules : List Rule) (to : Name) → list_any (is_for to) rules ≡ true → (choice_to write rules to).first < length rules
first-below write rules to known =
    let one = first-rule rules to known in
    subst (λ o. unwrap_or o 0 < length rules) (sym one.is) (position-below (is_for to) rules one.place one.is)

-- both places are those of rules
abbrev pub IsWithin : List Rule → Choice → Type 0
IsWithin rules choice = (choice.first < length rules) × IfSome choice.chosen (λ i. i < length rules)

within : (write : Write) (rules : List Rule) (to : Name) → list_any (is_for to) rules ≡ true → IsWithin rules (choice_to write rules to)
within write rules to known = (first-below write rules to known, go (position (is_choice (fits to write) rules) rules) refl)
  where
    go : (o : Option ℕ) → position (is_choice (fits to write) rules) rules ≡ o → IfSome o (λ i. i < length rules)
    go None e = tt
    go (Some i) e = chosen-below (fits to write) rules i e

each-within : (write : Write) (rules : List Rule) (names : List Name)
    → ((to : Name) → list_any (λ other. bytes_eq other to) names ≡ true → list_any (is_for to) rules ≡ true)
    → All (IsWithin rules) (map (choice_to write rules) names)
each-within write rules [] known = All-nil (IsWithin rules)
each-within write rules (name ∷ names) known =
    let own = (bytes_eq-Decides name name).1 refl in
    All-cons (IsWithin rules) (choice_to write rules name) (map (choice_to write rules) names)
    (within write rules name (known name (or_left (bytes_eq name name) (list_any (λ other. bytes_eq other name) names) own)))
    (each-within write rules names (λ to there. known to (or_right (bytes_eq name to) (list_any (λ other. bytes_eq other to) names) there)))

-- so it is of all choices
pub places-within : (write : Write) (rules : List Rule) → All (IsWithin rules) (map (choice_to write rules) (destinations rules))
places-within write rules = each-within write rules (destinations rules) (λ to there. sym (complete rules to) ∙ there)
