-- The choices of some rules, where one rule more stands behind the others.
use Rattle.std.proofs.Common.{◌≡◌, ℕ, Bool, true, false, cond, if◌then◌else◌, List, [], ◌∷◌, ◌++◌, length, map, drop, insert, set, get_or, Option, Some, None, position, unwrap_or, slice_get, refl, sym, ap, ap₂, ◌∙◌, arith}
use Rattle.std.specs.List.{list_any, between, drop-map}
use Rattle.std.specs.Option.{option_or}
use Rattle.std.specs.Str.{bytes_eq}
use Rattle.std.proofs.lemmas.Bool.{and_left, and_right, or_parts, or_from}
use Rattle.std.proofs.lemmas.Slice.{between_to_end}
use Rattle.s3r_rules.specs.declared.rule.Rule.{Rule}
use Rattle.s3r_rules.specs.declared.per_destination.Choice.{Choice}
use Rattle.s3r_rules.specs.Choice.{Write, fits, is_to, matches_write, is_choice}
use Rattle.s3r_rules.specs.Destinations.{place_of, is_first, with_name, names_from, destinations, rise}
use Rattle.s3r_rules.specs.Choices.{is_for, choice_to, choices_of, bucket_of, name_of, chosen_with}
use Rattle.s3r_rules.proofs.Naming.{Name, rising, complete}
use Rattle.s3r_rules.proofs.Positions.{position-push, position-none}
use Rattle.s3r_rules.proofs.ChoicePlaces.{first-rule}
use Rattle.s3r_rules.proofs.ChoiceSteps.{place-without, chosen-next}
use Rattle.s3r_rules.proofs.RisingNames.{Stay, eq-self, eq-sym, name-there, name-new, name-missing, at-first, first-is-there, map-back}

abbrev pub made : ℕ → Option ℕ → Choice
made first chosen = record { first = first; chosen = chosen }

-- the name of a destination's choice is the destination
pub name-back : (write : Write) (rules : List Rule) (name : Name) → list_any (is_for name) rules ≡ true → name_of rules (choice_to write rules name) ≡ name
name-back write rules name known =
    let one = first-rule rules name known in
    ap (λ o. bucket_of (slice_get rules (unwrap_or o 0))) one.is ∙ ap bucket_of one.at ∙ one.bucket

pub names-back : (write : Write) (rules : List Rule) → map (name_of rules) (map (choice_to write rules) (destinations rules)) ≡ destinations rules
names-back write rules =
    map-back (choice_to write rules) (name_of rules) (destinations rules) (λ other there. name-back write rules other (sym (complete rules other) ∙ there))

names-push : (rules : List Rule) (rule : Rule) (names : List Name) → names_from names (rules ++ rule ∷ []) ≡ with_name rule.bucket (names_from names rules)
names-push [] rule names = refl
names-push (first ∷ rules) rule names = names-push rules rule (with_name first.bucket names)

-- the place of a rule's bucket among choices
abbrev pub place_among : List Rule → Rule → List Choice → ℕ
place_among rules rule choices = place_of rule.bucket (map (name_of rules) choices)

-- what the code asks of the choices from a place on
pub asked-first : (rules : List Rule) (name : Name) (choices kept : List Choice) (place : ℕ) (t r : Bool) → kept ≡ choices
    → r ≡ is_first name (map (name_of rules) (between place (length kept) kept)) → r ≡ t → is_first name (map (name_of rules) (drop place choices)) ≡ t
asked-first rules name choices kept place t r same asked is =
    ap (λ xs. is_first name (map (name_of rules) (drop place xs))) (sym same)
    ∙ ap (λ xs. is_first name (map (name_of rules) xs)) (sym (between_to_end kept place (length kept) (omega arith)))
    ∙ sym asked
    ∙ is

module _ (write : Write) (rules : List Rule) (rule : Rule) where
  abbrev more : List Rule
  more = rules ++ rule ∷ []

  -- a bucket's first rule stays
  first-stays : (name : Name) → list_any (is_for name) rules ≡ true → position (is_for name) more ≡ position (is_for name) rules
  first-stays name known =
      let one = first-rule rules name known in
      position-push (is_for name) rules rule
      ∙ ap (λ o. option_or o (cond (is_for name rule) (Some (length rules)) None)) one.is
      ∙ sym one.is

  -- the choices of other buckets stay
  others-stay : (name : Name) → list_any (is_for name) rules ≡ true → bytes_eq name rule.bucket ≡ false → choice_to write more name ≡ choice_to write rules name
  others-stay name known differ =
      let no_fit : fits name write rule ≡ false =
      and_left (is_to name rule) (matches_write write rule) (and_right rule.enabled (bytes_eq rule.bucket name) (eq-sym name rule.bucket differ)) in
      ap₂ made (ap (λ o. unwrap_or o 0) (first-stays name known)) (place-without (fits name write) rules rule no_fit)

  -- the choice of the rule's own bucket
  known-bucket : list_any (is_for rule.bucket) rules ≡ true
      → choice_to write more rule.bucket
      ≡ made (choice_to write rules rule.bucket).first (chosen_with rules (choice_to write rules rule.bucket).chosen rule (fits rule.bucket write rule))
  known-bucket known = ap₂ made (ap (λ o. unwrap_or o 0) (first-stays rule.bucket known)) (chosen-next (fits rule.bucket write) rules rule)

  none-decides : (name : Name) (all others : List Rule) → list_any (is_for name) others ≡ false → list_any (is_choice (fits name write) all) others ≡ false
  none-decides name all [] none = refl
  none-decides name all (other ∷ others) none =
      let parts = or_parts (is_for name other) (list_any (is_for name) others) none in
      or_from (is_choice (fits name write) all other) _
      (and_left (fits name write other) _ (and_left (is_to name other) _ (and_right other.enabled (is_for name other) parts.0)))
      (none-decides name all others parts.1)

  new-bucket : list_any (is_for rule.bucket) rules ≡ false
      → choice_to write more rule.bucket ≡ made (length rules) (chosen_with rules None rule (fits rule.bucket write rule))
  new-bucket none =
      let first : position (is_for rule.bucket) more ≡ Some (length rules) =
      position-push (is_for rule.bucket) rules rule
      ∙ ap₂ (λ o b. option_or o (cond b (Some (length rules)) None)) (position-none (is_for rule.bucket) rules none) (eq-self rule.bucket) in
      let before = position-none (is_choice (fits rule.bucket write) rules) rules (none-decides rule.bucket rules rules none) in
      ap₂ made (ap (λ o. unwrap_or o 0) first)
      (chosen-next (fits rule.bucket write) rules rule ∙ ap (λ o. chosen_with rules o rule (fits rule.bucket write rule)) before)

  stay : Stay rule.bucket (choice_to write rules) (choice_to write more) (destinations rules)
  stay other there differ = others-stay other (sym (complete rules other) ∙ there) differ

  -- ---- the same over the choices as they are kept

  names-are : (choices : List Choice) → choices ≡ choices_of write rules → map (name_of rules) choices ≡ destinations rules
  unfolding choices_of
  names-are choices are = ap (map (name_of rules)) are ∙ names-back write rules

  pub choices-rise : (choices : List Choice) → choices ≡ choices_of write rules → rise (map (name_of rules) choices) ≡ true
  choices-rise choices are = ap rise (names-are choices are) ∙ rising rules

  module _ (choices : List Choice) (place : ℕ) (are : choices ≡ choices_of write rules) (at : place ≡ place_of rule.bucket (map (name_of rules) choices)) where
    at-place : place ≡ place_of rule.bucket (destinations rules)
    at-place = at ∙ ap (place_of rule.bucket) (names-are choices are)

    first-there : (t : Bool) → is_first rule.bucket (map (name_of rules) (drop place choices)) ≡ t → is_first rule.bucket (drop place (destinations rules)) ≡ t
    first-there t is =
        ap (λ names. is_first rule.bucket (drop place names)) (sym (names-are choices are))
        ∙ ap (is_first rule.bucket) (drop-map (name_of rules) place choices)
        ∙ is

    at-own-place : (t : Bool) → is_first rule.bucket (map (name_of rules) (drop place choices)) ≡ t
        → is_first rule.bucket (drop (place_of rule.bucket (destinations rules)) (destinations rules)) ≡ t
    at-own-place t is = ap (λ n. is_first rule.bucket (drop n (destinations rules))) (sym at-place) ∙ first-there t is

    -- the destinations then, where the bucket is known or not
    abbrev names_with : Bool → List Name
    names_with known = if known then destinations rules else insert (destinations rules) (place_of rule.bucket (destinations rules)) rule.bucket

    all-more : map (choice_to write more) (with_name rule.bucket (destinations rules)) ≡ choices_of write more
    unfolding choices_of
    all-more = ap (map (choice_to write more)) (sym (names-push rules rule []))

    -- the bucket is known
    pub improved : (old : Choice) → is_first rule.bucket (map (name_of rules) (drop place choices)) ≡ true → old ≡ get_or choices place old
        → set choices place (made old.first (chosen_with rules old.chosen rule (fits rule.bucket write rule))) ≡ choices_of write more
    unfolding choices_of
    improved old is here =
        let own = at-own-place true is in
        let known = sym (complete rules rule.bucket) ∙ first-is-there rule.bucket (destinations rules) place (first-there true is) in
        let same : old ≡ choice_to write rules rule.bucket =
        here ∙ ap (λ xs. get_or xs place old) are ∙ at-first (choice_to write rules) rule.bucket (destinations rules) place old (first-there true is) in
        ap (λ (x : Choice). set choices place (made x.first (chosen_with rules x.chosen rule (fits rule.bucket write rule)))) same
        ∙ ap (set choices place) (sym (known-bucket known))
        ∙ ap₂ (λ xs n. set xs n (choice_to write more rule.bucket)) are at-place
        ∙ name-there rule.bucket (choice_to write rules) (choice_to write more) (destinations rules) (rising rules) own stay
        ∙ ap (λ b. map (choice_to write more) (names_with b)) (sym own)
        ∙ all-more

    -- the bucket is new
    pub added : is_first rule.bucket (map (name_of rules) (drop place choices)) ≡ false
        → insert choices place (made (length rules) (chosen_with rules None rule (fits rule.bucket write rule))) ≡ choices_of write more
    unfolding choices_of
    added is =
        let own = at-own-place false is in
        let none = sym (complete rules rule.bucket) ∙ name-missing rule.bucket (destinations rules) (rising rules) own in
        ap (insert choices place) (sym (new-bucket none))
        ∙ ap₂ (λ xs n. insert xs n (choice_to write more rule.bucket)) are at-place
        ∙ name-new rule.bucket (choice_to write rules) (choice_to write more) (destinations rules) (rising rules) own stay
        ∙ ap (λ b. map (choice_to write more) (names_with b)) (sym own)
        ∙ all-more
