-- Which rule decides a copy.
use Rattle.std.specs.Prelude.{ℕ, Bool, not, ◌==◌, ◌&&◌, ◌||◌, nat_le, nat_lt, nat_eq, if◌then◌else◌, List, [], ◌∷◌, find, Option, Some, None}
use Rattle.std.specs.List.{list_all, list_any, starts_with}
use Rattle.std.specs.Str.{bytes_eq}
use Rattle.s3r_names.specs.declared.tags.Tag.{Tag}
use Rattle.s3r_rules.specs.declared.rule.Rule.{Rule}
use Rattle.s3r_rules.specs.Rules.{is_empty}

-- what is to be copied
pub data Write : Type 0 where
  put : (key : List ℕ) (tags : List Tag) → Write
  marker : (key : List ℕ) → Write
  meta : (key : List ℕ) → Write

abbrev pub has_tag : List Tag → Tag → Bool
has_tag tags tag = list_any (λ (t : Tag). bytes_eq t.key tag.key && bytes_eq t.value tag.value) tags

-- the rule's prefix begins the key
abbrev pub begins : List ℕ → Rule → Bool
begins key rule = starts_with nat_eq key rule.prefix

-- and each of its tags is among the tags
abbrev pub matches : List ℕ → List Tag → Rule → Bool
matches key tags rule = begins key rule && list_all (has_tag tags) rule.tags

-- it is enabled, and to this bucket
abbrev pub is_to : List ℕ → Rule → Bool
is_to to rule = rule.enabled && bytes_eq rule.bucket to

-- a version's tags are looked at, a marker has none, and for new tags or a new hold the rule's are left aside
abbrev pub matches_write : Write → Rule → Bool
matches_write (put key tags) rule = matches key tags rule
matches_write (marker key) rule = is_empty rule.tags && begins key rule
matches_write (meta key) rule = begins key rule

abbrev pub fits : List ℕ → Write → Rule → Bool
fits to write rule = is_to to rule && matches_write write rule

-- it fits, and no other that does has a greater priority
abbrev pub is_choice : (Rule → Bool) → List Rule → Rule → Bool
is_choice test rules rule = test rule && list_all (λ (other : Rule). not (test other) || nat_le other.priority rule.priority) rules

-- The rule that decides. Where no two have one priority to the same bucket there is at most one.
abbrev pub choice : (Rule → Bool) → List Rule → Option Rule
choice test rules = find (is_choice test rules) rules

abbrev pub choice_put : List Rule → List ℕ → List Tag → List ℕ → Option Rule
choice_put rules key tags to = choice (fits to (put key tags)) rules

abbrev pub choice_marker : List Rule → List ℕ → List ℕ → Option Rule
choice_marker rules key to = choice (fits to (marker key)) rules

abbrev pub choice_meta : List Rule → List ℕ → List ℕ → Option Rule
choice_meta rules key to = choice (fits to (meta key)) rules

-- ---- rule by rule

abbrev pub above : Option ℕ → ℕ → Option ℕ
above None priority = Some priority
above (Some most) priority = if nat_lt priority most then Some most else Some priority

abbrev pub greatest_from : (Rule → Bool) → Option ℕ → List Rule → Option ℕ
greatest_from test most [] = most
greatest_from test most (rule ∷ rules) = greatest_from test (if test rule then above most rule.priority else most) rules

-- the greatest priority of the rules that fit
abbrev pub greatest : (Rule → Bool) → List Rule → Option ℕ
greatest test rules = greatest_from test None rules

abbrev pub with_priority : (Rule → Bool) → ℕ → Rule → Bool
with_priority test most rule = test rule && rule.priority == most

abbrev pub chosen : (Rule → Bool) → List Rule → Option ℕ → Option Rule
chosen test rules None = None
chosen test rules (Some most) = find (with_priority test most) rules
