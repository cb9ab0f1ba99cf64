-- The choice for each destination of a write.
use Rattle.std.specs.Prelude.{ℕ, Bool, false, not, ◌||◌, nat_le, if◌then◌else◌, List, [], Option, Some, None, length, map, position, unwrap_or, slice_get, option_and_then}
use Rattle.std.specs.Str.{bytes_eq}
use Rattle.s3r_rules.specs.declared.rule.Rule.{Rule}
use Rattle.s3r_rules.specs.declared.per_destination.Choice.{Choice}
use Rattle.s3r_rules.specs.Choice.{Write, fits, is_choice}
use Rattle.s3r_rules.specs.Destinations.{destinations}

-- the rule is to this bucket, whether it is enabled or not
abbrev pub is_for : List ℕ → Rule → Bool
is_for to rule = bytes_eq rule.bucket to

-- the places of the first rule to a bucket and of the rule that decides
abbrev pub choice_to : Write → List Rule → List ℕ → Choice
choice_to write rules to = record { first = unwrap_or (position (is_for to) rules) 0; chosen = position (is_choice (fits to write) rules) rules }

-- the choices for all destinations, rising by their names
unfoldable pub choices_of : Write → List Rule → List Choice
choices_of write rules = map (choice_to write rules) (destinations rules)

-- ---- one rule more

abbrev pub bucket_of : Option Rule → List ℕ
bucket_of None = []
bucket_of (Some rule) = rule.bucket

-- the name of a choice's destination
abbrev pub name_of : List Rule → Choice → List ℕ
name_of rules choice = bucket_of (slice_get rules choice.first)

abbrev pub has_at_least : ℕ → Option Rule → Bool
has_at_least priority None = false
has_at_least priority (Some rule) = nat_le priority rule.priority

-- the rule at the place has at least this priority
abbrev pub keeps : List Rule → Option ℕ → ℕ → Bool
keeps rules chosen priority = has_at_least priority (option_and_then (slice_get rules) chosen)

-- the place of the rule that decides where this rule stands behind the others, and fits or not
abbrev pub chosen_with : List Rule → Option ℕ → Rule → Bool → Option ℕ
chosen_with rules chosen rule fit = if not fit || keeps rules chosen rule.priority then chosen else Some (length rules)
