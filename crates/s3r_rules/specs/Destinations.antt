-- The buckets to which a configuration copies.
use Rattle.std.specs.Prelude.{◌≡◌, ℕ, Bool, true, false, ◌&&◌, if◌then◌else◌, List, [], ◌∷◌, drop, insert}
use Rattle.std.specs.List.{prefix_len, list_all, list_any}
use Rattle.std.specs.Str.{bytes_eq}
use Rattle.s3r_names.specs.Tags.{is_key_below}
use Rattle.s3r_rules.specs.declared.rule.Rule.{Rule}

-- how many names at the front are below this one
abbrev pub place_of : List ℕ → List (List ℕ) → ℕ
place_of name names = prefix_len (λ other. is_key_below other name) names

abbrev pub is_first : List ℕ → List (List ℕ) → Bool
is_first name [] = false
is_first name (other ∷ names) = bytes_eq other name

-- rising names with one more in its place, where it isn't there
abbrev pub with_name : List ℕ → List (List ℕ) → List (List ℕ)
with_name name names = if is_first name (drop (place_of name names) names) then names else insert names (place_of name names) name

abbrev pub names_from : List (List ℕ) → List Rule → List (List ℕ)
names_from names [] = names
names_from names (rule ∷ rules) = names_from (with_name rule.bucket names) rules

-- the distinct buckets, rising
abbrev pub destinations : List Rule → List (List ℕ)
destinations rules = names_from [] rules

-- each name is below all that follow it
abbrev pub rise : List (List ℕ) → Bool
rise [] = true
rise (name ∷ names) = list_all (is_key_below name) names && rise names

-- just the rules' buckets are there
abbrev pub AreBuckets : List Rule → List (List ℕ) → Type 0
AreBuckets rules names = (name : List ℕ) → list_any (λ other. bytes_eq other name) names ≡ list_any (λ (rule : Rule). bytes_eq rule.bucket name) rules
