-- What a configuration may be.
use Rattle.std.specs.Prelude.{ℕ, Bool, true, false, not, ◌==◌, ◌&&◌, nat_le, List, [], ◌∷◌, length, Option, Some, None}
use Rattle.std.specs.List.{list_all}
use Rattle.std.specs.Str.{bytes_eq, chars}
use Rattle.s3r_names.specs.declared.tags.Tag.{Tag}
use Rattle.s3r_names.specs.Tags.{is_tag_set}
use Rattle.s3r_names.specs.Bucket.{is_bucket_name}
use Rattle.s3r_names.specs.Class.{is_class_name}
use Rattle.s3r_rules.specs.declared.rule.Rule.{Rule}

abbrev pub is_empty : List Tag → Bool
is_empty [] = true
is_empty (tag ∷ tags) = false

abbrev pub is_class : Option (List ℕ) → Bool
is_class None = true
is_class (Some name) = is_class_name name

-- a rule with tags copies no delete markers
abbrev pub is_rule : Rule → Bool
is_rule rule = nat_le (length (chars rule.id)) 255
    && nat_le rule.priority 2147483647
    && nat_le (length rule.prefix) 1024
    && is_tag_set rule.tags
    && is_bucket_name rule.bucket
    && is_class rule.class
    && not (rule.markers && not (is_empty rule.tags))

abbrev pub has_id : Rule → Rule → Bool
has_id rule other = bytes_eq rule.id other.id

abbrev pub has_priority : Rule → Rule → Bool
has_priority rule other = bytes_eq rule.bucket other.bucket && rule.priority == other.priority

-- no two of these rules clash
abbrev pub are_apart : (Rule → Rule → Bool) → List Rule → Bool
are_apart clash [] = true
are_apart clash (rule ∷ rules) = list_all (λ other. not (clash other rule)) rules && are_apart clash rules

abbrev pub is_config : List Rule → Bool
is_config rules = nat_le 1 (length rules) && nat_le (length rules) 1000 && list_all is_rule rules && are_apart has_id rules && are_apart has_priority rules
