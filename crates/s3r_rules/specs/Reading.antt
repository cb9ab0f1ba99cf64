-- What rules that are written so are.
use Rattle.std.specs.Prelude.{ℕ, ◌+◌, ◌&&◌, not, nat_le, nat_lt, if◌then◌else◌, List, [], ◌∷◌, ◌++◌, length, Option, Some, None, Result, Ok, Err, codes, decimal}
use Rattle.std.specs.List.{list_any}
use Rattle.std.specs.Str.{chars}
use Rattle.s3r_names.specs.declared.tags.Tag.{Tag}
use Rattle.s3r_names.specs.Tags.{is_tag_set}
use Rattle.s3r_names.specs.Bucket.{is_bucket_name}
use Rattle.s3r_names.specs.Class.{is_class_name}
use Rattle.s3r_rules.specs.declared.fault.Kind.{Kind}
use Rattle.s3r_rules.specs.declared.fault.Kind.TheVariants as kind
use Rattle.s3r_rules.specs.declared.fault.ConfigFault.{ConfigFault}
use Rattle.s3r_rules.specs.declared.fault.ConfigFault.TheVariants.{InvalidRequest}
use Rattle.s3r_rules.specs.declared.draft.Draft.{Draft}
use Rattle.s3r_rules.specs.declared.rule.Rule.{Rule}
use Rattle.s3r_rules.specs.Faults.{◌>>=◌}
use Rattle.s3r_rules.specs.Rules.{is_empty, has_id, has_priority}

abbrev pub wrong : {X : Type 0} → ℕ → Kind → Result X ConfigFault
wrong n k = Err (InvalidRequest n k)

-- a rule without an ID has its number for one
abbrev pub id_text : ℕ → Option (List ℕ) → List ℕ
id_text n None = codes "rule-" ++ decimal n
id_text n (Some id) = id

abbrev pub short_id : ℕ → List ℕ → Result (List ℕ) ConfigFault
short_id n id = if nat_le (length (chars id)) 255 then Ok id else wrong n kind.IdTooLong

abbrev pub id_from : ℕ → Option (List ℕ) → Result (List ℕ) ConfigFault
id_from n id = short_id n (id_text n id)

abbrev pub priority_from : ℕ → Option ℕ → Result ℕ ConfigFault
priority_from n None = wrong n kind.BadPriority
priority_from n (Some priority) = if nat_le priority 2147483647 then Ok priority else wrong n kind.BadPriority

abbrev pub prefix_from : ℕ → List ℕ → Result (List ℕ) ConfigFault
prefix_from n prefix = if nat_le (length prefix) 1024 then Ok prefix else wrong n kind.PrefixTooLong

abbrev pub tags_from : ℕ → Option (List Tag) → Result (List Tag) ConfigFault
tags_from n None = wrong n kind.BadTags
tags_from n (Some tags) = if is_tag_set tags then Ok tags else wrong n kind.BadTags

abbrev pub bucket_from : ℕ → Option (List ℕ) → Result (List ℕ) ConfigFault
bucket_from n None = wrong n kind.BadArn
bucket_from n (Some name) = if is_bucket_name name then Ok name else wrong n kind.BadArn

abbrev pub class_from : ℕ → Option (List ℕ) → Result (Option (List ℕ)) ConfigFault
class_from n None = Ok None
class_from n (Some name) = if is_class_name name then Ok (Some name) else wrong n kind.BadClass

-- what is wrong of a rule beside those before it
abbrev pub wrong_beside : List Rule → Rule → Option Kind
wrong_beside earlier rule =
    if rule.markers && not (is_empty rule.tags) then Some kind.TagWithMarkers
    else (if list_any (has_id rule) earlier then Some kind.SameId else (if list_any (has_priority rule) earlier then Some kind.SamePriority else None))

abbrev pub unless_wrong : ℕ → Rule → Option Kind → Result Rule ConfigFault
unless_wrong n rule None = Ok rule
unless_wrong n rule (Some k) = wrong n k

abbrev pub rule_beside : ℕ → List Rule → Rule → Result Rule ConfigFault
rule_beside n earlier rule = unless_wrong n rule (wrong_beside earlier rule)

-- the rule of this number that is written so, behind these
unfoldable pub rule_from : ℕ → List Rule → Draft → Result Rule ConfigFault
rule_from n earlier draft = do
  id ← id_from n draft.id
  priority ← priority_from n draft.priority
  prefix ← prefix_from n draft.filter.prefix
  tags ← tags_from n draft.filter.tags
  bucket ← bucket_from n draft.destination.bucket
  class ← class_from n draft.destination.class
  rule_beside n earlier (record {
    id = id;
    priority = priority;
    enabled = draft.enabled;
    prefix = prefix;
    tags = tags;
    markers = draft.markers;
    bucket =
        bucket;
    class = class;
    replica_modifications = draft.replica_modifications;
  })

abbrev pub rules_from : List Rule → List Draft → Result (List Rule) ConfigFault
rules_from rules [] = Ok rules
rules_from rules (draft ∷ drafts) = rule_from (length rules + 1) rules draft >>= λ rule. rules_from (rules ++ rule ∷ []) drafts

-- 1 to 1,000 rules
abbrev pub config_from : List Draft → Result (List Rule) ConfigFault
config_from [] = wrong 0 kind.NoRule
config_from (draft ∷ drafts) = if nat_lt 1000 (length (draft ∷ drafts)) then wrong 0 kind.TooManyRules else rules_from [] (draft ∷ drafts)
