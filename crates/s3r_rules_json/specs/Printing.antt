-- A configuration as a value.
use Rattle.std.specs.Prelude.{ℕ, Bool, true, false, if◌then◌else◌, List, [], ◌∷◌, map, Option, Some, None, codes}
use Rattle.serde_json.specs.Data.{Data, Members, string, number, unsigned, array, object, member, no_members}
use Rattle.serde_json.specs.View.{items_of}
use Rattle.s3r_names.specs.declared.tags.Tag.{Tag}
use Rattle.s3r_names.specs.declared.arn.Arn.TheVariants as arn
use Rattle.s3r_names.specs.Arn.{arn_text}
use Rattle.s3r_json.specs.Status.{status_data}
use Rattle.s3r_json.specs.Tags.{tag_data, tag_list_data}
use Rattle.s3r_rules.specs.declared.rule.Rule.{Rule}

abbrev pub flag_word : Bool → List ℕ
flag_word flag = if flag then codes "Enabled" else codes "Disabled"

abbrev pub class_members : Option (List ℕ) → Members
class_members None = no_members
class_members (Some class) = member (codes "StorageClass") (string class) no_members

abbrev pub destination_data : List ℕ → Option (List ℕ) → Data
destination_data bucket class = object (member (codes "Bucket") (string (arn_text (arn.Bucket bucket))) (class_members class))

abbrev pub prefix_data : List ℕ → Data
prefix_data prefix = object (member (codes "Prefix") (string prefix) no_members)

abbrev pub both_data : List ℕ → List Tag → Data
both_data prefix tags = object (member (codes "And") (object (member (codes "Prefix") (string prefix)
    (member (codes "Tags") (tag_list_data tags) no_members))) no_members)

abbrev pub one_tag_data : Tag → Data
one_tag_data tag = object (member (codes "Tag") (tag_data tag) no_members)

-- the shortest form that says it
abbrev pub filter_data : List ℕ → List Tag → Data
filter_data prefix [] = prefix_data prefix
filter_data [] (tag ∷ []) = one_tag_data tag
filter_data (byte ∷ bytes) (tag ∷ []) = both_data (byte ∷ bytes) (tag ∷ [])
filter_data prefix (tag ∷ next ∷ tags) = both_data prefix (tag ∷ next ∷ tags)

abbrev pub sources : Bool → Members → Members
sources false members = members
sources true members = member (codes "SourceSelectionCriteria") (object (member (codes "ReplicaModifications") (status_data (codes "Enabled")) no_members))
    members

unfoldable pub rule_data : Rule → Data
rule_data rule = object (
    member (codes "DeleteMarkerReplication") (status_data (flag_word rule.markers)) (
    member (codes "Destination") (destination_data rule.bucket rule.class) (
    member (codes "Filter") (filter_data rule.prefix rule.tags) (
    member (codes "ID") (string rule.id) (
    member (codes "Priority") (number (unsigned rule.priority)) (
    sources rule.replica_modifications (
    member (codes "Status") (string (flag_word rule.enabled)) no_members)))))))

abbrev pub rules_data : List Rule → Data
rules_data rules = array (items_of (map rule_data rules))

abbrev pub config_data : List Rule → Data
config_data rules = object (member (codes "Rules") (rules_data rules) no_members)
