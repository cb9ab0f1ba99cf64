-- A configuration that is printed is read as this configuration.
use Rattle.std.proofs.Common.{◌≡◌, ℕ, ◌≤◌, Bool, true, false, if◌then◌else◌, List, [], ◌∷◌, map, Option, Some, None, Ok, String, Global, string_bytes, refl, ap, ◌∙◌, arith}
use Rattle.std.specs.List.{list_all}
use Rattle.std.proofs.Math.Nat.{max-le}
use Rattle.std.proofs.lemmas.Bool.{and_parts}
use Rattle.serde_json.specs.Data.{depth, items_depth}
use Rattle.serde_json.specs.Read.{read, max_depth}
use Rattle.serde_json.specs.View.{items_of}
use Rattle.serde_json.specs.Written.{has_float, items_have_float}
use Rattle.s3r_names.specs.declared.tags.Tag.{Tag}
use Rattle.s3r_names.specs.declared.arn.Arn.TheVariants as arn
use Rattle.s3r_names.specs.Arn.{arn_text}
use Rattle.s3r_names.specs.Tags.{is_tag_set, in_key_order}
use Rattle.s3r_names.specs.Bucket.{is_bucket_name}
use Rattle.s3r_names.proofs.Arns.{bucket-reads}
use Rattle.s3r_names.proofs.TagLaws.{set-in_key_order, set-is_tag_list}
use Rattle.s3r_json.specs.Members.{only_in}
use Rattle.s3r_json.specs.Tags.{tag_list_in, tag_data, tag_list_data}
use Rattle.s3r_json.proofs.Printed.{tag_back, items_back}
use Rattle.s3r_json.proofs.Readings.{printed_value}
use Rattle.s3r_rules.specs.declared.rule.Rule.{Rule}
use Rattle.s3r_rules.specs.Faults.{◌>>=◌, or_malformed}
use Rattle.s3r_rules.specs.Rules.{is_rule, is_config}
use Rattle.s3r_rules_json.specs.Drafts.{set_of, filter_of, destination_of, draft_of, drafts_of}
use Rattle.s3r_rules.specs.Reading.{config_from}
use Rattle.s3r_rules_json.specs.Reading.{config_in, config_body}
use Rattle.s3r_rules_json.specs.Printing.{destination_data, both_data, one_tag_data, filter_data, rule_data, config_data}
use Rattle.s3r_rules.proofs.Drafted.{filter_for, destination_for, draft_for, facts, config_back}

-- ---- the form

set_again : (tags : List Tag) → is_tag_set tags ≡ true → set_of tags ≡ Some tags
set_again tags h = ap (λ (t : Bool). if t then Some (in_key_order tags) else None) (set-is_tag_list tags h) ∙ ap Some (set-in_key_order tags h)

list_back : (tags : List Tag) → tag_list_in (tag_list_data tags) ≡ Some tags
list_back tags = items_back tags

both_back : (prefix : List ℕ) (tags : List Tag) → is_tag_set tags ≡ true → filter_of (both_data prefix tags) ≡ Ok (record { prefix = prefix; tags = Some tags })
both_back prefix tags h = rw (list_back tags, set_again tags h) refl

one_back : (tag : Tag) → is_tag_set (tag ∷ []) ≡ true → filter_of (one_tag_data tag) ≡ Ok (record { prefix = []; tags = Some (tag ∷ []) })
one_back tag h = rw (tag_back tag, set_again (tag ∷ []) h) refl

filter_back : (prefix : List ℕ) (tags : List Tag) → is_tag_set tags ≡ true
    → filter_of (filter_data prefix tags) ≡ Ok (record { prefix = prefix; tags = Some tags })
filter_back prefix [] h = refl
filter_back [] (tag ∷ []) h = one_back tag h
filter_back (byte ∷ bytes) (tag ∷ []) h = both_back (byte ∷ bytes) (tag ∷ []) h
filter_back prefix (tag ∷ next ∷ tags) h = both_back prefix (tag ∷ next ∷ tags) h

destination_back : (bucket : List ℕ) (class : Option (List ℕ)) → is_bucket_name bucket ≡ true
    → destination_of (destination_data bucket class) ≡ Ok (record { bucket = Some bucket; class = class })
destination_back bucket None h = rw (bucket-reads bucket (arn_text (arn.Bucket bucket)) h refl) refl
destination_back bucket (Some class) h = rw (bucket-reads bucket (arn_text (arn.Bucket bucket)) h refl) refl

draft_back : (rule : Rule) → is_tag_set rule.tags ≡ true → is_bucket_name rule.bucket ≡ true → draft_of (rule_data rule) ≡ Ok (draft_for rule)
unfolding draft_of rule_data draft_for filter_for destination_for only_in
draft_back rule h b = go rule.replica_modifications rule.markers rule.enabled refl refl refl
  where
    go : (m a b : Bool) → rule.replica_modifications ≡ m → rule.markers ≡ a → rule.enabled ≡ b → draft_of (rule_data rule) ≡ Ok (draft_for rule)
    go true true true e f g = rw (e, f, g, filter_back rule.prefix rule.tags h, destination_back rule.bucket rule.class b) refl
    go true true false e f g = rw (e, f, g, filter_back rule.prefix rule.tags h, destination_back rule.bucket rule.class b) refl
    go true false true e f g = rw (e, f, g, filter_back rule.prefix rule.tags h, destination_back rule.bucket rule.class b) refl
    go true false false e f g = rw (e, f, g, filter_back rule.prefix rule.tags h, destination_back rule.bucket rule.class b) refl
    go false true true e f g = rw (e, f, g, filter_back rule.prefix rule.tags h, destination_back rule.bucket rule.class b) refl
    go false true false e f g = rw (e, f, g, filter_back rule.prefix rule.tags h, destination_back rule.bucket rule.class b) refl
    go false false true e f g = rw (e, f, g, filter_back rule.prefix rule.tags h, destination_back rule.bucket rule.class b) refl
    go false false false e f g = rw (e, f, g, filter_back rule.prefix rule.tags h, destination_back rule.bucket rule.class b) refl

drafts_back : (rules : List Rule) → list_all is_rule rules ≡ true → drafts_of (items_of (map rule_data rules)) ≡ Ok (map draft_for rules)
drafts_back [] h = refl
drafts_back (rule ∷ rules) h =
    let parts = and_parts (is_rule rule) (list_all is_rule rules) h in
    rw (draft_back rule (facts rule parts.0).set (facts rule parts.0).named, drafts_back rules parts.1) refl

pub value_back : (rules : List Rule) → is_config rules ≡ true → config_in (config_data rules) ≡ Ok rules
value_back rules h =
    let back = config_back rules h in
    ap (λ r. r >>= config_from) (drafts_back rules back.0) ∙ back.1

pub text_back : (rules : List Rule) (text : String Global) → is_config rules ≡ true → read (string_bytes text) ≡ Some (config_data rules)
    → config_body (string_bytes text) ≡ Ok rules
text_back rules text h was = ap (λ v. or_malformed v >>= config_in) (printed_value text (config_data rules) was) ∙ value_back rules h

-- ---- the text

tag_items_no_float : (tags : List Tag) → items_have_float (items_of (map tag_data tags)) ≡ false
tag_items_no_float [] = refl
tag_items_no_float (tag ∷ tags) = tag_items_no_float tags

filter_no_float : (prefix : List ℕ) (tags : List Tag) → has_float (filter_data prefix tags) ≡ false
filter_no_float prefix [] = refl
filter_no_float [] (tag ∷ []) = refl
filter_no_float (byte ∷ bytes) (tag ∷ []) = refl
filter_no_float prefix (tag ∷ next ∷ tags) = rw (tag_items_no_float tags) refl

destination_no_float : (bucket : List ℕ) (class : Option (List ℕ)) → has_float (destination_data bucket class) ≡ false
destination_no_float bucket None = refl
destination_no_float bucket (Some class) = refl

rule_no_float : (rule : Rule) → has_float (rule_data rule) ≡ false
unfolding rule_data
rule_no_float rule = go rule.replica_modifications refl
  where
    go : (m : Bool) → rule.replica_modifications ≡ m → has_float (rule_data rule) ≡ false
    go true e = rw (e, destination_no_float rule.bucket rule.class, filter_no_float rule.prefix rule.tags) refl
    go false e = rw (e, destination_no_float rule.bucket rule.class, filter_no_float rule.prefix rule.tags) refl

items_no_float : (rules : List Rule) → items_have_float (items_of (map rule_data rules)) ≡ false
items_no_float [] = refl
items_no_float (rule ∷ rules) = rw (rule_no_float rule, items_no_float rules) refl

pub no_float : (rules : List Rule) → has_float (config_data rules) ≡ false
no_float rules = rw (items_no_float rules) refl

tag_items_flat : (tags : List Tag) → items_depth (items_of (map tag_data tags)) ≤ 1
tag_items_flat [] = omega arith
tag_items_flat (tag ∷ tags) = max-le (omega arith) (tag_items_flat tags)

both_flat : (prefix : List ℕ) (tags : List Tag) → depth (both_data prefix tags) ≤ 4
both_flat prefix tags = let items = tag_items_flat tags in omega arith

filter_flat : (prefix : List ℕ) (tags : List Tag) → depth (filter_data prefix tags) ≤ 4
filter_flat prefix [] = omega arith
filter_flat [] (tag ∷ []) = omega arith
filter_flat (byte ∷ bytes) (tag ∷ []) = both_flat (byte ∷ bytes) (tag ∷ [])
filter_flat prefix (tag ∷ next ∷ tags) = both_flat prefix (tag ∷ next ∷ tags)

destination_flat : (bucket : List ℕ) (class : Option (List ℕ)) → depth (destination_data bucket class) ≤ 1
destination_flat bucket None = omega arith
destination_flat bucket (Some class) = omega arith

rule_flat : (rule : Rule) → depth (rule_data rule) ≤ 5
unfolding rule_data
rule_flat rule = go rule.replica_modifications refl (filter_flat rule.prefix rule.tags) (destination_flat rule.bucket rule.class)
  where
    go : (m : Bool) → rule.replica_modifications ≡ m → depth (filter_data rule.prefix rule.tags) ≤ 4 → depth (destination_data rule.bucket rule.class) ≤ 1
        → depth (rule_data rule) ≤ 5
    go true e filter destination = rw e (omega arith)
    go false e filter destination = rw e (omega arith)

items_flat : (rules : List Rule) → items_depth (items_of (map rule_data rules)) ≤ 5
items_flat [] = omega arith
items_flat (rule ∷ rules) = max-le (rule_flat rule) (items_flat rules)

pub flat : (rules : List Rule) → depth (config_data rules) ≤ max_depth
flat rules = let items = items_flat rules in omega arith
