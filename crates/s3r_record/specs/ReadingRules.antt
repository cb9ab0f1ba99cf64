-- Reading a configuration's rules, one after the other, each beside its bucket's region.
use Rattle.std.specs.Prelude.{ℕ, zero, suc, ◌&&◌, nat_le, List, [], ◌∷◌, ◌++◌, Some, Result, Ok, Err, if◌then◌else◌}
use Rattle.std.specs.Int.{w16, w32}
use Rattle.std.specs.List.{list_all, zip}
use Rattle.std.specs.Str.{is_utf8}
use Rattle.s3r_names.specs.Bucket.{is_bucket_name}
use Rattle.s3r_names.specs.Tags.{is_tag_set}
use Rattle.s3r_rules.specs.declared.draft.Draft.{Draft}
use Rattle.s3r_rules.specs.declared.fault.ConfigFault.{ConfigFault}
use Rattle.s3r_rules.specs.declared.rule.Rule.{Rule}
use Rattle.s3r_rules.specs.Reading.{rule_from}
use Rattle.s3r_record.specs.declared.rule_parts.Back.{Back}
use Rattle.s3r_record.specs.declared.rule_parts.Front.{Front}
use Rattle.s3r_record.specs.declared.tag_rule.TagRule.TheVariants as allowed
use Rattle.s3r_record.specs.Placing.{have_one_region}
use Rattle.s3r_record.specs.Reading.{◌>>=◌, Unread, place, number_at, flag_at, tested_at}
use Rattle.s3r_record.specs.ReadingIds.{region_at}
use Rattle.s3r_record.specs.ReadingTags.{tags_at}
use Rattle.s3r_record.specs.ReadingTexts.{passed, option_text_at}

-- the fields before the region, by their form alone
unfoldable pub front_at : Unread → Result (Front × Unread) ℕ
front_at left = do
  id ← tested_at w16 is_utf8 left
  priority ← number_at w32 id.1
  enabled ← flag_at priority.1
  prefix ← tested_at w16 is_utf8 enabled.1
  tags ← tags_at allowed.Any prefix.1
  markers ← flag_at tags.1
  bucket ← tested_at w16 is_utf8 markers.1
  Ok (record { id = id.0; priority = priority.0; enabled = enabled.0; prefix = prefix.0; tags = tags.0; markers = markers.0; bucket = bucket.0 }, bucket.1)

-- the region and the fields behind it, by their form alone
unfoldable pub back_at : Unread → Result (Back × Unread) ℕ
back_at left = do
  region ← region_at left
  class ← option_text_at region.1
  modifications ← flag_at class.1
  Ok (record { region = region.0; class = class.0; replica_modifications = modifications.0 }, modifications.1)

-- the rule that is written so
abbrev pub draft_of : Front → Back → Draft
draft_of front back = record {
  id = Some front.id;
  priority = Some front.priority;
  enabled = front.enabled;
  filter = record { prefix = front.prefix; tags = passed is_tag_set front.tags };
  markers = front.markers;
  destination = record { bucket = passed is_bucket_name front.bucket; class = back.class };
  replica_modifications = back.replica_modifications;
}

-- what was refused is wrong at that place
abbrev pub or_at : {A : Type 0} → ℕ → Result A ConfigFault → Result A ℕ
or_at at (Ok x) = Ok x
or_at at (Err fault) = Err at

-- a rule whose region is that of the earlier rules to its bucket, else its region's place
abbrev pub placed_beside : List (Rule × ℕ) → Rule × ℕ → ℕ → Result (Rule × ℕ) ℕ
placed_beside earlier placed at = if list_all (λ other. have_one_region other placed) earlier then Ok placed else Err at

-- a rule behind these, and its region: what is wrong of the rule is wrong at its first byte
unfoldable pub rule_at : List Rule → List ℕ → Unread → Result ((Rule × ℕ) × Unread) ℕ
rule_at rules regions left = do
  front ← front_at left
  back ← back_at front.1
  rule ← or_at (place left) (rule_from 0 rules (draft_of front.0 back.0))
  placed ← placed_beside (zip rules regions) (rule, back.0.region) (place front.1)
  Ok (placed, back.1)

-- these, and so many behind them
unfoldable pub rules_after : ℕ → List Rule → List ℕ → Unread → Result ((List Rule × List ℕ) × Unread) ℕ
rules_after zero rules regions left = Ok ((rules, regions), left)
rules_after (suc count) rules regions left = do
  rule ← rule_at rules regions left
  rules_after count (rules ++ rule.0.0 ∷ []) (regions ++ rule.0.1 ∷ []) rule.1

unfoldable pub count_at : Unread → Result (ℕ × Unread) ℕ
count_at left = do
  count ← number_at w16 left
  if nat_le 1 count.0 && nat_le count.0 1000 then Ok count else Err (place left)

-- a count of 1 to 1,000, and so many
unfoldable pub rules_at : Unread → Result ((List Rule × List ℕ) × Unread) ℕ
rules_at left = do
  count ← count_at left
  rules_after count.0 [] [] count.1
