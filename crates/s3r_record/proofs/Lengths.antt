-- How long spellings are.
use Rattle.std.proofs.Common.{◌≡◌, ℕ, ◌+◌, ◌*◌, ◌≤◌, ◌<◌, Bool, true, false, List, [], ◌∷◌, ◌++◌, map, nat_le, length, Option, Some, None, refl, ap, arith, length-append, lit<, lit≤}
use Rattle.std.specs.Int.{w16, w32, to_be_bytes}
use Rattle.std.specs.List.{list_all, flat_map, zip}
use Rattle.std.proofs.lemmas.Bool.{and_parts, leb-true}
use Rattle.std.proofs.lemmas.List.{length-map}
use Rattle.std.proofs.lemmas.List.Concat.{flat_map-cons}
use Rattle.s3r_names.specs.Bucket.{is_bucket_name}
use Rattle.s3r_names.specs.Key.{is_key}
use Rattle.s3r_names.specs.Class.{is_class_name}
use Rattle.s3r_names.specs.Tags.{is_tag, is_tag_set}
use Rattle.s3r_names.specs.declared.tags.Tag.{Tag}
use Rattle.s3r_names.specs.declared.stamp.Stamp.{Stamp}
use Rattle.s3r_names.specs.declared.version.VersionId.{VersionId}
use Rattle.s3r_names.proofs.BucketNames.{name_is}
use Rattle.s3r_names.proofs.Keys.{key_is}
use Rattle.s3r_names.proofs.ClassNames.{class_is}
use Rattle.std.specs.Str.{is_utf8}
use Rattle.s3r_names.proofs.TagTexts.{text-length, tag_is}
use Rattle.s3r_jobs.specs.Rules.{is_token, IsPrefix, PrefixMeetsLimits, IsOperation, OperationMeetsLimits, IsReport, ReportMeetsLimits, IsJobSpec, SpecMeetsLimits}
use Rattle.s3r_jobs.specs.declared.spec.JobSpec.{JobSpec}
use Rattle.s3r_jobs.specs.declared.spec.ReportSpec.{ReportSpec}
use Rattle.s3r_jobs.specs.declared.spec.Operation.{Operation}
use Rattle.s3r_jobs.specs.declared.spec.Operation.TheVariants as operations
use Rattle.s3r_rules.specs.declared.rule.Rule.{Rule}
use Rattle.s3r_record.specs.declared.command.Command.{Command}
use Rattle.s3r_record.specs.declared.command.Command.TheVariants as command
use Rattle.s3r_record.specs.declared.effect.Effect.{Effect}
use Rattle.s3r_record.specs.declared.effect.Effect.TheVariants as effects
use Rattle.s3r_record.specs.Fields.{text, body, flag, tag_bytes, tags_bytes, id_bytes, rule_bytes, rules_bytes}
use Rattle.s3r_record.specs.Fields.{number_bytes, stamp_bytes, outcome_byte, effect_bytes, option_text}
use Rattle.s3r_record.specs.JobFields.{option_id, option_body, operation_bytes, option_report, spec_bytes, state_byte}
use Rattle.s3r_record.specs.Spelling.{spelling, IsCommand, MeetsLimits, IsEffect, EffectMeetsLimits, BodyMeetsLimits, fits_record}
use Rattle.s3r_record.proofs.TagLaws.{set_is}

-- ---- one field

pub record IsShort (limit : ℕ) (bytes : List ℕ) : Type 0 where
  pub short : length bytes ≤ limit

length-text : (bytes : List ℕ) → length (text bytes) ≡ 2 + length bytes
length-text bytes = omega (arith, length-append (to_be_bytes w16 (length bytes)) bytes)

bucket_short : (bucket : List ℕ) → is_bucket_name bucket ≡ true → IsShort 65 (text bucket)
bucket_short bucket named = record { short = omega (arith, length-text bucket, (name_is bucket named).short) }

key_short : (key : List ℕ) → is_key key ≡ true → IsShort 1026 (text key)
key_short key named = record { short = omega (arith, length-text key, (key_is key named).short) }

class_short : (class : List ℕ) → is_class_name class ≡ true → IsShort 34 (text class)
class_short class named = record { short = omega (arith, length-text class, (class_is class named).short) }

body_short : (most : ℕ) (bytes : List ℕ) → length bytes ≤ most → IsShort (4 + most) (body bytes)
body_short most bytes short = record { short = omega (arith, length-append (to_be_bytes w32 (length bytes)) bytes) }

length-flag : (value : Bool) → length (flag value) ≡ 1
length-flag true = refl
length-flag false = refl

flag_short : (value : Bool) → IsShort 1 (flag value)
flag_short value = record { short = omega (arith, length-flag value) }

length-id_bytes : (id : VersionId) → length (id_bytes id) ≡ 9
length-id_bytes id = refl

id_short : (id : VersionId) → IsShort 9 (id_bytes id)
id_short id = record { short = omega (arith, length-id_bytes id) }

length-number : (n : ℕ) → length (number_bytes n) ≡ 8
length-number n = refl

number_short : (n : ℕ) → IsShort 8 (number_bytes n)
number_short n = record { short = omega (arith, length-number n) }

length-stamp : (stamp : Stamp) → length (stamp_bytes stamp) ≡ 17
length-stamp stamp = refl

stamp_short : (stamp : Stamp) → IsShort 17 (stamp_bytes stamp)
stamp_short stamp = record { short = omega (arith, length-stamp stamp) }

length-tag_bytes : (tag : Tag) → is_tag tag ≡ true → length (tag_bytes tag) ≤ 1540
length-tag_bytes tag ruled =
    let short = tag_is tag ruled in
    omega (arith, length-append (text tag.key) (text tag.value), length-text tag.key, length-text tag.value, short.key, short.value)

length-tags : (tags : List Tag) → list_all is_tag tags ≡ true → length (flat_map tag_bytes tags) ≤ 1540 * length tags
length-tags [] ruled = omega arith
length-tags (tag ∷ tags) ruled =
    let r = and_parts (is_tag tag) (list_all is_tag tags) ruled in
    omega (
      arith,
      ap length (flat_map-cons tag_bytes tag tags),
      length-append (tag_bytes tag) (flat_map tag_bytes tags),
      length-tag_bytes tag r.0,
      length-tags tags r.1,
    )

tags_short : (tags : List Tag) → is_tag_set tags ≡ true → IsShort 15401 (tags_bytes tags)
tags_short tags ruled = let set = set_is tags ruled in record { short = omega (arith, length-tags tags set.ruled, set.few) }

-- ---- a command

joined : {a b : List ℕ} {m n : ℕ} → IsShort m a → IsShort n b → IsShort (m + n) (a ++ b)
joined {a = a} {b = b} first second = record { short = omega (arith, length-append a b, first.short, second.short) }

front_short : (from to key : List ℕ) (id : VersionId) → is_bucket_name from ≡ true → is_bucket_name to ≡ true → is_key key ≡ true
    → IsShort 1165 (text from ++ text to ++ text key ++ id_bytes id)
front_short from to key id f t k = joined (joined (joined (bucket_short from f) (bucket_short to t)) (key_short key k)) (id_short id)

within : {limit : ℕ} {fields : List ℕ} (kind : ℕ) → IsShort limit fields → limit < 15600000 → IsShort 15600000 (kind ∷ fields)
within kind fields below = record { short = omega (arith, fields.short) }

-- a body of at most 15,582,912 bytes leaves room for the fields beside it
effect_short : (effect : Effect (List ℕ)) → IsEffect effect → IsShort 15600000 (effect_bytes effect)
effect_short (effects.Replica from to key id n tags tags_stamp hold hold_stamp class bytes) is =
    within 1 (joined (joined (joined (joined (joined (joined (joined (front_short from to key id is.0 is.1 is.2) (number_short n)) (tags_short tags is.3))
    (stamp_short tags_stamp)) (flag_short hold)) (stamp_short hold_stamp)) (class_short class is.4)) (body_short 15582912 bytes is.5.4)) (lit< tt)
effect_short (effects.Marker from to key id n) is = within 2 (joined (front_short from to key id is.0 is.1 is.2) (number_short n)) (lit< tt)
effect_short (effects.Tags from to key id tags stamp) is =
    within 3 (joined (joined (front_short from to key id is.0 is.1 is.2) (tags_short tags is.3)) (stamp_short stamp)) (lit< tt)
effect_short (effects.Hold from to key id hold stamp) is =
    within 4 (joined (joined (front_short from to key id is.0 is.1 is.2) (flag_short hold)) (stamp_short stamp)) (lit< tt)

one_byte : (byte : ℕ) → IsShort 1 (byte ∷ [])
one_byte byte = record { short = omega arith }

-- ---- the fields of a job's commands

four_short : (n : ℕ) → IsShort 4 (to_be_bytes w32 n)
four_short n = let four : length (to_be_bytes w32 n) ≡ 4 = refl in record { short = omega (arith, four) }

token_short : (token : List ℕ) → is_token token ≡ true → IsShort 258 (text token)
token_short token named = record { short = omega (arith, length-text token, text-length token 1 64 named) }

option_prefix_short : (most : ℕ) (prefix : Option (List ℕ)) → IsPrefix most prefix → most ≤ 1024 → IsShort 1027 (option_text prefix)
option_prefix_short most None is low = record { short = omega arith }
option_prefix_short most (Some prefix) is low =
    let short = leb-true (length prefix) most (and_parts (is_utf8 prefix) (nat_le (length prefix) most) is).1 in
    record { short = omega (arith, length-text prefix, short, low) }

option_id_short : (id : Option VersionId) → IsShort 10 (option_id id)
option_id_short None = record { short = omega arith }
option_id_short (Some id) = record { short = omega (arith, length-id_bytes id) }

option_body_short : (bytes : Option (List ℕ)) → BodyMeetsLimits bytes → IsShort 15582917 (option_body bytes)
option_body_short None is = record { short = omega arith }
option_body_short (Some bytes) short = record { short = omega (arith, (body_short 15582912 bytes short).short) }

operation_short : (operation : Operation) → IsOperation operation → IsShort 15402 (operation_bytes operation)
operation_short (operations.Copy target prefix) is =
    let fields = joined (bucket_short target is.0) (option_prefix_short 1024 prefix is.1 (lit≤ tt)) in record { short = omega (arith, fields.short) }
operation_short (operations.Tagging tags) is = record { short = omega (arith, (tags_short tags is).short) }
operation_short (operations.Hold hold) is = record { short = omega (arith, length-flag hold) }
operation_short operations.Replicate is = record { short = omega arith }

option_report_short : (report : Option ReportSpec) → IsReport report → IsShort 1094 (option_report report)
option_report_short None is = record { short = omega arith }
option_report_short (Some report) is =
    let fields = joined (joined (bucket_short report.bucket is.0) (option_prefix_short 512 report.prefix is.1 (lit≤ tt))) (flag_short report.all) in
    record { short = omega (arith, fields.short) }

spec_short : (spec : JobSpec) → IsJobSpec spec → IsShort 18000 (spec_bytes spec)
spec_short spec is =
    let manifest = joined (joined (joined (flag_short spec.manifest.versions) (bucket_short spec.manifest.bucket is.manifest.bucket))
    (key_short spec.manifest.key is.manifest.key)) (option_id_short spec.manifest.version) in
    let all = joined (joined (joined (joined (joined (token_short spec.token is.token) (four_short spec.priority)) (flag_short spec.confirm))
    (operation_short spec.operation is.operation)) manifest) (option_report_short spec.report is.report) in
    record { short = omega (arith, all.short) }

prefix_meets : (most : ℕ) (prefix : Option (List ℕ)) → IsPrefix most prefix → PrefixMeetsLimits most prefix
prefix_meets most None is = tt
prefix_meets most (Some prefix) is = leb-true (length prefix) most (and_parts (is_utf8 prefix) (nat_le (length prefix) most) is).1

operation_meets : (operation : Operation) → IsOperation operation → OperationMeetsLimits operation
operation_meets (operations.Copy target prefix) is = prefix_meets 1024 prefix is.1
operation_meets (operations.Tagging tags) is = tt
operation_meets (operations.Hold hold) is = tt
operation_meets operations.Replicate is = tt

report_meets : (report : Option ReportSpec) → IsReport report → ReportMeetsLimits report
report_meets None is = tt
report_meets (Some report) is = prefix_meets 512 report.prefix is.1

spec_meets : (spec : JobSpec) → IsJobSpec spec → SpecMeetsLimits spec
spec_meets spec is = record {
  token = is.token;
  priority = is.priority;
  operation = operation_meets spec.operation is.operation;
  version = is.manifest.version;
  report = report_meets spec.report is.report;
}

-- ---- all commands

fits : {limit : ℕ} {fields : List ℕ} (kind : ℕ) → IsShort limit fields → limit < 16777216 → length (kind ∷ fields) ≤ 16777216
fits kind fields below = omega (arith, fields.short)

pub spelling_short : (c : Command) → IsCommand c → length (spelling c) ≤ 16777216
spelling_short (command.CreateBucket name locked) is = fits 1 (joined (bucket_short name is) (flag_short locked)) (lit< tt)
spelling_short (command.DeleteBucket name) is = fits 2 (bucket_short name is) (lit< tt)
spelling_short (command.SetVersioning name enabled) is = fits 3 (joined (bucket_short name is) (flag_short enabled)) (lit< tt)
spelling_short (command.SetReplication name config regions) is = is.3
spelling_short (command.DropReplication name) is = fits 5 (bucket_short name is) (lit< tt)
spelling_short (command.Put bucket key tags hold class bytes) is =
    fits 6 (joined (joined (joined (joined (joined (bucket_short bucket is.0) (key_short key is.1)) (tags_short tags is.2)) (flag_short hold))
    (class_short class is.3)) (body_short 4194304 bytes is.4)) (lit< tt)
spelling_short (command.Marker bucket key) is = fits 7 (joined (bucket_short bucket is.0) (key_short key is.1)) (lit< tt)
spelling_short (command.Remove bucket key id) is = fits 8 (joined (joined (bucket_short bucket is.0) (key_short key is.1)) (id_short id)) (lit< tt)
spelling_short (command.SetTags bucket key id tags) is = fits 9 (joined (joined (joined (bucket_short bucket is.0) (key_short key is.1)) (id_short id))
    (tags_short tags is.3)) (lit< tt)
spelling_short (command.SetHold bucket key id hold) is = fits 10 (joined (joined (joined (bucket_short bucket is.0) (key_short key is.1)) (id_short id))
    (flag_short hold)) (lit< tt)
spelling_short (command.Receive from n effect) is = fits 11 (joined (one_byte from) (joined (number_short n) (effect_short effect is.1))) (lit< tt)
spelling_short (command.Settle to n outcome) is = fits 12 (joined (one_byte to) (joined (number_short n) (one_byte (outcome_byte outcome)))) (lit< tt)
spelling_short (command.Attempt to n) is = fits 13 (joined (one_byte to) (number_short n)) (lit< tt)
spelling_short (command.CreateJob spec manifest) is = fits 14 (joined (spec_short spec is.0) (id_short manifest)) (lit< tt)
spelling_short (command.MoveJob job state) is = fits 15 (joined (number_short job) (one_byte (state_byte state))) (lit< tt)
spelling_short (command.SetPriority job priority) is = fits 16 (joined (number_short job) (four_short priority)) (lit< tt)
spelling_short (command.Prepare job) is = fits 17 (number_short job) (lit< tt)
spelling_short (command.Line job line) is = fits 18 (joined (number_short job) (four_short line)) (lit< tt)
spelling_short (command.Finish job bytes) is = fits 19 (joined (number_short job) (option_body_short bytes is.1)) (lit< tt)

effect_meets : (effect : Effect (List ℕ)) → IsEffect effect → EffectMeetsLimits effect
effect_meets (effects.Replica from to key id n tags tags_stamp hold hold_stamp class bytes) is = is.5
effect_meets (effects.Marker from to key id n) is = is.3
effect_meets (effects.Tags from to key id tags stamp) is = is.4
effect_meets (effects.Hold from to key id hold stamp) is = is.3

pub meets_limits : (c : Command) → IsCommand c → MeetsLimits c
meets_limits (command.CreateBucket name locked) is = tt
meets_limits (command.DeleteBucket name) is = tt
meets_limits (command.SetVersioning name enabled) is = tt
meets_limits (command.SetReplication name config regions) is = (is.2, is.3)
meets_limits (command.DropReplication name) is = tt
meets_limits (command.Put bucket key tags hold class bytes) is = is.4
meets_limits (command.Marker bucket key) is = tt
meets_limits (command.Remove bucket key id) is = is.2
meets_limits (command.SetTags bucket key id tags) is = is.2
meets_limits (command.SetHold bucket key id hold) is = is.2
meets_limits (command.Receive from n effect) is = (is.0, effect_meets effect is.1)
meets_limits (command.Settle to n outcome) is = is
meets_limits (command.Attempt to n) is = is
meets_limits (command.CreateJob spec manifest) is = (spec_meets spec is.0, is.1)
meets_limits (command.MoveJob job state) is = is
meets_limits (command.SetPriority job priority) is = is
meets_limits (command.Prepare job) is = is
meets_limits (command.Line job line) is = is
meets_limits (command.Finish job bytes) is = is

-- ---- a configuration's command has one length, whatever its regions are

length-rule : (rule : Rule) (r s : ℕ) → length (rule_bytes (rule, r)) ≡ length (rule_bytes (rule, s))
length-rule rule r s = simp length-append refl

length-rules : (rules : List Rule) (r s : List ℕ) → length r ≡ length rules → length s ≡ length rules
    → length (flat_map rule_bytes (zip rules r)) ≡ length (flat_map rule_bytes (zip rules s))
length-rules [] r s e f = refl
length-rules (rule ∷ rules) [] s e f = absurd (omega arith)
length-rules (rule ∷ rules) (a ∷ r) [] e f = absurd (omega arith)
length-rules (rule ∷ rules) (a ∷ r) (b ∷ s) e f =
    omega (
      arith,
      ap length (flat_map-cons rule_bytes (rule, a) (zip rules r)),
      ap length (flat_map-cons rule_bytes (rule, b) (zip rules s)),
      length-append (rule_bytes (rule, a)) (flat_map rule_bytes (zip rules r)),
      length-append (rule_bytes (rule, b)) (flat_map rule_bytes (zip rules s)),
      length-rule rule a b,
      length-rules rules r s (omega arith) (omega arith),
    )

pub regions_keep : (name : List ℕ) (rules : List Rule) (regions : List ℕ) → length regions ≡ length rules → fits_record name rules ≡ true
    → length (spelling (command.SetReplication name rules regions)) ≤ 16777216
regions_keep name rules regions paired short =
    let none = map (λ (rule : Rule). 0) rules in
    let same = length-rules rules regions none paired (length-map rules (λ (rule : Rule). 0)) in
    let count = to_be_bytes w16 (length rules) in
    let most = leb-true (length (spelling (command.SetReplication name rules none))) 16777216 short in
    omega (
      arith,
      most,
      same,
      length-append (text name) (rules_bytes rules regions),
      length-append (text name) (rules_bytes rules none),
      length-append count (flat_map rule_bytes (zip rules regions)),
      length-append count (flat_map rule_bytes (zip rules none)),
    )
