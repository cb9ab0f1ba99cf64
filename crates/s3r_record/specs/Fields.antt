-- The one spelling of each field.
use Rattle.std.specs.Prelude.{ℕ, Bool, true, false, List, [], ◌∷◌, ◌++◌, length, Option, Some, None}
use Rattle.std.specs.Int.{Width, w16, w32, w64, to_be_bytes}
use Rattle.std.specs.List.{flat_map, zip}
use Rattle.s3r_names.specs.declared.tags.Tag.{Tag}
use Rattle.s3r_names.specs.declared.version.VersionId.{VersionId}
use Rattle.s3r_names.specs.declared.stamp.Stamp.{Stamp}
use Rattle.s3r_names.specs.declared.outcome.Outcome.{Outcome}
use Rattle.s3r_names.specs.declared.outcome.Outcome.TheVariants as outcomes
use Rattle.s3r_names.specs.declared.outcome.Reason.TheVariants as reasons
use Rattle.s3r_rules.specs.declared.rule.Rule.{Rule}
use Rattle.s3r_record.specs.declared.effect.Effect.{Effect}
use Rattle.s3r_record.specs.declared.effect.Effect.TheVariants as effects

-- a length of that width, and that many bytes
abbrev pub sized : Width → List ℕ → List ℕ
sized w bytes = to_be_bytes w (length bytes) ++ bytes

abbrev pub text : List ℕ → List ℕ
text bytes = sized w16 bytes

abbrev pub body : List ℕ → List ℕ
body bytes = sized w32 bytes

abbrev pub flag : Bool → List ℕ
flag true = 1 ∷ []
flag false = 0 ∷ []

-- a key and a value
abbrev pub tag_bytes : Tag → List ℕ
tag_bytes t = text t.key ++ text t.value

-- a byte of count, and each tag
abbrev pub tags_bytes : List Tag → List ℕ
tags_bytes ts = length ts ∷ flat_map tag_bytes ts

-- a byte of the region, and the index
abbrev pub id_bytes : VersionId → List ℕ
id_bytes id = id.region ∷ to_be_bytes w64 id.index

-- whether there is one, and the text
abbrev pub option_text : Option (List ℕ) → List ℕ
option_text None = 0 ∷ []
option_text (Some bytes) = 1 ∷ text bytes

-- a rule, with its bucket's region behind the bucket
abbrev pub rule_bytes : Rule × ℕ → List ℕ
rule_bytes placed = text placed.0.id
    ++ to_be_bytes w32 placed.0.priority
    ++ flag placed.0.enabled
    ++ text placed.0.prefix
    ++ tags_bytes placed.0.tags
    ++ flag placed.0.markers
    ++ text placed.0.bucket
    ++ (placed.1 ∷ [])
    ++ option_text placed.0.class
    ++ flag placed.0.replica_modifications

-- two bytes of count, and each rule
abbrev pub rules_bytes : List Rule → List ℕ → List ℕ
rules_bytes rules regions = to_be_bytes w16 (length rules) ++ flat_map rule_bytes (zip rules regions)

-- eight bytes, the greatest first
abbrev pub number_bytes : ℕ → List ℕ
number_bytes n = to_be_bytes w64 n

-- the clock's number, a byte of the region, and the index
abbrev pub stamp_bytes : Stamp → List ℕ
stamp_bytes stamp = number_bytes stamp.n ++ (stamp.region ∷ []) ++ number_bytes stamp.index

abbrev pub outcome_byte : Outcome → ℕ
outcome_byte outcomes.Applied = 0
outcome_byte (outcomes.Refused reasons.NoSuchDestination) = 1
outcome_byte (outcomes.Refused reasons.DestinationSuspended) = 2
outcome_byte (outcomes.Refused reasons.VersionRemoved) = 3
outcome_byte (outcomes.Refused reasons.NoSuchVersion) = 4
outcome_byte (outcomes.Refused reasons.DestinationNotLocked) = 5

-- a byte of the kind, the two buckets, the version, and the kind's own fields
abbrev pub effect_bytes : Effect (List ℕ) → List ℕ
effect_bytes (effects.Replica from to key id n tags tags_stamp hold hold_stamp class bytes) = 1 ∷ (
    text from
    ++ text to
    ++ text key
    ++ id_bytes id
    ++ number_bytes n
    ++ tags_bytes tags
    ++ stamp_bytes tags_stamp
    ++ flag hold
    ++ stamp_bytes hold_stamp
    ++ text class
    ++ body bytes)
effect_bytes (effects.Marker from to key id n) = 2 ∷ (text from ++ text to ++ text key ++ id_bytes id ++ number_bytes n)
effect_bytes (effects.Tags from to key id tags stamp) = 3 ∷ (text from ++ text to ++ text key ++ id_bytes id ++ tags_bytes tags ++ stamp_bytes stamp)
effect_bytes (effects.Hold from to key id hold stamp) = 4 ∷ (text from ++ text to ++ text key ++ id_bytes id ++ flag hold ++ stamp_bytes stamp)
