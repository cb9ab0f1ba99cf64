-- What an effect says.
use Rattle.std.specs.Prelude.{Bool, true, false}
use Rattle.s3r_names.specs.declared.version.VersionId.{VersionId}
use Rattle.s3r_names.specs.declared.outcome.Outcome.{Outcome}
use Rattle.s3r_names.specs.declared.outcome.Outcome.TheVariants as outcomes
use Rattle.s3r_record.specs.declared.effect.Effect.{Effect}
use Rattle.s3r_record.specs.declared.effect.Effect.TheVariants as effects
use Rattle.s3r_history.specs.Words.{Name}

-- the bucket that it is from
abbrev pub source_of : {B : Type 0} → Effect B → Name
source_of (effects.Replica from to key id n tags tags_stamp hold hold_stamp class body) = from
source_of (effects.Marker from to key id n) = from
source_of (effects.Tags from to key id tags stamp) = from
source_of (effects.Hold from to key id hold stamp) = from

-- the bucket that it goes to
abbrev pub target_of : {B : Type 0} → Effect B → Name
target_of (effects.Replica from to key id n tags tags_stamp hold hold_stamp class body) = to
target_of (effects.Marker from to key id n) = to
target_of (effects.Tags from to key id tags stamp) = to
target_of (effects.Hold from to key id hold stamp) = to

-- the key and the id of its version
abbrev pub key_of : {B : Type 0} → Effect B → Name
key_of (effects.Replica from to key id n tags tags_stamp hold hold_stamp class body) = key
key_of (effects.Marker from to key id n) = key
key_of (effects.Tags from to key id tags stamp) = key
key_of (effects.Hold from to key id hold stamp) = key

abbrev pub id_of : {B : Type 0} → Effect B → VersionId
id_of (effects.Replica from to key id n tags tags_stamp hold hold_stamp class body) = id
id_of (effects.Marker from to key id n) = id
id_of (effects.Tags from to key id tags stamp) = id
id_of (effects.Hold from to key id hold stamp) = id

-- it changes a version that is there
abbrev pub is_change : {B : Type 0} → Effect B → Bool
is_change (effects.Replica from to key id n tags tags_stamp hold hold_stamp class body) = false
is_change (effects.Marker from to key id n) = false
is_change (effects.Tags from to key id tags stamp) = true
is_change (effects.Hold from to key id hold stamp) = true

-- it puts its version under a hold
abbrev pub has_hold : {B : Type 0} → Effect B → Bool
has_hold (effects.Replica from to key id n tags tags_stamp hold hold_stamp class body) = hold
has_hold (effects.Marker from to key id n) = false
has_hold (effects.Tags from to key id tags stamp) = false
has_hold (effects.Hold from to key id hold stamp) = hold

abbrev pub is_applied : Outcome → Bool
is_applied outcomes.Applied = true
is_applied (outcomes.Refused reason) = false
