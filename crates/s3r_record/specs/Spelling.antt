-- The one spelling of each command, and what a record holds of it.
use Rattle.std.specs.Prelude.{◌≤◌, ◌<◌, ◌^◌, ℕ, Bool, nat_le, List, [], ◌∷◌, ◌++◌, map, length, Option, Some, None, IsTrue}
use Rattle.std.specs.Int.{w32, to_be_bytes}
use Rattle.std.specs.List.{list_all}
use Rattle.s3r_names.specs.Bucket.{is_bucket_name}
use Rattle.s3r_names.specs.Key.{is_key}
use Rattle.s3r_names.specs.Class.{is_class_name}
use Rattle.s3r_names.specs.Tags.{is_tag_set}
use Rattle.s3r_names.specs.Version.{IsVersionId}
use Rattle.s3r_names.specs.declared.stamp.Stamp.{Stamp}
use Rattle.s3r_rules.specs.Rules.{is_config}
use Rattle.s3r_rules.specs.declared.rule.Rule.{Rule}
use Rattle.s3r_record.specs.declared.command.Command.{Command}
use Rattle.s3r_record.specs.declared.command.Command.TheVariants as command
use Rattle.s3r_record.specs.declared.effect.Effect.{Effect}
use Rattle.s3r_record.specs.declared.effect.Effect.TheVariants as effects
use Rattle.s3r_record.specs.Fields.{text, body, flag, tags_bytes, id_bytes, rules_bytes, number_bytes, outcome_byte, effect_bytes}
use Rattle.s3r_jobs.specs.Rules.{IsJobSpec, SpecMeetsLimits}
use Rattle.s3r_record.specs.JobFields.{spec_bytes, state_byte, option_body, is_moved_to}
use Rattle.s3r_record.specs.Placing.{IsPlaced, has_texts}

-- a byte that says which command it is, and its fields in order
abbrev pub spelling : Command → List ℕ
spelling (command.CreateBucket name locked) = 1 ∷ (text name ++ flag locked)
spelling (command.DeleteBucket name) = 2 ∷ text name
spelling (command.SetVersioning name enabled) = 3 ∷ (text name ++ flag enabled)
spelling (command.SetReplication name config regions) = 4 ∷ (text name ++ rules_bytes config regions)
spelling (command.DropReplication name) = 5 ∷ text name
spelling (command.Put bucket key tags hold class bytes) = 6 ∷ (text bucket ++ text key ++ tags_bytes tags ++ flag hold ++ text class ++ body bytes)
spelling (command.Marker bucket key) = 7 ∷ (text bucket ++ text key)
spelling (command.Remove bucket key id) = 8 ∷ (text bucket ++ text key ++ id_bytes id)
spelling (command.SetTags bucket key id tags) = 9 ∷ (text bucket ++ text key ++ id_bytes id ++ tags_bytes tags)
spelling (command.SetHold bucket key id hold) = 10 ∷ (text bucket ++ text key ++ id_bytes id ++ flag hold)
spelling (command.Receive from n effect) = 11 ∷ from ∷ (number_bytes n ++ effect_bytes effect)
spelling (command.Settle to n outcome) = 12 ∷ to ∷ (number_bytes n ++ outcome_byte outcome ∷ [])
spelling (command.Attempt to n) = 13 ∷ to ∷ number_bytes n
spelling (command.CreateJob spec manifest) = 14 ∷ (spec_bytes spec ++ id_bytes manifest)
spelling (command.MoveJob job state) = 15 ∷ (number_bytes job ++ state_byte state ∷ [])
spelling (command.SetPriority job priority) = 16 ∷ (number_bytes job ++ to_be_bytes w32 priority)
spelling (command.Prepare job) = 17 ∷ number_bytes job
spelling (command.Line job line) = 18 ∷ (number_bytes job ++ to_be_bytes w32 line)
spelling (command.Finish job bytes) = 19 ∷ (number_bytes job ++ option_body bytes)

-- a region is at most 7, an index at least 1
pub record IsStamp (stamp : Stamp) : Type 0 where
  pub n : stamp.n < 2 ^ 64
  pub region : stamp.region ≤ 7
  pub above : 1 ≤ stamp.index
  pub below : stamp.index < 2 ^ 64

-- a task of a region: a region is at most 7, a number at least 1
pub record IsTask (r n : ℕ) : Type 0 where
  pub region : r ≤ 7
  pub above : 1 ≤ n
  pub below : n < 2 ^ 64

-- a job's id is the index of the command that created it, counted from 1
pub record IsJobId (job : ℕ) : Type 0 where
  pub above : 1 ≤ job
  pub below : job < 2 ^ 64

-- a report's body, where there is one
abbrev pub BodyMeetsLimits : Option (List ℕ) → Type 0
BodyMeetsLimits None = Unit {0}
BodyMeetsLimits (Some bytes) = length bytes ≤ 15582912

-- what the types of an effect's fields leave open; a body is a Put's or a report's
abbrev pub EffectMeetsLimits : Effect (List ℕ) → Type 0
EffectMeetsLimits (effects.Replica from to key id n tags tags_stamp hold hold_stamp class bytes) = IsVersionId id
    × (n < 2 ^ 64)
    × IsStamp tags_stamp
    × IsStamp hold_stamp
    × (length bytes ≤ 15582912)
EffectMeetsLimits (effects.Marker from to key id n) = IsVersionId id × (n < 2 ^ 64)
EffectMeetsLimits (effects.Tags from to key id tags stamp) = IsVersionId id × IsStamp stamp
EffectMeetsLimits (effects.Hold from to key id hold stamp) = IsVersionId id × IsStamp stamp

-- each of its fields meets its rule
abbrev pub IsEffect : Effect (List ℕ) → Type 0
IsEffect (effects.Replica from to key id n tags tags_stamp hold hold_stamp class bytes) = IsTrue (is_bucket_name from)
    × IsTrue (is_bucket_name to)
    × IsTrue (is_key key)
    × IsTrue (is_tag_set tags)
    × IsTrue (is_class_name class)
    × EffectMeetsLimits (effects.Replica from to key id n tags tags_stamp hold hold_stamp class bytes)
IsEffect (effects.Marker from to key id n) = IsTrue (is_bucket_name from)
    × IsTrue (is_bucket_name to)
    × IsTrue (is_key key)
    × EffectMeetsLimits (effects.Marker from to key id n)
IsEffect (effects.Tags from to key id tags stamp) = IsTrue (is_bucket_name from)
    × IsTrue (is_bucket_name to)
    × IsTrue (is_key key)
    × IsTrue (is_tag_set tags)
    × EffectMeetsLimits (effects.Tags from to key id tags stamp)
IsEffect (effects.Hold from to key id hold stamp) = IsTrue (is_bucket_name from)
    × IsTrue (is_bucket_name to)
    × IsTrue (is_key key)
    × EffectMeetsLimits (effects.Hold from to key id hold stamp)

-- each field meets its type's rule, and the spelling has at most 16 MiB, which only a configuration's could pass
abbrev pub IsCommand : Command → Type 0
IsCommand (command.CreateBucket name locked) = IsTrue (is_bucket_name name)
IsCommand (command.DeleteBucket name) = IsTrue (is_bucket_name name)
IsCommand (command.SetVersioning name enabled) = IsTrue (is_bucket_name name)
IsCommand (command.SetReplication name config regions) = IsTrue (is_bucket_name name)
    × IsTrue (is_config config)
    × IsPlaced config regions
    × (length (spelling (command.SetReplication name config regions)) ≤ 16777216)
    × IsTrue (list_all has_texts config)
IsCommand (command.DropReplication name) = IsTrue (is_bucket_name name)
IsCommand (command.Put bucket key tags hold class bytes) = IsTrue (is_bucket_name bucket) × IsTrue (is_key key) × IsTrue (is_tag_set tags)
    × IsTrue (is_class_name class) × (length bytes ≤ 4194304)
IsCommand (command.Marker bucket key) = IsTrue (is_bucket_name bucket) × IsTrue (is_key key)
IsCommand (command.Remove bucket key id) = IsTrue (is_bucket_name bucket) × IsTrue (is_key key) × IsVersionId id
IsCommand (command.SetTags bucket key id tags) = IsTrue (is_bucket_name bucket) × IsTrue (is_key key) × IsVersionId id × IsTrue (is_tag_set tags)
IsCommand (command.SetHold bucket key id hold) = IsTrue (is_bucket_name bucket) × IsTrue (is_key key) × IsVersionId id
IsCommand (command.Receive from n effect) = IsTask from n × IsEffect effect
IsCommand (command.Settle to n outcome) = IsTask to n
IsCommand (command.Attempt to n) = IsTask to n
IsCommand (command.CreateJob spec manifest) = IsJobSpec spec × IsVersionId manifest
IsCommand (command.MoveJob job state) = IsJobId job × IsTrue (is_moved_to state)
IsCommand (command.SetPriority job priority) = IsJobId job × (priority ≤ 2147483647)
IsCommand (command.Prepare job) = IsJobId job
IsCommand (command.Line job line) = IsJobId job × (1 ≤ line) × (line ≤ 4294967295)
IsCommand (command.Finish job bytes) = IsJobId job × BodyMeetsLimits bytes

-- what the types of its fields leave open: the length of a body, the rule of an id, and of a configuration its regions and
-- its length
abbrev pub MeetsLimits : Command → Type 0
MeetsLimits (command.CreateBucket name locked) = Unit {0}
MeetsLimits (command.DeleteBucket name) = Unit {0}
MeetsLimits (command.SetVersioning name enabled) = Unit {0}
MeetsLimits (command.SetReplication name config regions) = IsPlaced config regions × (length (spelling (command.SetReplication name config regions)) ≤ 16777216)
MeetsLimits (command.DropReplication name) = Unit {0}
MeetsLimits (command.Put bucket key tags hold class bytes) = length bytes ≤ 4194304
MeetsLimits (command.Marker bucket key) = Unit {0}
MeetsLimits (command.Remove bucket key id) = IsVersionId id
MeetsLimits (command.SetTags bucket key id tags) = IsVersionId id
MeetsLimits (command.SetHold bucket key id hold) = IsVersionId id
MeetsLimits (command.Receive from n effect) = IsTask from n × EffectMeetsLimits effect
MeetsLimits (command.Settle to n outcome) = IsTask to n
MeetsLimits (command.Attempt to n) = IsTask to n
MeetsLimits (command.CreateJob spec manifest) = SpecMeetsLimits spec × IsVersionId manifest
MeetsLimits (command.MoveJob job state) = IsJobId job × IsTrue (is_moved_to state)
MeetsLimits (command.SetPriority job priority) = IsJobId job × (priority ≤ 2147483647)
MeetsLimits (command.Prepare job) = IsJobId job
MeetsLimits (command.Line job line) = IsJobId job × (1 ≤ line) × (line ≤ 4294967295)
MeetsLimits (command.Finish job bytes) = IsJobId job × BodyMeetsLimits bytes

-- a configuration's command is short enough for a record, whatever its regions are
abbrev pub fits_record : List ℕ → List Rule → Bool
fits_record name rules = nat_le (length (spelling (command.SetReplication name rules (map (λ (rule : Rule). 0) rules)))) 16777216

-- a spelling behind its length, with a closed gate after it
abbrev pub frame : List ℕ → List ℕ
frame s = to_be_bytes w32 (length s) ++ s ++ 0 ∷ []
