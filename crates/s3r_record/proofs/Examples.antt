-- Spellings of commands, and bytes that are none.
use Rattle.std.proofs.Common.{◌≡◌, ℕ, true, false, List, [], ◌∷◌, ◌++◌, None, Result, Ok, Err, refl, codes}
use Rattle.std.specs.Str.{is_utf8, chars}
use Rattle.s3r_names.specs.declared.outcome.Outcome.TheVariants as outcomes
use Rattle.s3r_names.specs.declared.outcome.Reason.TheVariants as reasons
use Rattle.s3r_names.specs.declared.stamp.Stamp.{Stamp}
use Rattle.s3r_names.specs.declared.version.VersionId.{VersionId}
use Rattle.s3r_rules.specs.declared.rule.Rule.{Rule}
use Rattle.s3r_rules.specs.Reading.{rule_from}
use Rattle.s3r_record.specs.declared.command.Command.{Command}
use Rattle.s3r_record.specs.declared.command.Command.TheVariants as command
use Rattle.s3r_record.specs.declared.effect.Effect.{Effect}
use Rattle.s3r_record.specs.declared.effect.Effect.TheVariants as effects
use Rattle.s3r_record.specs.Spelling.{spelling, frame}
use Rattle.s3r_record.specs.Reading.{byte_at, flag_at, sized_at, tested_at}
use Rattle.s3r_record.specs.ReadingTags.{tag_at, tags_after, tags_at}
use Rattle.s3r_record.specs.ReadingTexts.{option_text_at}
use Rattle.s3r_record.specs.ReadingRules.{front_at, back_at, rule_at, rules_after, count_at, rules_at}
use Rattle.s3r_record.specs.ReplicationCommands.{set_replication_at, drop_replication_at}
use Rattle.s3r_record.specs.ReadingIds.{region_at, index_at, id_at, stamp_at}
use Rattle.s3r_record.specs.ReadingEffects.{effect_front_at, stamped_tags_at, stamped_hold_at, replica_tail_at, replica_at, marker_copy_at, tags_copy_at, hold_copy_at}
use Rattle.s3r_record.specs.ReadingEffects.{kind_fields_at, effect_at}
use Rattle.s3r_record.specs.BucketCommands.{create_bucket_at, delete_bucket_at, set_versioning_at}
use Rattle.s3r_record.specs.VersionCommands.{put_at, marker_at, remove_at, set_tags_at, set_hold_at}
use Rattle.s3r_record.specs.TaskCommands.{outcome_of, outcome_at, receive_at, settle_at, attempt_at}
use Rattle.s3r_jobs.specs.declared.state.JobState.TheVariants as states
use Rattle.s3r_record.specs.ReadingJobs.{number_within, state_of, state_at}
use Rattle.s3r_record.specs.JobCommands.{move_job_at, line_at}
use Rattle.s3r_record.specs.Commands.{fields_at, command_at}

abbrev fault_at : ℕ → Result Command ℕ
fault_at place = Err place

abc : spelling (command.CreateBucket (codes "abc") false) ≡ 1 ∷ 0 ∷ 3 ∷ 97 ∷ 98 ∷ 99 ∷ 0 ∷ []
abc = refl

abc_frame : frame (spelling (command.CreateBucket (codes "abc") false)) ≡ 0 ∷ 0 ∷ 0 ∷ 7 ∷ 1 ∷ 0 ∷ 3 ∷ 97 ∷ 98 ∷ 99 ∷ 0 ∷ 0 ∷ []
abc_frame = refl

abc_read : command_at (1 ∷ 0 ∷ 3 ∷ 97 ∷ 98 ∷ 99 ∷ 0 ∷ []) ≡ Ok (command.CreateBucket (codes "abc") false)
unfolding command_at fields_at create_bucket_at tested_at sized_at flag_at
abc_read = refl

locked_read : command_at (1 ∷ 0 ∷ 3 ∷ 97 ∷ 98 ∷ 99 ∷ 1 ∷ []) ≡ Ok (command.CreateBucket (codes "abc") true)
unfolding command_at fields_at create_bucket_at tested_at sized_at flag_at
locked_read = refl

nothing : command_at [] ≡ fault_at 0
unfolding command_at
nothing = refl

unknown : command_at (20 ∷ 0 ∷ []) ≡ fault_at 0
unfolding command_at fields_at
unknown = refl

cut_length : command_at (1 ∷ 0 ∷ []) ≡ fault_at 1
unfolding command_at fields_at create_bucket_at tested_at sized_at flag_at
cut_length = refl

cut_name : command_at (1 ∷ 0 ∷ 3 ∷ 97 ∷ 98 ∷ []) ≡ fault_at 1
unfolding command_at fields_at create_bucket_at tested_at sized_at flag_at
cut_name = refl

no_name : command_at (1 ∷ 0 ∷ 2 ∷ 97 ∷ 98 ∷ 0 ∷ []) ≡ fault_at 1
unfolding command_at fields_at create_bucket_at tested_at sized_at flag_at
no_name = refl

cut_flag : command_at (1 ∷ 0 ∷ 3 ∷ 97 ∷ 98 ∷ 99 ∷ []) ≡ fault_at 6
unfolding command_at fields_at create_bucket_at tested_at sized_at flag_at
cut_flag = refl

other_flag : command_at (1 ∷ 0 ∷ 3 ∷ 97 ∷ 98 ∷ 99 ∷ 2 ∷ []) ≡ fault_at 6
unfolding command_at fields_at create_bucket_at tested_at sized_at flag_at
other_flag = refl

more_bytes : command_at (1 ∷ 0 ∷ 3 ∷ 97 ∷ 98 ∷ 99 ∷ 0 ∷ 0 ∷ []) ≡ fault_at 7
unfolding command_at fields_at create_bucket_at tested_at sized_at flag_at
more_bytes = refl

-- ---- a Put: bucket abc, key a, then its tags, no hold, STANDARD, body hi

abbrev to_tags : List ℕ
to_tags = 6 ∷ 0 ∷ 3 ∷ 97 ∷ 98 ∷ 99 ∷ 0 ∷ 1 ∷ 97 ∷ []

abbrev from_hold : List ℕ
from_hold = 0 ∷ 0 ∷ 8 ∷ 83 ∷ 84 ∷ 65 ∷ 78 ∷ 68 ∷ 65 ∷ 82 ∷ 68 ∷ 0 ∷ 0 ∷ 0 ∷ 2 ∷ 104 ∷ 105 ∷ []

hi : spelling (command.Put (codes "abc") (codes "a") [] false (codes "STANDARD") (codes "hi"))
    ≡ 6 ∷ 0 ∷ 3 ∷ 97 ∷ 98 ∷ 99 ∷ 0 ∷ 1 ∷ 97 ∷ 0 ∷ 0 ∷ 0 ∷ 8 ∷ 83 ∷ 84 ∷ 65 ∷ 78 ∷ 68 ∷ 65 ∷ 82 ∷ 68 ∷ 0 ∷ 0 ∷ 0 ∷ 2 ∷ 104 ∷ 105 ∷ []
hi = refl

hi_read : command_at (to_tags ++ 0 ∷ from_hold) ≡ Ok (command.Put (codes "abc") (codes "a") [] false (codes "STANDARD") (codes "hi"))
unfolding command_at fields_at put_at tested_at sized_at flag_at tags_at byte_at tags_after is_utf8 chars lib.Utf8.encode
hi_read = refl

rising_tags_read : command_at (to_tags ++ (2 ∷ 0 ∷ 1 ∷ 97 ∷ 0 ∷ 0 ∷ 0 ∷ 1 ∷ 98 ∷ 0 ∷ 1 ∷ 99 ∷ []) ++ from_hold)
    ≡ Ok (command.Put (codes "abc") (codes "a") (record { key = codes "a"; value = [] } ∷ record { key = codes "b"; value = codes "c" } ∷ []) false
    (codes "STANDARD") (codes "hi"))
unfolding command_at fields_at put_at tested_at sized_at flag_at tags_at byte_at tags_after tag_at is_utf8 chars lib.Utf8.encode
rising_tags_read = refl

falling_tags : command_at (to_tags ++ (2 ∷ 0 ∷ 1 ∷ 98 ∷ 0 ∷ 0 ∷ 0 ∷ 1 ∷ 97 ∷ 0 ∷ 0 ∷ []) ++ from_hold) ≡ fault_at 15
unfolding command_at fields_at put_at tested_at sized_at flag_at tags_at byte_at tags_after tag_at is_utf8 chars lib.Utf8.encode
falling_tags = refl

eleven_tags : command_at (to_tags ++ 11 ∷ from_hold) ≡ fault_at 9
unfolding command_at fields_at put_at tested_at sized_at flag_at tags_at byte_at is_utf8 chars lib.Utf8.encode
eleven_tags = refl

cut_body : command_at (to_tags ++ 0 ∷ 0 ∷ 0 ∷ 1 ∷ 65 ∷ 0 ∷ 0 ∷ 0 ∷ 2 ∷ 104 ∷ []) ≡ fault_at 14
unfolding command_at fields_at put_at tested_at sized_at flag_at tags_at byte_at tags_after is_utf8 chars lib.Utf8.encode
cut_body = refl

-- ---- the other commands about a bucket

delete_spelled : spelling (command.DeleteBucket (codes "abc")) ≡ 2 ∷ 0 ∷ 3 ∷ 97 ∷ 98 ∷ 99 ∷ []
delete_spelled = refl

delete_read : command_at (2 ∷ 0 ∷ 3 ∷ 97 ∷ 98 ∷ 99 ∷ []) ≡ Ok (command.DeleteBucket (codes "abc"))
unfolding command_at fields_at delete_bucket_at tested_at sized_at
delete_read = refl

suspended_spelled : spelling (command.SetVersioning (codes "abc") false) ≡ 3 ∷ 0 ∷ 3 ∷ 97 ∷ 98 ∷ 99 ∷ 0 ∷ []
suspended_spelled = refl

enabled_read : command_at (3 ∷ 0 ∷ 3 ∷ 97 ∷ 98 ∷ 99 ∷ 1 ∷ []) ≡ Ok (command.SetVersioning (codes "abc") true)
unfolding command_at fields_at set_versioning_at tested_at sized_at flag_at
enabled_read = refl

-- ---- commands about a version: bucket abc, key a, then the id 7 and 258

abbrev row_id : List ℕ
row_id = 7 ∷ 0 ∷ 0 ∷ 0 ∷ 0 ∷ 0 ∷ 0 ∷ 1 ∷ 2 ∷ []

abbrev to_id : ℕ → List ℕ
to_id kind = kind ∷ 0 ∷ 3 ∷ 97 ∷ 98 ∷ 99 ∷ 0 ∷ 1 ∷ 97 ∷ []

marker_spelled : spelling (command.Marker (codes "abc") (codes "a")) ≡ to_id 7
marker_spelled = refl

marker_read : command_at (to_id 7) ≡ Ok (command.Marker (codes "abc") (codes "a"))
unfolding command_at fields_at marker_at tested_at sized_at is_utf8 chars lib.Utf8.encode
marker_read = refl

no_key : command_at (7 ∷ 0 ∷ 3 ∷ 97 ∷ 98 ∷ 99 ∷ 0 ∷ 1 ∷ 255 ∷ []) ≡ fault_at 6
unfolding command_at fields_at marker_at tested_at sized_at is_utf8 chars lib.Utf8.encode
no_key = refl

remove_spelled : spelling (command.Remove (codes "abc") (codes "a") (record { region = 7; index = 258 })) ≡ to_id 8 ++ row_id
remove_spelled = refl

remove_read : command_at (to_id 8 ++ row_id) ≡ Ok (command.Remove (codes "abc") (codes "a") (record { region = 7; index = 258 }))
unfolding command_at fields_at remove_at tested_at sized_at id_at region_at index_at byte_at is_utf8 chars lib.Utf8.encode
remove_read = refl

no_region : command_at (to_id 8) ≡ fault_at 9
unfolding command_at fields_at remove_at tested_at sized_at id_at region_at index_at byte_at is_utf8 chars lib.Utf8.encode
no_region = refl

high_region : command_at (to_id 8 ++ 8 ∷ 0 ∷ 0 ∷ 0 ∷ 0 ∷ 0 ∷ 0 ∷ 0 ∷ 1 ∷ []) ≡ fault_at 9
unfolding command_at fields_at remove_at tested_at sized_at id_at region_at index_at byte_at is_utf8 chars lib.Utf8.encode
high_region = refl

cut_index : command_at (to_id 8 ++ 7 ∷ 0 ∷ 0 ∷ 0 ∷ 0 ∷ 0 ∷ 0 ∷ 1 ∷ []) ≡ fault_at 10
unfolding command_at fields_at remove_at tested_at sized_at id_at region_at index_at byte_at is_utf8 chars lib.Utf8.encode
cut_index = refl

no_index : command_at (to_id 8 ++ 7 ∷ 0 ∷ 0 ∷ 0 ∷ 0 ∷ 0 ∷ 0 ∷ 0 ∷ 0 ∷ []) ≡ fault_at 10
unfolding command_at fields_at remove_at tested_at sized_at id_at region_at index_at byte_at is_utf8 chars lib.Utf8.encode
no_index = refl

set_tags_read : command_at (to_id 9 ++ row_id ++ 1 ∷ 0 ∷ 1 ∷ 98 ∷ 0 ∷ 1 ∷ 99 ∷ [])
    ≡ Ok (command.SetTags (codes "abc") (codes "a") (record { region = 7; index = 258 }) (record { key = codes "b"; value = codes "c" } ∷ []))
unfolding command_at fields_at set_tags_at tested_at sized_at id_at region_at index_at byte_at tags_at tags_after tag_at is_utf8 chars lib.Utf8.encode
set_tags_read = refl

set_hold_read : command_at (to_id 10 ++ row_id ++ 1 ∷ []) ≡ Ok (command.SetHold (codes "abc") (codes "a") (record { region = 7; index = 258 }) true)
unfolding command_at fields_at set_hold_at tested_at sized_at id_at region_at index_at byte_at flag_at is_utf8 chars lib.Utf8.encode
set_hold_read = refl

other_hold : command_at (to_id 10 ++ row_id ++ 2 ∷ []) ≡ fault_at 18
unfolding command_at fields_at set_hold_at tested_at sized_at id_at region_at index_at byte_at flag_at is_utf8 chars lib.Utf8.encode
other_hold = refl

-- ---- a configuration of bucket abc: a rule r to abc, in region 1

abbrev r : Rule
r = record {
  id = codes "r";
  priority = 1;
  enabled = true;
  prefix = [];
  tags = [];
  markers = false;
  bucket = codes "abc";
  class =
      None;
  replica_modifications = false;
}

abbrev r_bytes : List ℕ
r_bytes = 0 ∷ 1 ∷ 114 ∷ 0 ∷ 0 ∷ 0 ∷ 1 ∷ 1 ∷ 0 ∷ 0 ∷ 0 ∷ 0 ∷ 0 ∷ 3 ∷ 97 ∷ 98 ∷ 99 ∷ 1 ∷ 0 ∷ 0 ∷ []

abbrev to_rules : ℕ → List ℕ
to_rules count = 4 ∷ 0 ∷ 3 ∷ 97 ∷ 98 ∷ 99 ∷ 0 ∷ count ∷ []

replication_spelled : spelling (command.SetReplication (codes "abc") (r ∷ []) (1 ∷ [])) ≡ to_rules 1 ++ r_bytes
replication_spelled = refl

replication_read : command_at (to_rules 1 ++ r_bytes) ≡ Ok (command.SetReplication (codes "abc") (r ∷ []) (1 ∷ []))
unfolding command_at fields_at set_replication_at tested_at sized_at flag_at byte_at region_at tags_at tags_after option_text_at front_at back_at rule_at
    rules_after count_at rules_at rule_from is_utf8 chars lib.Utf8.encode
replication_read = refl

no_rules : command_at (to_rules 0) ≡ fault_at 6
unfolding command_at fields_at set_replication_at tested_at sized_at count_at rules_at
no_rules = refl

-- the second rule has the first one's ID
same_rule : command_at (to_rules 2 ++ r_bytes ++ r_bytes) ≡ fault_at 28
unfolding command_at fields_at set_replication_at tested_at sized_at flag_at byte_at region_at tags_at tags_after option_text_at front_at back_at rule_at
    rules_after count_at rules_at rule_from is_utf8 chars lib.Utf8.encode
same_rule = refl

drop_read : command_at (5 ∷ 0 ∷ 3 ∷ 97 ∷ 98 ∷ 99 ∷ []) ≡ Ok (command.DropReplication (codes "abc"))
unfolding command_at fields_at drop_replication_at tested_at sized_at
drop_read = refl

-- ---- commands about a task: region 2, number 258

abbrev to_task : ℕ → List ℕ
to_task kind = kind ∷ 2 ∷ 0 ∷ 0 ∷ 0 ∷ 0 ∷ 0 ∷ 0 ∷ 1 ∷ 2 ∷ []

attempt_spelled : spelling (command.Attempt 2 258) ≡ to_task 13
attempt_spelled = refl

attempt_read : command_at (to_task 13) ≡ Ok (command.Attempt 2 258)
unfolding command_at fields_at attempt_at region_at index_at byte_at
attempt_read = refl

more_than_attempt : command_at (to_task 13 ++ 0 ∷ []) ≡ fault_at 10
unfolding command_at fields_at attempt_at region_at index_at byte_at
more_than_attempt = refl

high_sender : command_at (13 ∷ 8 ∷ 0 ∷ 0 ∷ 0 ∷ 0 ∷ 0 ∷ 0 ∷ 0 ∷ 1 ∷ []) ≡ fault_at 1
unfolding command_at fields_at attempt_at region_at index_at byte_at
high_sender = refl

no_number : command_at (13 ∷ 2 ∷ 0 ∷ 0 ∷ 0 ∷ 0 ∷ 0 ∷ 0 ∷ 0 ∷ 0 ∷ []) ≡ fault_at 2
unfolding command_at fields_at attempt_at region_at index_at byte_at
no_number = refl

settle_spelled : spelling (command.Settle 2 258 (outcomes.Refused reasons.VersionRemoved)) ≡ to_task 12 ++ 3 ∷ []
settle_spelled = refl

settle_read : command_at (to_task 12 ++ 3 ∷ []) ≡ Ok (command.Settle 2 258 (outcomes.Refused reasons.VersionRemoved))
unfolding command_at fields_at settle_at outcome_at outcome_of region_at index_at byte_at
settle_read = refl

other_outcome : command_at (to_task 12 ++ 6 ∷ []) ≡ fault_at 10
unfolding command_at fields_at settle_at outcome_at outcome_of region_at index_at byte_at
other_outcome = refl

-- ---- effects: of bucket abc to bucket abd, key a, the id 7 and 258; a stamp of n 3, region 1 and index 2

abbrev id : VersionId
id = record { region = 7; index = 258 }

abbrev stamp : Stamp
stamp = record { n = 3; region = 1; index = 2 }

abbrev stamped : List ℕ
stamped = 0 ∷ 0 ∷ 0 ∷ 0 ∷ 0 ∷ 0 ∷ 0 ∷ 3 ∷ 1 ∷ 0 ∷ 0 ∷ 0 ∷ 0 ∷ 0 ∷ 0 ∷ 0 ∷ 2 ∷ []

abbrev to_kind_fields : ℕ → List ℕ
to_kind_fields kind = to_task 11 ++ (kind ∷ 0 ∷ 3 ∷ 97 ∷ 98 ∷ 99 ∷ 0 ∷ 3 ∷ 97 ∷ 98 ∷ 100 ∷ 0 ∷ 1 ∷ 97 ∷ []) ++ row_id

abbrev four : List ℕ
four = 0 ∷ 0 ∷ 0 ∷ 0 ∷ 0 ∷ 0 ∷ 0 ∷ 4 ∷ []

abbrev replica : Effect (List ℕ)
replica = effects.Replica (codes "abc") (codes "abd") (codes "a") id 4 [] stamp true stamp (codes "STANDARD") (codes "hi")

abbrev to_class : List ℕ
to_class = to_kind_fields 1 ++ four ++ (0 ∷ []) ++ stamped ++ (1 ∷ []) ++ stamped

abbrev from_class : List ℕ
from_class = 0 ∷ 8 ∷ 83 ∷ 84 ∷ 65 ∷ 78 ∷ 68 ∷ 65 ∷ 82 ∷ 68 ∷ 0 ∷ 0 ∷ 0 ∷ 2 ∷ 104 ∷ 105 ∷ []

replica_spelled : spelling (command.Receive 2 258 replica) ≡ to_class ++ from_class
replica_spelled = refl

replica_read : command_at (to_class ++ from_class) ≡ Ok (command.Receive 2 258 replica)
unfolding command_at fields_at receive_at effect_at kind_fields_at replica_at effect_front_at replica_tail_at stamped_tags_at stamped_hold_at stamp_at
    id_at region_at index_at tested_at sized_at tags_at tags_after flag_at byte_at is_utf8 chars lib.Utf8.encode
replica_read = refl

-- a body begins at its length
cut_copy : command_at (to_class ++ 0 ∷ 1 ∷ 65 ∷ 0 ∷ 0 ∷ 0 ∷ 2 ∷ 104 ∷ []) ≡ fault_at 80
unfolding command_at fields_at receive_at effect_at kind_fields_at replica_at effect_front_at replica_tail_at stamped_tags_at stamped_hold_at stamp_at
    id_at region_at index_at tested_at sized_at tags_at tags_after flag_at byte_at is_utf8 chars lib.Utf8.encode
cut_copy = refl

-- a marker may have any n
marker_copy_read : command_at (to_kind_fields 2 ++ 0 ∷ 0 ∷ 0 ∷ 0 ∷ 0 ∷ 0 ∷ 0 ∷ 0 ∷ [])
    ≡ Ok (command.Receive 2 258 (effects.Marker (codes "abc") (codes "abd") (codes "a") id 0))
unfolding command_at fields_at receive_at effect_at kind_fields_at marker_copy_at effect_front_at id_at region_at index_at tested_at sized_at byte_at
    is_utf8 chars lib.Utf8.encode
marker_copy_read = refl

tags_copy_read : command_at (to_kind_fields 3 ++ (1 ∷ 0 ∷ 1 ∷ 98 ∷ 0 ∷ 1 ∷ 99 ∷ []) ++ stamped)
    ≡ Ok (command.Receive 2 258 (effects.Tags (codes "abc") (codes "abd") (codes "a") id (record { key = codes "b"; value = codes "c" } ∷ []) stamp))
unfolding command_at fields_at receive_at effect_at kind_fields_at tags_copy_at effect_front_at stamped_tags_at stamp_at id_at region_at index_at
    tested_at sized_at tags_at tags_after tag_at byte_at is_utf8 chars lib.Utf8.encode
tags_copy_read = refl

hold_copy_read : command_at (to_kind_fields 4 ++ (0 ∷ []) ++ stamped)
    ≡ Ok (command.Receive 2 258 (effects.Hold (codes "abc") (codes "abd") (codes "a") id false stamp))
unfolding command_at fields_at receive_at effect_at kind_fields_at hold_copy_at effect_front_at stamped_hold_at stamp_at id_at region_at index_at
    tested_at sized_at flag_at byte_at is_utf8 chars lib.Utf8.encode
hold_copy_read = refl

other_kind : command_at (to_kind_fields 5) ≡ fault_at 10
unfolding command_at fields_at receive_at effect_at kind_fields_at region_at index_at byte_at
other_kind = refl

no_stamp_region : command_at (to_kind_fields 4 ++ 0 ∷ four) ≡ fault_at 42
unfolding command_at fields_at receive_at effect_at kind_fields_at hold_copy_at effect_front_at stamped_hold_at stamp_at id_at region_at index_at
    tested_at sized_at flag_at byte_at is_utf8 chars lib.Utf8.encode
no_stamp_region = refl

no_stamp_index : command_at (to_kind_fields 4 ++ 0 ∷ 0 ∷ 0 ∷ 0 ∷ 0 ∷ 0 ∷ 0 ∷ 0 ∷ 3 ∷ 1 ∷ 0 ∷ 0 ∷ 0 ∷ 0 ∷ 0 ∷ 0 ∷ 0 ∷ 0 ∷ []) ≡ fault_at 43
unfolding command_at fields_at receive_at effect_at kind_fields_at hold_copy_at effect_front_at stamped_hold_at stamp_at id_at region_at index_at
    tested_at sized_at flag_at byte_at is_utf8 chars lib.Utf8.encode
no_stamp_index = refl

-- ---- commands about jobs

prepared : spelling (command.Prepare 5) ≡ 17 ∷ 0 ∷ 0 ∷ 0 ∷ 0 ∷ 0 ∷ 0 ∷ 0 ∷ 5 ∷ []
prepared = refl

paused : spelling (command.MoveJob 5 states.Paused) ≡ 15 ∷ 0 ∷ 0 ∷ 0 ∷ 0 ∷ 0 ∷ 0 ∷ 0 ∷ 5 ∷ 5 ∷ []
paused = refl

first_line : spelling (command.Line 5 1) ≡ 18 ∷ 0 ∷ 0 ∷ 0 ∷ 0 ∷ 0 ∷ 0 ∷ 0 ∷ 5 ∷ 0 ∷ 0 ∷ 0 ∷ 1 ∷ []
first_line = refl

finished : spelling (command.Finish 5 None) ≡ 19 ∷ 0 ∷ 0 ∷ 0 ∷ 0 ∷ 0 ∷ 0 ∷ 0 ∷ 5 ∷ 0 ∷ []
finished = refl

paused_read : command_at (15 ∷ 0 ∷ 0 ∷ 0 ∷ 0 ∷ 0 ∷ 0 ∷ 0 ∷ 5 ∷ 5 ∷ []) ≡ Ok (command.MoveJob 5 states.Paused)
unfolding command_at fields_at move_job_at index_at state_at state_of byte_at
paused_read = refl

-- no command moves a job to an eighth state
eighth_state : command_at (15 ∷ 0 ∷ 0 ∷ 0 ∷ 0 ∷ 0 ∷ 0 ∷ 0 ∷ 5 ∷ 8 ∷ []) ≡ fault_at 9
unfolding command_at fields_at move_job_at index_at state_at state_of byte_at
eighth_state = refl

-- lines are counted from 1
no_line : command_at (18 ∷ 0 ∷ 0 ∷ 0 ∷ 0 ∷ 0 ∷ 0 ∷ 0 ∷ 5 ∷ 0 ∷ 0 ∷ 0 ∷ 0 ∷ []) ≡ fault_at 9
unfolding command_at fields_at line_at index_at number_within
no_line = refl
