-- Reading an effect: its kind, the two buckets and the version, and the kind's own fields.
use Rattle.std.specs.Prelude.{ℕ, Bool, List, Result, Ok, Err, ◌==◌, if◌then◌else◌}
use Rattle.std.specs.Int.{w16, w32, w64}
use Rattle.s3r_names.specs.Bucket.{is_bucket_name}
use Rattle.s3r_names.specs.Key.{is_key}
use Rattle.s3r_names.specs.Class.{is_class_name}
use Rattle.s3r_names.specs.declared.stamp.Stamp.{Stamp}
use Rattle.s3r_names.specs.declared.tags.Tag.{Tag}
use Rattle.s3r_record.specs.declared.effect.Effect.{Effect}
use Rattle.s3r_record.specs.declared.effect.Effect.TheVariants as effects
use Rattle.s3r_record.specs.declared.effect_parts.EffectFront.{EffectFront}
use Rattle.s3r_record.specs.declared.effect_parts.ReplicaTail.{ReplicaTail}
use Rattle.s3r_record.specs.declared.tag_rule.TagRule.TheVariants as allowed
use Rattle.s3r_record.specs.Reading.{◌>>=◌, Unread, place, number_at, byte_at, flag_at, tested_at, is_body}
use Rattle.s3r_record.specs.ReadingTags.{tags_at}
use Rattle.s3r_record.specs.ReadingIds.{id_at, stamp_at}

-- what stands behind the kind of each
unfoldable pub effect_front_at : Unread → Result (EffectFront × Unread) ℕ
effect_front_at left = do
  from ← tested_at w16 is_bucket_name left
  to ← tested_at w16 is_bucket_name from.1
  key ← tested_at w16 is_key to.1
  id ← id_at key.1
  Ok (record { from = from.0; to = to.0; key = key.0; id = id.0 }, id.1)

unfoldable pub stamped_tags_at : Unread → Result ((List Tag × Stamp) × Unread) ℕ
stamped_tags_at left = do
  tags ← tags_at allowed.Lawful left
  stamp ← stamp_at tags.1
  Ok ((tags.0, stamp.0), stamp.1)

unfoldable pub stamped_hold_at : Unread → Result ((Bool × Stamp) × Unread) ℕ
stamped_hold_at left = do
  hold ← flag_at left
  stamp ← stamp_at hold.1
  Ok ((hold.0, stamp.0), stamp.1)

-- a body is a Put's or a report's
unfoldable pub replica_tail_at : Unread → Result (ReplicaTail × Unread) ℕ
replica_tail_at left = do
  n ← number_at w64 left
  tags ← stamped_tags_at n.1
  hold ← stamped_hold_at tags.1
  class ← tested_at w16 is_class_name hold.1
  body ← tested_at w32 (is_body 15582912) class.1
  Ok (
    record {
      n = n.0;
      tags = tags.0.0;
      tags_stamp = tags.0.1;
      hold = hold.0.0;
      hold_stamp = hold.0.1;
      class = class.0;
      body = body.0;
    },
    body.1,
  )

abbrev pub replica_of : EffectFront → ReplicaTail → Effect (List ℕ)
replica_of front tail =
    effects.Replica front.from front.to front.key front.id tail.n tail.tags tail.tags_stamp tail.hold tail.hold_stamp tail.class tail.body

unfoldable pub replica_at : Unread → Result (Effect (List ℕ) × Unread) ℕ
replica_at left = do
  front ← effect_front_at left
  tail ← replica_tail_at front.1
  Ok (replica_of front.0 tail.0, tail.1)

unfoldable pub marker_copy_at : Unread → Result (Effect (List ℕ) × Unread) ℕ
marker_copy_at left = do
  front ← effect_front_at left
  n ← number_at w64 front.1
  Ok (effects.Marker front.0.from front.0.to front.0.key front.0.id n.0, n.1)

unfoldable pub tags_copy_at : Unread → Result (Effect (List ℕ) × Unread) ℕ
tags_copy_at left = do
  front ← effect_front_at left
  tags ← stamped_tags_at front.1
  Ok (effects.Tags front.0.from front.0.to front.0.key front.0.id tags.0.0 tags.0.1, tags.1)

unfoldable pub hold_copy_at : Unread → Result (Effect (List ℕ) × Unread) ℕ
hold_copy_at left = do
  front ← effect_front_at left
  hold ← stamped_hold_at front.1
  Ok (effects.Hold front.0.from front.0.to front.0.key front.0.id hold.0.0 hold.0.1, hold.1)

-- the fields of the kind that the byte at that place names
unfoldable pub kind_fields_at : ℕ → ℕ → Unread → Result (Effect (List ℕ) × Unread) ℕ
kind_fields_at at kind fields =
    if kind == 1 then replica_at fields else (
    if kind == 2 then marker_copy_at fields else (
    if kind == 3 then tags_copy_at fields else (
    if kind == 4 then hold_copy_at fields else (
    Err at))))

unfoldable pub effect_at : Unread → Result (Effect (List ℕ) × Unread) ℕ
effect_at left = do
  kind ← byte_at 255 left
  kind_fields_at (place left) kind.0 kind.1
