-- Reading the fields of the commands about versions.
use Rattle.std.specs.Prelude.{ℕ, Result, Ok}
use Rattle.std.specs.Int.{w16, w32}
use Rattle.s3r_names.specs.Bucket.{is_bucket_name}
use Rattle.s3r_names.specs.Key.{is_key}
use Rattle.s3r_names.specs.Class.{is_class_name}
use Rattle.s3r_record.specs.declared.command.Command.{Command}
use Rattle.s3r_record.specs.declared.command.Command.TheVariants as command
use Rattle.s3r_record.specs.declared.tag_rule.TagRule.TheVariants as allowed
use Rattle.s3r_record.specs.Reading.{◌>>=◌, Unread, flag_at, tested_at, is_body}
use Rattle.s3r_record.specs.ReadingTags.{tags_at}
use Rattle.s3r_record.specs.ReadingIds.{id_at}

unfoldable pub put_at : Unread → Result (Command × Unread) ℕ
put_at fields = do
  bucket ← tested_at w16 is_bucket_name fields
  key ← tested_at w16 is_key bucket.1
  tags ← tags_at allowed.Lawful key.1
  hold ← flag_at tags.1
  class ← tested_at w16 is_class_name hold.1
  body ← tested_at w32 (is_body 4194304) class.1
  Ok (command.Put bucket.0 key.0 tags.0 hold.0 class.0 body.0, body.1)

unfoldable pub marker_at : Unread → Result (Command × Unread) ℕ
marker_at fields = do
  bucket ← tested_at w16 is_bucket_name fields
  key ← tested_at w16 is_key bucket.1
  Ok (command.Marker bucket.0 key.0, key.1)

unfoldable pub remove_at : Unread → Result (Command × Unread) ℕ
remove_at fields = do
  bucket ← tested_at w16 is_bucket_name fields
  key ← tested_at w16 is_key bucket.1
  id ← id_at key.1
  Ok (command.Remove bucket.0 key.0 id.0, id.1)

unfoldable pub set_tags_at : Unread → Result (Command × Unread) ℕ
set_tags_at fields = do
  bucket ← tested_at w16 is_bucket_name fields
  key ← tested_at w16 is_key bucket.1
  id ← id_at key.1
  tags ← tags_at allowed.Lawful id.1
  Ok (command.SetTags bucket.0 key.0 id.0 tags.0, tags.1)

unfoldable pub set_hold_at : Unread → Result (Command × Unread) ℕ
set_hold_at fields = do
  bucket ← tested_at w16 is_bucket_name fields
  key ← tested_at w16 is_key bucket.1
  id ← id_at key.1
  hold ← flag_at id.1
  Ok (command.SetHold bucket.0 key.0 id.0 hold.0, hold.1)
