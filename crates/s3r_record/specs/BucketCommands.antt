-- Reading the fields of the commands about a bucket.
use Rattle.std.specs.Prelude.{ℕ, Result, Ok}
use Rattle.std.specs.Int.{w16}
use Rattle.s3r_names.specs.Bucket.{is_bucket_name}
use Rattle.s3r_record.specs.declared.command.Command.{Command}
use Rattle.s3r_record.specs.declared.command.Command.TheVariants as command
use Rattle.s3r_record.specs.Reading.{◌>>=◌, Unread, flag_at, tested_at}

unfoldable pub create_bucket_at : Unread → Result (Command × Unread) ℕ
create_bucket_at fields = do
  name ← tested_at w16 is_bucket_name fields
  locked ← flag_at name.1
  Ok (command.CreateBucket name.0 locked.0, locked.1)

unfoldable pub delete_bucket_at : Unread → Result (Command × Unread) ℕ
delete_bucket_at fields = do
  name ← tested_at w16 is_bucket_name fields
  Ok (command.DeleteBucket name.0, name.1)

unfoldable pub set_versioning_at : Unread → Result (Command × Unread) ℕ
set_versioning_at fields = do
  name ← tested_at w16 is_bucket_name fields
  enabled ← flag_at name.1
  Ok (command.SetVersioning name.0 enabled.0, enabled.1)
