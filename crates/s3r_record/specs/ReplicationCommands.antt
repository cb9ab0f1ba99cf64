-- Reading the fields of the commands about a bucket's replication.
use Rattle.std.specs.Prelude.{ℕ, Result, Ok}
use Rattle.std.specs.Int.{w16}
use Rattle.s3r_names.specs.Bucket.{is_bucket_name}
use Rattle.s3r_record.specs.declared.command.Command.{Command}
use Rattle.s3r_record.specs.declared.command.Command.TheVariants as command
use Rattle.s3r_record.specs.Reading.{◌>>=◌, Unread, tested_at}
use Rattle.s3r_record.specs.ReadingRules.{rules_at}

unfoldable pub set_replication_at : Unread → Result (Command × Unread) ℕ
set_replication_at fields = do
  name ← tested_at w16 is_bucket_name fields
  rules ← rules_at name.1
  Ok (command.SetReplication name.0 rules.0.0 rules.0.1, rules.1)

unfoldable pub drop_replication_at : Unread → Result (Command × Unread) ℕ
drop_replication_at fields = do
  name ← tested_at w16 is_bucket_name fields
  Ok (command.DropReplication name.0, name.1)
