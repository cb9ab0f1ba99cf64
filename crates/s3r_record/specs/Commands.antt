-- Reading a command, all of the bytes.
use Rattle.std.specs.Prelude.{ℕ, List, [], ◌∷◌, length, Result, Ok, Err, ◌==◌, if◌then◌else◌}
use Rattle.s3r_record.specs.declared.command.Command.{Command}
use Rattle.s3r_record.specs.Reading.{◌>>=◌, Unread, place}
use Rattle.s3r_record.specs.BucketCommands.{create_bucket_at, delete_bucket_at, set_versioning_at}
use Rattle.s3r_record.specs.ReplicationCommands.{set_replication_at, drop_replication_at}
use Rattle.s3r_record.specs.VersionCommands.{put_at, marker_at, remove_at, set_tags_at, set_hold_at}
use Rattle.s3r_record.specs.TaskCommands.{receive_at, settle_at, attempt_at}
use Rattle.s3r_record.specs.JobCommands.{create_job_at, move_job_at, set_priority_at, prepare_at, line_at, finish_at}

-- the fields of the command that the byte names
unfoldable pub fields_at : ℕ → Unread → Result (Command × Unread) ℕ
fields_at kind fields =
    if kind == 1 then create_bucket_at fields else (
    if kind == 2 then delete_bucket_at fields else (
    if kind == 3 then set_versioning_at fields else (
    if kind == 4 then set_replication_at fields else (
    if kind == 5 then drop_replication_at fields else (
    if kind == 6 then put_at fields else (
    if kind == 7 then marker_at fields else (
    if kind == 8 then remove_at fields else (
    if kind == 9 then set_tags_at fields else (
    if kind == 10 then set_hold_at fields else (
    if kind == 11 then receive_at fields else (
    if kind == 12 then settle_at fields else (
    if kind == 13 then attempt_at fields else (
    if kind == 14 then create_job_at fields else (
    if kind == 15 then move_job_at fields else (
    if kind == 16 then set_priority_at fields else (
    if kind == 17 then prepare_at fields else (
    if kind == 18 then line_at fields else (
    if kind == 19 then finish_at fields else (
    Err 0)))))))))))))))))))

unfoldable pub command_at : List ℕ → Result Command ℕ
command_at [] = Err 0
command_at (kind ∷ fields) = do
  read ← fields_at kind (record { whole = length (kind ∷ fields); bytes = fields })
  if length read.1.bytes == 0 then Ok read.0 else Err (place read.1)
