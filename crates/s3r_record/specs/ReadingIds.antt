-- Reading the id of a version, and a stamp: each number in them is a field of its own.
use Rattle.std.specs.Prelude.{ℕ, Result, Ok, Err, nat_le, if◌then◌else◌}
use Rattle.std.specs.Int.{w64}
use Rattle.s3r_names.specs.declared.stamp.Stamp.{Stamp}
use Rattle.s3r_names.specs.declared.version.VersionId.{VersionId}
use Rattle.s3r_record.specs.Reading.{◌>>=◌, Unread, place, byte_at, number_at}

unfoldable pub region_at : Unread → Result (ℕ × Unread) ℕ
region_at left = byte_at 7 left

-- places in a history are counted from 1, and so are the tasks of a region
unfoldable pub index_at : Unread → Result (ℕ × Unread) ℕ
index_at left = do
  index ← number_at w64 left
  if nat_le 1 index.0 then Ok index else Err (place left)

unfoldable pub id_at : Unread → Result (VersionId × Unread) ℕ
id_at left = do
  region ← region_at left
  index ← index_at region.1
  Ok (record { region = region.0; index = index.0 }, index.1)

unfoldable pub stamp_at : Unread → Result (Stamp × Unread) ℕ
stamp_at left = do
  n ← number_at w64 left
  region ← region_at n.1
  index ← index_at region.1
  Ok (record { n = n.0; region = region.0; index = index.0 }, index.1)
