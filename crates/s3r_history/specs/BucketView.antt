-- What commands and their deeds tell of a bucket.
use Rattle.std.specs.Prelude.{Bool, List, Option, option_map}
use Rattle.s3r_names.specs.declared.version.VersionId.{VersionId}
use Rattle.s3r_history.specs.declared.replication.Replication.{Replication}
use Rattle.s3r_history.specs.Words.{Name, History}
use Rattle.s3r_history.specs.Buckets.{Bucket, bucket}
use Rattle.s3r_history.specs.Past.{Entry, Past}
use Rattle.s3r_history.specs.Rows.{rows, removed}

-- its Object Lock, whether versioning is Enabled, its configuration, its rows as they are listed, and the ids removed from
-- it, rising
pub record BucketView : Type 0 where
  pub locked : Bool
  pub enabled : Bool
  pub config : Option Replication
  pub rows : List Entry
  pub removed : List VersionId

abbrev pub told_as : Past → Name → Bucket → BucketView
told_as past b at = record { locked = at.locked; enabled = at.enabled; config = at.config; rows = rows past b; removed = removed past b }

-- what the commands h, which did this, tell of the name; None where no bucket of that name is there
abbrev pub told_by : History → Past → Name → Option BucketView
told_by h past b = option_map (told_as past b) (bucket h b)
