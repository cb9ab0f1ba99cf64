-- When a state is after a history. Nothing is said of the order in which it keeps its buckets.
use Rattle.std.specs.Prelude.{◌≡◌, ◌≤◌, true, Option, option_map, find, length}
use Rattle.s3r_history.specs.Words.{Name, History}
use Rattle.s3r_history.specs.Buckets.{names}
use Rattle.s3r_history.specs.Past.{clock}
use Rattle.s3r_history.specs.Deeds.{deeds}
use Rattle.s3r_history.specs.BucketView.{BucketView}
use Rattle.s3r_history.specs.Told.{told}
use Rattle.s3r_history.specs.Laws.{is_once}
use Rattle.s3r_history.specs.Kept.{QueuesAfter}
use Rattle.s3r_history.specs.Beyond.{AreThere, NoneBeyond}
use Rattle.s3r_region.specs.declared.bucket.Bucket.{Bucket}
use Rattle.s3r_region.specs.KeptJobs as jobs
use Rattle.s3r_region.specs.Contents.{Contents, is_named, names_of}

-- what a bucket of a state tells
abbrev pub told_by : Bucket → BucketView
told_by b = record { locked = b.locked; enabled = b.enabled; config = b.config; rows = b.rows.rows; removed = b.rows.removed }

-- the state's first bucket of this name
abbrev pub seen_bucket : Contents → Name → Option Bucket
seen_bucket s b = find (is_named b) s.buckets

abbrev pub seen : Contents → Name → Option BucketView
seen s b = option_map told_by (seen_bucket s b)

-- the state is after this history of its region
pub record IsAfter (s : Contents) (h : History) : Type 0 where
  pub commands : s.commands ≡ length h
  pub clock : s.clock ≡ clock (deeds s.region h)
  pub buckets : (b : Name) → seen s b ≡ told s.region h b
  pub count : length s.buckets ≡ length (names h)
  -- no two buckets have one name
  pub once : is_once (names_of s.buckets) ≡ true
  pub some : 1 ≤ s.regions
  pub queues : QueuesAfter s.region s.regions s.outbox s.inbox h
  pub jobs : jobs.IsAfter s.region s.jobs h
  -- no configuration names a region that isn't there, and nothing was prescribed to one
  pub there : AreThere s.regions h
  pub beyond : NoneBeyond s.regions (deeds s.region h)
