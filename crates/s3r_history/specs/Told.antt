-- What a region's history tells of a bucket.
use Rattle.std.specs.Prelude.{ℕ, Option}
use Rattle.s3r_history.specs.Words.{Name, History}
use Rattle.s3r_history.specs.Buckets.{Bucket}
use Rattle.s3r_history.specs.BucketView.{BucketView, told_as, told_by}
use Rattle.s3r_history.specs.Deeds.{deeds}

abbrev pub told_of : ℕ → History → Name → Bucket → BucketView
told_of r h b at = told_as (deeds r h) b at

-- what region r's history tells of the name; None where no bucket of that name is there
abbrev pub told : ℕ → History → Name → Option BucketView
told r h b = told_by h (deeds r h) b
