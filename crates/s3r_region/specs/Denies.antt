-- Whether a command is accepted.
use Rattle.std.specs.Prelude.{◌≡◌, Option, Some, None, Result, Ok, Err}
use Rattle.std.specs.Borrow.{Bor}
use Rattle.s3r_jobs.specs.declared.any.AnyJob.{AnyJob}
use Rattle.s3r_jobs.specs.Any.{facts}
use Rattle.s3r_jobs.specs.Facts.{JobFacts}
use Rattle.s3r_history.specs.declared.refusal.Refusal.{Refusal}
use Rattle.s3r_history.specs.declared.refusal.Refusal.TheVariants as refusals
use Rattle.s3r_history.specs.BucketView.{BucketView}
use Rattle.s3r_region.specs.declared.bucket.Bucket.{Bucket}
use Rattle.s3r_region.specs.After.{told_by}
use Rattle.s3r_region.specs.declared.state.Deny.{Deny}
use Rattle.s3r_region.specs.declared.state.Deny.TheVariants.{Refused, OutOfMemory}

-- the answer tells this refusal, or that there is none; it never tells of want of memory
abbrev pub Accepts : {A : Type 0} → Option Refusal → Result A Deny → Type 0
Accepts cause (Ok x) = cause ≡ None
Accepts cause (Err (Refused refusal)) = cause ≡ Some refusal
Accepts cause (Err OutOfMemory) = ⊥

-- the bucket that is told of, or the refusal of one that isn't there
abbrev pub Gives : Option BucketView → Result (Bor Bucket) Deny → Type 0
Gives at (Ok bucket) = at ≡ Some (told_by bucket.now)
Gives at (Err (Refused refusal)) = (at ≡ None) × (refusal ≡ refusals.NoSuchBucket)
Gives at (Err OutOfMemory) = ⊥

-- the job that is there, or the refusal of one that isn't
abbrev pub GivesJob : Option JobFacts → Result (Bor AnyJob) Deny → Type 0
GivesJob found (Ok job) = found ≡ Some (facts job.now)
GivesJob found (Err (Refused refusal)) = (found ≡ None) × (refusal ≡ refusals.NoSuchJob)
GivesJob found (Err OutOfMemory) = ⊥
