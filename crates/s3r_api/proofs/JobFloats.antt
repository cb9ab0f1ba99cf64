-- What a turn of a region's jobs came to has whole numbers alone.
use Rattle.std.proofs.Common.{◌≡◌, false, refl}
use Rattle.serde_json.specs.Written.{has_float}
use Rattle.s3r_desk.specs.declared.job_outcome.JobOutcome.{JobOutcome}
use Rattle.s3r_desk.specs.declared.job_outcome.JobOutcome.TheVariants as came
use Rattle.s3r_api.specs.JobAnswers.{step_data}

pub no_float : (outcome : JobOutcome) → has_float (step_data outcome) ≡ false
no_float came.Idle = refl
no_float (came.Moved id state) = refl
no_float (came.Lined id line) = refl
no_float (came.Ended id state) = refl
