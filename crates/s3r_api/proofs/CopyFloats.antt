-- What a turn of the copier came to has whole numbers alone.
use Rattle.std.proofs.Common.{◌≡◌, false, refl}
use Rattle.serde_json.specs.Written.{has_float}
use Rattle.s3r_names.specs.declared.outcome.Outcome.TheVariants as outcome
use Rattle.s3r_desk.specs.declared.copy_outcome.CopyOutcome.{CopyOutcome}
use Rattle.s3r_desk.specs.declared.copy_outcome.CopyOutcome.TheVariants as copied
use Rattle.s3r_api.specs.Copying.{copy_data}

pub no_float : (came : CopyOutcome) → has_float (copy_data came) ≡ false
no_float copied.Idle = refl
no_float (copied.Settled n outcome.Applied) = refl
no_float (copied.Settled n (outcome.Refused why)) = refl
no_float (copied.Retried n attempts) = refl
no_float (copied.GaveUp n) = refl
