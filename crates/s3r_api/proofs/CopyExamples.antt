-- The texts of what some turns of the copier came to.
use Rattle.std.proofs.Common.{◌≡◌, codes, refl}
use Rattle.std.specs.Fmt.{digits}
use Rattle.serde_json.specs.Written.{compact_text}
use Rattle.serde_json.proofs.OnLiterals.{serde_json_on_literals}
use Rattle.s3r_names.specs.declared.outcome.Reason.TheVariants as reason
use Rattle.s3r_names.specs.declared.outcome.Outcome.TheVariants as outcome
use Rattle.s3r_desk.specs.declared.copy_outcome.CopyOutcome.TheVariants as copied
use Rattle.s3r_api.specs.Copying.{copy_data}

idle : compact_text (copy_data copied.Idle) ≡ codes "{\"Copy\":\"Idle\"}"
unfolding serde_json_on_literals
idle = refl

applied : compact_text (copy_data (copied.Settled 1 outcome.Applied)) ≡ codes "{\"Copy\":\"Applied\",\"Number\":1}"
unfolding digits serde_json_on_literals
applied = refl

refused : compact_text (copy_data (copied.Settled 2 (outcome.Refused reason.DestinationSuspended)))
    ≡ codes "{\"Copy\":\"Refused\",\"Number\":2,\"Reason\":\"DestinationSuspended\"}"
unfolding digits serde_json_on_literals
refused = refl

retried : compact_text (copy_data (copied.Retried 1 7)) ≡ codes "{\"Attempts\":7,\"Copy\":\"Retried\",\"Number\":1}"
unfolding digits serde_json_on_literals
retried = refl

given_up : compact_text (copy_data (copied.GaveUp 1)) ≡ codes "{\"Attempts\":8,\"Copy\":\"GaveUp\",\"Number\":1}"
unfolding digits serde_json_on_literals
given_up = refl
