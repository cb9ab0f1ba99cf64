-- The laws of each command about tasks.
use Rattle.std.proofs.Common.{ℕ, List, [], ◌∷◌, refl, lit≤}
use Rattle.s3r_names.specs.declared.outcome.Outcome.{Outcome}
use Rattle.s3r_names.specs.declared.outcome.Outcome.TheVariants as outcomes
use Rattle.s3r_names.specs.declared.outcome.Reason.TheVariants as reasons
use Rattle.s3r_record.specs.declared.command.Command.TheVariants as command
use Rattle.s3r_record.specs.declared.effect.Effect.{Effect}
use Rattle.s3r_record.specs.Fields.{outcome_byte}
use Rattle.s3r_record.specs.Spelling.{spelling, IsCommand}
use Rattle.s3r_record.specs.TaskCommands.{outcome_of, outcome_at, receive_at, settle_at, attempt_at}
use Rattle.s3r_record.proofs.EffectLaws.{effect_law}
use Rattle.s3r_record.proofs.IdLaws.{region_law, index_law}
use Rattle.s3r_record.proofs.ReaderLaws.{Reads}
use Rattle.s3r_record.proofs.Ruled.{Ruled}
use Rattle.s3r_record.proofs.SeveralFields.{TakesBehind, ReadBehind, take_then, take_end, take_chosen, take_none, take_choice}
use Rattle.s3r_record.proofs.SeveralFields.{again_then, again_end, again_choice, reads}

-- ---- an outcome

abbrev spelled : Outcome → List ℕ
spelled outcome = outcome_byte outcome ∷ []

abbrev Any : Outcome → Type 0
Any outcome = Unit {0}

outcome_takes : (at byte : ℕ) → TakesBehind spelled Any (byte ∷ []) (outcome_of at byte)
unfolding outcome_of
outcome_takes at byte =
    take_chosen 0 byte (take_end outcomes.Applied tt) (
    take_chosen 1 byte (take_end (outcomes.Refused reasons.NoSuchDestination) tt) (
    take_chosen 2 byte (take_end (outcomes.Refused reasons.DestinationSuspended) tt) (
    take_chosen 3 byte (take_end (outcomes.Refused reasons.VersionRemoved) tt) (
    take_chosen 4 byte (take_end (outcomes.Refused reasons.NoSuchVersion) tt) (
    take_chosen 5 byte (take_end (outcomes.Refused reasons.DestinationNotLocked) tt) (
    take_none at))))))

outcome_again : (outcome : Outcome) → Any outcome → ReadBehind spelled [] outcome outcome_at
unfolding outcome_at outcome_of
outcome_again outcomes.Applied is = again_choice outcome_of 0 (lit≤ tt) (λ at u. refl) (again_end outcomes.Applied)
outcome_again (outcomes.Refused reasons.NoSuchDestination) is =
    again_choice outcome_of 1 (lit≤ tt) (λ at u. refl) (again_end (outcomes.Refused reasons.NoSuchDestination))
outcome_again (outcomes.Refused reasons.DestinationSuspended) is =
    again_choice outcome_of 2 (lit≤ tt) (λ at u. refl) (again_end (outcomes.Refused reasons.DestinationSuspended))
outcome_again (outcomes.Refused reasons.VersionRemoved) is =
    again_choice outcome_of 3 (lit≤ tt) (λ at u. refl) (again_end (outcomes.Refused reasons.VersionRemoved))
outcome_again (outcomes.Refused reasons.NoSuchVersion) is =
    again_choice outcome_of 4 (lit≤ tt) (λ at u. refl) (again_end (outcomes.Refused reasons.NoSuchVersion))
outcome_again (outcomes.Refused reasons.DestinationNotLocked) is =
    again_choice outcome_of 5 (lit≤ tt) (λ at u. refl) (again_end (outcomes.Refused reasons.DestinationNotLocked))

outcome_law : Reads outcome_at spelled Any
unfolding outcome_at
outcome_law = reads (take_choice outcome_of outcome_takes) outcome_again

-- ---- the commands

pub receive_takes : TakesBehind spelling Ruled (11 ∷ []) receive_at
unfolding receive_at
receive_takes =
    take_then _ region_law (λ from low. take_then _ index_law (λ n is. take_then _ effect_law (λ effect e.
    take_end (command.Receive from n effect) (record { region = low; above = is.0; below = is.1 }, e))))

pub receive_again : (from n : ℕ) (effect : Effect (List ℕ)) → IsCommand (command.Receive from n effect)
    → ReadBehind spelling (11 ∷ []) (command.Receive from n effect) receive_at
unfolding receive_at
receive_again from n effect fits =
    again_then _ region_law from fits.0.region (again_then _ index_law n (fits.0.above, fits.0.below)
    (again_then _ effect_law effect fits.1 (again_end (command.Receive from n effect))))

pub settle_takes : TakesBehind spelling Ruled (12 ∷ []) settle_at
unfolding settle_at
settle_takes =
    take_then _ region_law (λ to low. take_then _ index_law (λ n is. take_then _ outcome_law (λ outcome _.
    take_end (command.Settle to n outcome) (record { region = low; above = is.0; below = is.1 }))))

pub settle_again : (to n : ℕ) (outcome : Outcome) → IsCommand (command.Settle to n outcome)
    → ReadBehind spelling (12 ∷ []) (command.Settle to n outcome) settle_at
unfolding settle_at
settle_again to n outcome fits =
    again_then _ region_law to fits.region (again_then _ index_law n (fits.above, fits.below)
    (again_then _ outcome_law outcome tt (again_end (command.Settle to n outcome))))

pub attempt_takes : TakesBehind spelling Ruled (13 ∷ []) attempt_at
unfolding attempt_at
attempt_takes =
    take_then _ region_law (λ to low. take_then _ index_law (λ n is.
    take_end (command.Attempt to n) (record { region = low; above = is.0; below = is.1 })))

pub attempt_again : (to n : ℕ) → IsCommand (command.Attempt to n) → ReadBehind spelling (13 ∷ []) (command.Attempt to n) attempt_at
unfolding attempt_at
attempt_again to n fits =
    again_then _ region_law to fits.region (again_then _ index_law n (fits.above, fits.below) (again_end (command.Attempt to n)))
