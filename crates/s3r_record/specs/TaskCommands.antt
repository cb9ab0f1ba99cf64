-- Reading the fields of the commands about tasks.
use Rattle.std.specs.Prelude.{ℕ, Result, Ok, Err, ◌==◌, if◌then◌else◌}
use Rattle.s3r_names.specs.declared.outcome.Outcome.{Outcome}
use Rattle.s3r_names.specs.declared.outcome.Outcome.TheVariants as outcomes
use Rattle.s3r_names.specs.declared.outcome.Reason.TheVariants as reasons
use Rattle.s3r_record.specs.declared.command.Command.{Command}
use Rattle.s3r_record.specs.declared.command.Command.TheVariants as command
use Rattle.s3r_record.specs.Reading.{◌>>=◌, Unread, place, byte_at}
use Rattle.s3r_record.specs.ReadingIds.{region_at, index_at}
use Rattle.s3r_record.specs.ReadingEffects.{effect_at}

-- what the byte at that place says, and what is left behind it
unfoldable pub outcome_of : ℕ → ℕ → Unread → Result (Outcome × Unread) ℕ
outcome_of at byte left =
    if byte == 0 then Ok (outcomes.Applied, left) else (
    if byte == 1 then Ok (outcomes.Refused reasons.NoSuchDestination, left) else (
    if byte == 2 then Ok (outcomes.Refused reasons.DestinationSuspended, left) else (
    if byte == 3 then Ok (outcomes.Refused reasons.VersionRemoved, left) else (
    if byte == 4 then Ok (outcomes.Refused reasons.NoSuchVersion, left) else (
    if byte == 5 then Ok (outcomes.Refused reasons.DestinationNotLocked, left) else (
    Err at))))))

unfoldable pub outcome_at : Unread → Result (Outcome × Unread) ℕ
outcome_at left = do
  byte ← byte_at 255 left
  outcome_of (place left) byte.0 byte.1

unfoldable pub receive_at : Unread → Result (Command × Unread) ℕ
receive_at fields = do
  from ← region_at fields
  number ← index_at from.1
  effect ← effect_at number.1
  Ok (command.Receive from.0 number.0 effect.0, effect.1)

unfoldable pub settle_at : Unread → Result (Command × Unread) ℕ
settle_at fields = do
  to ← region_at fields
  number ← index_at to.1
  outcome ← outcome_at number.1
  Ok (command.Settle to.0 number.0 outcome.0, outcome.1)

unfoldable pub attempt_at : Unread → Result (Command × Unread) ℕ
attempt_at fields = do
  to ← region_at fields
  number ← index_at to.1
  Ok (command.Attempt to.0 number.0, number.1)
