-- What commands did.
use Rattle.std.specs.Prelude.{ℕ, max, List, [], ◌∷◌, Option, Result}
use Rattle.s3r_names.specs.declared.outcome.Outcome.{Outcome}
use Rattle.s3r_names.specs.declared.stamp.Stamp.{Stamp}
use Rattle.s3r_lines.specs.declared.object.ObjectRef.{ObjectRef}
use Rattle.s3r_jobs.specs.declared.result.FailureReason.{FailureReason}
use Rattle.s3r_jobs.specs.declared.result.LineResult.{LineResult}
use Rattle.s3r_versions.specs.declared.row.Row.{Row}
use Rattle.s3r_record.specs.declared.command.Command.{Command}
use Rattle.s3r_record.specs.declared.command.Command.TheVariants as command
use Rattle.s3r_record.specs.declared.effect.Effect.{Effect}
use Rattle.s3r_record.specs.declared.effect.Effect.TheVariants as effects
use Rattle.s3r_history.specs.declared.sent.Sent.{Sent}
use Rattle.s3r_history.specs.Words.{Name}

-- a row as it stands in the definitions, with its body's bytes
abbrev pub Entry : Type 0
Entry = Row (List ℕ)

-- an effect with its body's bytes
abbrev pub Carried : Type 0
Carried = Effect (List ℕ)

-- a row as a command added it, and the bucket that it was added to
pub record Added : Type 0 where
  pub bucket : Name
  pub row : Entry

-- a manifest as a job read it: its lines, or why it has none
abbrev pub ReadLines : Type 0
ReadLines = Result (List ObjectRef) FailureReason

-- What a command did: the command that does the same, which is itself but for a line that succeeds, its stamp where it writes,
-- what its effect came to where it received one (of another command Applied), what it added, what it prescribed, the manifest that
-- it read, and the result of the line that it did. Each is decided by the deeds before it.
pub record Deed : Type 0 where
  pub command : Command
  pub does : Command
  pub stamp : Stamp
  pub outcome : Outcome
  pub adds : Option Added
  pub sends : List Sent
  pub read : Option ReadLines
  pub result : Option LineResult

-- what the commands of a history did, the newest first
abbrev pub Past : Type 0
Past = List Deed

-- the greatest n that an effect carries
abbrev pub carried_n : Carried → ℕ
carried_n (effects.Replica from to key id n tags tags_stamp hold hold_stamp class body) = max n (max tags_stamp.n hold_stamp.n)
carried_n (effects.Marker from to key id n) = n
carried_n (effects.Tags from to key id tags stamp) = stamp.n
carried_n (effects.Hold from to key id hold stamp) = stamp.n

-- The greatest n that a command has or carries: that of its stamp where it writes under one, and what a received effect
-- carries, also where it was refused.
abbrev pub n_of : Command → Stamp → ℕ
n_of (command.CreateBucket name locked) stamp = 0
n_of (command.DeleteBucket name) stamp = 0
n_of (command.SetVersioning name enabled) stamp = 0
n_of (command.SetReplication name config regions) stamp = 0
n_of (command.DropReplication name) stamp = 0
n_of (command.Put bucket key tags hold class body) stamp = stamp.n
n_of (command.Marker bucket key) stamp = stamp.n
n_of (command.Remove bucket key id) stamp = 0
n_of (command.SetTags bucket key id tags) stamp = stamp.n
n_of (command.SetHold bucket key id hold) stamp = stamp.n
n_of (command.Receive from number effect) stamp = carried_n effect
n_of (command.Settle to number outcome) stamp = 0
n_of (command.Attempt to number) stamp = 0
n_of (command.CreateJob spec manifest) stamp = 0
n_of (command.MoveJob job state) stamp = 0
n_of (command.SetPriority job priority) stamp = 0
n_of (command.Prepare job) stamp = 0
n_of (command.Line job line) stamp = 0
n_of (command.Finish job body) stamp = 0

-- the greatest n that the commands have or carry, 0 where there are none
abbrev pub clock : Past → ℕ
clock [] = 0
clock (d ∷ past) = max (n_of d.does d.stamp) (clock past)
