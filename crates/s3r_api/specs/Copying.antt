-- The JSON of what a turn of the copier came to.
use Rattle.std.specs.Prelude.{ℕ, List, codes}
use Rattle.serde_json.specs.Data.{Data, Members, no_members, member, string, number, unsigned, object}
use Rattle.s3r_names.specs.declared.outcome.Reason.{Reason}
use Rattle.s3r_names.specs.declared.outcome.Reason.TheVariants as reason
use Rattle.s3r_names.specs.declared.outcome.Outcome.TheVariants as outcome
use Rattle.s3r_desk.specs.declared.copy_outcome.CopyOutcome.{CopyOutcome}
use Rattle.s3r_desk.specs.declared.copy_outcome.CopyOutcome.TheVariants as copied

-- why an effect wrote nothing at its destination
abbrev pub reason_word : Reason → List ℕ
reason_word reason.NoSuchDestination = codes "NoSuchDestination"
reason_word reason.DestinationSuspended = codes "DestinationSuspended"
reason_word reason.VersionRemoved = codes "VersionRemoved"
reason_word reason.NoSuchVersion = codes "NoSuchVersion"
reason_word reason.DestinationNotLocked = codes "DestinationNotLocked"

-- what became of a task, in a word, and these members behind it
abbrev pub word_members : List ℕ → Members → Members
word_members word others = member (codes "Copy") (string word) others

-- the number of the task, before other members
abbrev pub number_members : ℕ → Members → Members
number_members n others = member (codes "Number") (number (unsigned n)) others

-- a task whose receiver failed, after so many attempts
abbrev pub missed_data : List ℕ → ℕ → ℕ → Data
missed_data word n attempts = object (member (codes "Attempts") (number (unsigned attempts)) (word_members word (number_members n no_members)))

-- A task is given up after eight attempts.
abbrev pub copy_data : CopyOutcome → Data
copy_data copied.Idle = object (word_members (codes "Idle") no_members)
copy_data (copied.Settled n outcome.Applied) = object (word_members (codes "Applied") (number_members n no_members))
copy_data (copied.Settled n (outcome.Refused why)) =
    object (word_members (codes "Refused") (number_members n (member (codes "Reason") (string (reason_word why)) no_members)))
copy_data (copied.Retried n attempts) = missed_data (codes "Retried") n attempts
copy_data (copied.GaveUp n) = missed_data (codes "GaveUp") n 8
