-- How far a version's replication is, in a word.
use Rattle.std.specs.Prelude.{ℕ, List, Option, Some, None, codes}
use Rattle.s3r_names.specs.declared.outcome.Status.{Status}
use Rattle.s3r_names.specs.declared.outcome.Status.TheVariants as status

-- a version of which nothing was to be copied has no word
abbrev pub status_word : Status → Option (List ℕ)
status_word status.NoTask = None
status_word status.Pending = Some (codes "PENDING")
status_word status.Completed = Some (codes "COMPLETED")
status_word status.Failed = Some (codes "FAILED")
status_word status.Replica = Some (codes "REPLICA")
