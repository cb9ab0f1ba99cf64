-- What became of what region s, whose history is h, sent to region d, whose history is k.
use Rattle.std.specs.Prelude.{◌≡◌, ◌≤◌, ◌+◌, ◌-◌, ℕ, Bool, true, false, ◌∷◌, ◌++◌, Option, Some, None, is_some, slice_get, length}
use Rattle.std.specs.List.{list_any}
use Rattle.s3r_names.specs.declared.outcome.Outcome.{Outcome}
use Rattle.s3r_names.specs.declared.outcome.Outcome.TheVariants as outcomes
use Rattle.s3r_names.specs.declared.version.VersionId.{VersionId}
use Rattle.s3r_record.specs.declared.command.Command.TheVariants as command
use Rattle.s3r_versions.specs.Lookup.{find_version}
use Rattle.s3r_history.specs.Words.{Name, History}
use Rattle.s3r_history.specs.Past.{Entry, Carried, Added}
use Rattle.s3r_history.specs.Carried.{source_of, target_of, key_of, id_of, is_change}
use Rattle.s3r_history.specs.BucketView.{BucketView}
use Rattle.s3r_history.specs.Rows.{life, removes, at_present}
use Rattle.s3r_history.specs.Writes.{tags_written, hold_written, IsFirstGreatest}
use Rattle.s3r_history.specs.Deeds.{deeds, brought, judge}
use Rattle.s3r_history.specs.Told.{told}
use Rattle.s3r_history.specs.Placed.{prescribed}
use Rattle.s3r_history.specs.Tasks.{sent, settled_with, attempts}

-- the bucket of which this is told is there, and a version of it stands in its rows
abbrev pub has_version : Name → VersionId → Option BucketView → Bool
has_version key id None = false
has_version key id (Some at) = is_some (find_version key id at.rows)

-- The effect was received under this number, behind the commands `earlier` and before the commands `later`. It came to this, by
-- what its bucket was behind `earlier`.
pub record WasReceived (s d : ℕ) (k : History) (number : ℕ) (effect : Carried) (outcome : Outcome) : Type 0 where
  pub later : History
  pub earlier : History
  pub there : k ≡ later ++ command.Receive s number effect ∷ earlier
  pub came : judge d earlier effect ≡ outcome

-- what was sent under this number was received, and came to this
pub record CameOver (s d : ℕ) (h k : History) (number : ℕ) (outcome : Outcome) : Type 0 where
  pub effect : Carried
  pub prescribed_there : slice_get (prescribed (deeds s h) d) (number - 1) ≡ Some effect
  pub was_received : WasReceived s d k number effect outcome

abbrev pub was_removed_later : {s d : ℕ} {h k : History} {number : ℕ} {outcome : Outcome} → CameOver s d h k number outcome → Bool
was_removed_later came = list_any (removes (target_of came.effect) (key_of came.effect) (id_of came.effect)) came.was_received.later

-- A completed task was received and applied. Where it brought a version or a marker, that stands in its bucket, unless its id was
-- removed there after it arrived.
pub record HasArrived (s d : ℕ) (h k : History) (number : ℕ) : Type 0 where
  pub came : CameOver s d h k number outcomes.Applied
  pub stands : is_change came.effect ≡ false → was_removed_later came ≡ false
      → has_version (key_of came.effect) (id_of came.effect) (told d k (target_of came.effect)) ≡ true

-- a task was given up: it came to nothing that is known, and eight attempts were made for it
pub record WasGivenUp (h : History) (d number : ℕ) : Type 0 where
  pub unanswered : settled_with h d number ≡ None
  pub eight : attempts h d number ≡ 8

-- A row of bucket b at d, received from s. It was received under a number that s had given to just this effect, for this bucket and
-- from the bucket that the row names, and was applied. It is what the effect brought, with the tags and the hold that were first
-- written under the greatest stamp.
pub record WasPrescribed (s d : ℕ) (h k : History) (b : Name) (row : Entry) (from : Name) : Type 0 where
  pub number : ℕ
  pub above : 1 ≤ number
  pub to_sent : number ≤ sent (deeds s h) d
  pub came : CameOver s d h k number outcomes.Applied
  pub source : source_of came.effect ≡ from
  pub target : target_of came.effect ≡ b
  pub added : Added
  pub brings : brought (length came.was_received.earlier + 1) s came.effect ≡ Some added
  pub shown : row ≡ at_present (deeds d k) b added.row
  pub tags : IsFirstGreatest (tags_written (life b (deeds d k)) b row.key row.id) (row.tags_stamp, row.tags)
  pub hold : IsFirstGreatest (hold_written (life b (deeds d k)) b row.key row.id) (row.hold_stamp, row.hold)
