-- What an effect comes to at its destination.
use Rattle.std.specs.Prelude.{ℕ, Bool, not, ◌==◌, ◌&&◌, ◌||◌, nat_lt, is_none, List, [], ◌∷◌, Option, Some, None, if◌then◌else◌, length}
use Rattle.s3r_names.specs.declared.version.VersionId.{VersionId}
use Rattle.s3r_names.specs.declared.outcome.Outcome.{Outcome}
use Rattle.s3r_names.specs.declared.outcome.Outcome.TheVariants as outcomes
use Rattle.s3r_names.specs.declared.outcome.Reason.{Reason}
use Rattle.s3r_names.specs.declared.outcome.Reason.TheVariants as reasons
use Rattle.s3r_versions.specs.Lookup.{find_version}
use Rattle.s3r_versions.specs.Removed.{was_removed}
use Rattle.s3r_history.specs.Words.{History}
use Rattle.s3r_history.specs.Past.{Carried, Past}
use Rattle.s3r_history.specs.Carried.{target_of, key_of, id_of, is_change, has_hold}
use Rattle.s3r_history.specs.BucketView.{BucketView, told_by}

-- the first reason whose condition holds
abbrev pub first_of_reasons : List (Bool × Reason) → Outcome
first_of_reasons [] = outcomes.Applied
first_of_reasons (r ∷ rs) = if r.0 then outcomes.Refused r.1 else first_of_reasons rs

-- an id of region r that its first n commands didn't give
abbrev pub is_ahead : ℕ → ℕ → VersionId → Bool
is_ahead r n id = (id.region == r) && nat_lt n id.index

-- why a bucket of region r doesn't take an effect, in order, after n commands
abbrev pub reasons_at : ℕ → ℕ → Carried → BucketView → List (Bool × Reason)
reasons_at r n e at =
    (not at.enabled, reasons.DestinationSuspended)
    ∷ (was_removed (id_of e) at.removed || is_ahead r n (id_of e), reasons.VersionRemoved)
    ∷ (is_change e && is_none (find_version (key_of e) (id_of e) at.rows), reasons.NoSuchVersion)
    ∷ (has_hold e && not at.locked, reasons.DestinationNotLocked)
    ∷ []

-- what it comes to at its bucket, of which this is told
abbrev pub judged : ℕ → ℕ → Carried → Option BucketView → Outcome
judged r n e None = outcomes.Refused reasons.NoSuchDestination
judged r n e (Some at) = first_of_reasons (reasons_at r n e at)

-- what it comes to at region r after the commands h, which did this
abbrev pub judge_by : ℕ → History → Past → Carried → Outcome
judge_by r h past e = judged r (length h) e (told_by h past (target_of e))
