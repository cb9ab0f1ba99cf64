-- What a region keeps.
use Rattle.std.specs.Prelude.{ℕ, Bool, not, ◌&&◌, List, Option, nat_lt, nat_le, map, is_none}
use Rattle.std.specs.List.{list_all}
use Rattle.std.specs.Str.{bytes_eq}
use Rattle.s3r_names.specs.declared.version.VersionId.{VersionId}
use Rattle.s3r_queue.specs.declared.inbox.Noted.{Noted}
use Rattle.s3r_queue.specs.declared.task.Task.{Task}
use Rattle.s3r_versions.specs.Lookup.{find_version}
use Rattle.s3r_history.specs.declared.sent.Prescribed.{Prescribed}
use Rattle.s3r_history.specs.Words.{Name}
use Rattle.s3r_history.specs.Past.{Entry}
use Rattle.s3r_history.specs.Judging.{is_ahead}
use Rattle.s3r_region.specs.declared.bucket.Bucket.{Bucket}
use Rattle.s3r_region.specs.KeptJobs.{KeptJobs}

pub record Contents : Type 0 where
  pub region : ℕ
  -- how many regions there are
  pub regions : ℕ
  -- how many commands the history has
  pub commands : ℕ
  pub clock : ℕ
  pub buckets : List Bucket
  -- the tasks to each region
  pub outbox : List (List (Task Prescribed))
  -- what was received last from each region
  pub inbox : List (Option Noted)
  pub jobs : KeptJobs

abbrev pub is_named : Name → Bucket → Bool
is_named name bucket = bytes_eq bucket.name name

abbrev pub names_of : List Bucket → List Name
names_of buckets = map (λ (bucket : Bucket). bucket.name) buckets

-- such an id a version may have
abbrev pub is_id : VersionId → Bool
is_id id = nat_le 1 id.index && (nat_le id.region 7 && nat_lt id.index 18446744073709551616)

abbrev pub have_ids : List Entry → Bool
have_ids rows = list_all (λ row. is_id row.id) rows

-- the row's id isn't of a later command of region r than the first n
abbrev pub is_given : ℕ → ℕ → Entry → Bool
is_given r n row = not (is_ahead r n row.id) && is_id row.id

abbrev pub are_given : ℕ → ℕ → List Bucket → Bool
are_given r n buckets = list_all (λ bucket. list_all (is_given r n) bucket.rows.rows) buckets

-- no bucket has the version
abbrev pub none_has : Name → VersionId → List Bucket → Bool
none_has key id buckets = list_all (λ (bucket : Bucket). is_none (find_version key id bucket.rows.rows)) buckets
