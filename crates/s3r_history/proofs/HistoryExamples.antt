-- A bucket, and a version that is put into it.
use Rattle.std.proofs.Common.{◌≡◌, ℕ, zero, suc, true, false, codes, List, [], ◌∷◌, Some, None, refl}
use Rattle.s3r_record.specs.declared.command.Command.{Command}
use Rattle.s3r_record.specs.declared.command.Command.TheVariants as command
use Rattle.s3r_history.specs.Words.{Name, History}
use Rattle.s3r_rules.specs.declared.rule.Rule.{Rule}
use Rattle.s3r_history.specs.Buckets.{bucket, configuration}
use Rattle.s3r_history.specs.Past.{Entry, clock}
use Rattle.s3r_history.specs.Deeds.{deeds}
use Rattle.s3r_names.specs.declared.stamp.Stamp.{Stamp}
use Rattle.s3r_names.specs.declared.tags.Tag.{Tag}
use Rattle.s3r_names.specs.declared.version.VersionId.{VersionId}
use Rattle.s3r_history.specs.Rows.{rows, latest, removed, greatest}
use Rattle.s3r_history.specs.Writes.{tags_written, hold_written}
use Rattle.s3r_history.specs.declared.refusal.Refusal.TheVariants as refusals
use Rattle.s3r_history.specs.Accepts.{refusal}

abbrev put : Name → List ℕ → Command
put key body = command.Put (codes "abc") key [] false (codes "STANDARD") body

abbrev one_put : History
one_put = put (codes "a") (codes "hi") ∷ command.CreateBucket (codes "abc") false ∷ []

abbrev entry : ℕ → ℕ → List ℕ → ℕ → Entry
entry n index body length = record {
  key = codes "a";
  id = record { region = 0; index = index };
  n = n;
  place = index;
  marker = false;
  body = body;
  length = length;
  class = codes "STANDARD";
  tags = [];
  tags_stamp = record { n = n; region = 0; index = index };
  hold = false;
  hold_stamp = record { n = n; region = 0; index = index };
  origin = None;
}

the_row : rows (deeds 0 one_put) (codes "abc") ≡ entry 1 2 (codes "hi") 2 ∷ []
the_row = refl

the_bucket : bucket one_put (codes "abc") ≡ Some (record { birth = 1; locked = false; enabled = true; config = None })
the_bucket = refl

no_other_bucket : bucket one_put (codes "abcd") ≡ None
no_other_bucket = refl

abbrev two_puts : History
two_puts = put (codes "a") (codes "new") ∷ one_put

both_rows : rows (deeds 0 two_puts) (codes "abc") ≡ entry 2 3 (codes "new") 3 ∷ entry 1 2 (codes "hi") 2 ∷ []
both_rows = refl

the_latest : latest (deeds 0 two_puts) (codes "abc") (codes "a") ≡ Some (entry 2 3 (codes "new") 3)
the_latest = refl

the_clock : clock (deeds 0 two_puts) ≡ 2
the_clock = refl

accepted : refusal 1 0 one_put (put (codes "a") (codes "new")) ≡ None
accepted = refl

twice : refusal 1 0 one_put (command.CreateBucket (codes "abc") true) ≡ Some refusals.BucketAlreadyExists
twice = refl

nowhere : refusal 1 0 [] (put (codes "a") (codes "hi")) ≡ Some refusals.NoSuchBucket
nowhere = refl

hold_without_lock : refusal 1 0 one_put (command.Put (codes "abc") (codes "a") [] true (codes "STANDARD") []) ≡ Some refusals.LockNeeded
hold_without_lock = refl

hold_with_lock : refusal 1 0 (command.CreateBucket (codes "abc") true ∷ []) (command.Put (codes "abc") (codes "a") [] true (codes "STANDARD") []) ≡ None
hold_with_lock = refl

-- so many buckets
abbrev creations : ℕ → History
creations zero = []
creations (suc n) = command.CreateBucket (n ∷ []) false ∷ creations n

one_more : refusal 1 0 (creations 99) (command.CreateBucket (codes "abc") false) ≡ None
one_more = refl

too_many : refusal 1 0 (creations 100) (command.CreateBucket (codes "abc") false) ≡ Some refusals.TooManyBuckets
too_many = refl

-- a marker, and the version before it
abbrev one_marker : History
one_marker = command.Marker (codes "abc") (codes "a") ∷ one_put

the_marker : latest (deeds 0 one_marker) (codes "abc") (codes "a") ≡ Some (record (entry 2 3 [] 0) { marker = true })
the_marker = refl

abbrev first_id : VersionId
first_id = record { region = 0; index = 2 }

abbrev remove : ℕ → Command
remove index = command.Remove (codes "abc") (codes "a") (record { region = 0; index = index })

removed_row : rows (deeds 0 (remove 2 ∷ one_marker)) (codes "abc") ≡ record (entry 2 3 [] 0) { marker = true } ∷ []
removed_row = refl

-- versions that are put, and those that are removed later, among others
removed_later : rows (deeds 0 (put (codes "a") (codes "new") ∷ remove 2 ∷ one_put)) (codes "abc") ≡ entry 2 4 (codes "new") 3 ∷ []
removed_later = refl

removed_ids : removed (deeds 0 (remove 2 ∷ remove 3 ∷ one_marker)) (codes "abc") ≡ first_id ∷ record { region = 0; index = 3 } ∷ []
removed_ids = refl

-- another life of the bucket has neither rows nor removed ids of the one before
abbrev born_again : History
born_again = command.CreateBucket (codes "abc") false ∷ command.DeleteBucket (codes "abc") ∷ remove 2 ∷ one_put

no_rows : rows (deeds 0 born_again) (codes "abc") ≡ []
no_rows = refl

none_removed : removed (deeds 0 born_again) (codes "abc") ≡ []
none_removed = refl

deleted : bucket (command.DeleteBucket (codes "abc") ∷ remove 2 ∷ one_put) (codes "abc") ≡ None
deleted = refl

not_deleted : refusal 1 0 one_put (command.DeleteBucket (codes "abc")) ≡ Some refusals.BucketNotEmpty
not_deleted = refl

the_birth : bucket born_again (codes "abc") ≡ Some (record { birth = 5; locked = false; enabled = true; config = None })
the_birth = refl

-- tags and hold are those of the greatest stamp
abbrev stamp : ℕ → ℕ → Stamp
stamp n index = record { n = n; region = 0; index = index }

abbrev tag : List ℕ → Tag
tag key = record { key = key; value = [] }

abbrev two_tags : History
two_tags = command.SetTags (codes "abc") (codes "a") first_id (tag (codes "y") ∷ []) ∷ command.SetTags (codes "abc") (codes "a") first_id
    (tag (codes "x") ∷ []) ∷ one_put

the_tags : latest (deeds 0 two_tags) (codes "abc") (codes "a") ≡ Some (record
    (entry 1 2 (codes "hi") 2) { tags = tag (codes "y") ∷ []; tags_stamp = record { n = 3; region = 0; index = 4 } })
the_tags = refl

-- all that was written of them: as they were put, and as they were set
all_tags : tags_written (deeds 0 two_tags) (codes "abc") (codes "a") first_id
    ≡ (stamp 3 4, tag (codes "y") ∷ []) ∷ (stamp 2 3, tag (codes "x") ∷ []) ∷ (stamp 1 2, []) ∷ []
all_tags = refl

tags_of_another : tags_written (deeds 0 two_tags) (codes "abc") (codes "a") (record { region = 1; index = 2 }) ≡ []
tags_of_another = refl

tags_of_a_marker : tags_written (deeds 0 one_marker) (codes "abc") (codes "a") (record { region = 0; index = 3 }) ≡ (stamp 2 3, []) ∷ []
tags_of_a_marker = refl

-- of two writes under one stamp the first stands
first_stands : greatest (stamp 2 3, true) ((stamp 1 2, true) ∷ (stamp 2 3, false) ∷ []) ≡ (stamp 2 3, true)
first_stands = refl

no_tags_of_a_marker : refusal 1 0 one_marker (command.SetTags (codes "abc") (codes "a") (record { region = 0; index = 3 }) []) ≡ Some refusals.MethodNotAllowed
no_tags_of_a_marker = refl

no_tags_of_none : refusal 1 0 one_marker (command.SetTags (codes "abc") (codes "a") (record { region = 1; index = 2 }) []) ≡ Some refusals.NoSuchVersion
no_tags_of_none = refl

-- versioning is switched off and on, and a bucket that is Suspended takes nothing new
abbrev suspended : History
suspended = command.SetVersioning (codes "abc") false ∷ one_put

no_put : refusal 1 0 suspended (put (codes "a") (codes "new")) ≡ Some refusals.InvalidBucketState
no_put = refl

no_marker : refusal 1 0 suspended (command.Marker (codes "abc") (codes "a")) ≡ Some refusals.InvalidBucketState
no_marker = refl

a_removal : refusal 1 0 suspended (remove 2) ≡ None
a_removal = refl

-- a configuration of one rule, to a bucket of region 1
abbrev one_rule : List Rule
one_rule = record {
  id = codes "rule-1";
  priority = 0;
  enabled = true;
  prefix = [];
  tags = [];
  markers = false;
  bucket = codes "dst";
  class =
      None;
  replica_modifications = false;
} ∷ []

abbrev replicate : Command
replicate = command.SetReplication (codes "abc") one_rule (1 ∷ [])

abbrev drop_it : Command
drop_it = command.DropReplication (codes "abc")

the_configuration : configuration (replicate ∷ one_put) (codes "abc") ≡ Some (record { config = one_rule; regions = 1 ∷ [] })
the_configuration = refl

another_configuration : configuration (command.SetReplication (codes "xyz") one_rule (1 ∷ []) ∷ one_put) (codes "abc") ≡ None
another_configuration = refl

dropped_configuration : configuration (drop_it ∷ replicate ∷ one_put) (codes "abc") ≡ None
dropped_configuration = refl

none_at_birth : configuration (command.CreateBucket (codes "abc") false ∷ command.DeleteBucket (codes "abc") ∷ replicate ∷ []) (codes "abc") ≡ None
none_at_birth = refl

configured : refusal 2 0 one_put replicate ≡ None
configured = refl

-- the region is looked at before the bucket
no_region : refusal 1 0 [] replicate ≡ Some (refusals.NoSuchRegion 1)
no_region = refl

none_configured : refusal 2 0 [] replicate ≡ Some refusals.NoSuchBucket
none_configured = refl

not_configured : refusal 2 0 suspended replicate ≡ Some refusals.InvalidBucketState
not_configured = refl

not_suspended : refusal 2 0 (replicate ∷ one_put) (command.SetVersioning (codes "abc") false) ≡ Some refusals.InvalidBucketState
not_suspended = refl

none_to_drop : refusal 2 0 one_put drop_it ≡ Some refusals.NoReplication
none_to_drop = refl

put_again : refusal 1 0 (command.SetVersioning (codes "abc") true ∷ suspended) (put (codes "a") (codes "new")) ≡ None
put_again = refl

-- Object Lock: a version under hold isn't removed until its hold is off
abbrev locked : History
locked = command.Put (codes "lkk") (codes "k") [] true (codes "STANDARD") [] ∷ command.CreateBucket (codes "lkk") true ∷ []

under_hold : refusal 1 0 locked (command.Remove (codes "lkk") (codes "k") first_id) ≡ Some refusals.AccessDenied
under_hold = refl

abbrev hold_off : History
hold_off = command.SetHold (codes "lkk") (codes "k") first_id false ∷ command.Marker (codes "lkk") (codes "k") ∷ locked

all_holds : hold_written (deeds 0 hold_off) (codes "lkk") (codes "k") first_id ≡ (stamp 3 4, false) ∷ (stamp 1 2, true) ∷ []
all_holds = refl

after_hold : refusal 1 0 hold_off (command.Remove (codes "lkk") (codes "k") first_id) ≡ None
after_hold = refl

stays_enabled : refusal 1 0 locked (command.SetVersioning (codes "lkk") false) ≡ Some refusals.InvalidBucketState
stays_enabled = refl

hold_needs_lock : refusal 1 0 one_put (command.SetHold (codes "abc") (codes "none") first_id true) ≡ Some refusals.LockNeeded
hold_needs_lock = refl
