-- What a line does: nothing, or what a write of tags or of a hold does on a row that is there.
use Rattle.std.proofs.Common.{◌≡◌, ℕ, ◌-◌, Bool, true, false, cond, List, [], ◌∷◌, Option, Some, None, Result, Ok, Err, find, slice_get, not, refl, sym, ap, ◌∙◌, true≢false}
use Rattle.std.specs.Prelude.{option_map}
use Rattle.std.specs.List.{list_all}
use Rattle.std.specs.Option.{option_and_then}
use Rattle.std.proofs.lemmas.Bool.{and_parts, and_from}
use Rattle.s3r_names.specs.declared.tags.Tag.{Tag}
use Rattle.s3r_names.specs.declared.version.VersionId.{VersionId}
use Rattle.s3r_lines.specs.declared.object.ObjectRef.{ObjectRef}
use Rattle.s3r_jobs.specs.declared.result.Code.{Code}
use Rattle.s3r_jobs.specs.declared.result.Code.TheVariants as codes
use Rattle.s3r_jobs.specs.declared.spec.Operation.{Operation}
use Rattle.s3r_jobs.specs.declared.spec.Operation.TheVariants as operations
use Rattle.s3r_record.specs.declared.command.Command.{Command}
use Rattle.s3r_record.specs.declared.command.Command.TheVariants as command
use Rattle.s3r_versions.specs.Lookup.{id_eq, is_of_key, is_version, is_latest, find_version, latest}
use Rattle.s3r_versions.specs.Order.{is_listed}
use Rattle.s3r_versions.proofs.Latest.{first-is-latest}
use Rattle.s3r_versions.proofs.Versions.{id_is, id_itself}
use Rattle.s3r_history.specs.declared.refusal.Refusal.TheVariants as refusals
use Rattle.s3r_history.specs.declared.creation.Creation.{Creation}
use Rattle.s3r_history.specs.Words.{Name, History}
use Rattle.s3r_history.specs.Past.{Entry, Added}
use Rattle.s3r_history.specs.Buckets.{Bucket, bucket}
use Rattle.s3r_history.specs.Rows.{rows}
use Rattle.s3r_history.specs.BucketView.{BucketView, told_as}
use Rattle.s3r_history.specs.Told.{told}
use Rattle.s3r_history.specs.Jobs.{creation, since, lines_of}
use Rattle.s3r_history.specs.JobLines.{latest_object, object_of_id, object_named, on_object, carried_out, line_outcome, line_after, outcome_of_line, does_by, LineOutcome}
use Rattle.s3r_history.specs.Accepts.{first_of_causes, in_bucket, in_version, of_a_marker, of_tags, of_hold, refusal}
use Rattle.s3r_history.specs.Deeds.{deeds, deed}
use Rattle.s3r_history.proofs.HistoryRows.{rows_listed}

-- ---- what a search finds

pub find-passes : {X : Type 0} (p : X → Bool) (xs : List X) (x : X) → find p xs ≡ Some x → p x ≡ true
find-passes p [] x e = absurd cc
find-passes {X} p (y ∷ xs) x e = go (p y) refl e (find-passes p xs x)
  where
    go : (t : Bool) → p y ≡ t → cond t (Some y) (find p xs) ≡ Some x → (find p xs ≡ Some x → p x ≡ true) → p x ≡ true
    go true h e ih = let same : y ≡ x = cc in ap p (sym same) ∙ h
    go false h e ih = ih e

pub find-all : {X : Type 0} (p q : X → Bool) (xs : List X) (x : X) → list_all q xs ≡ true → find p xs ≡ Some x → q x ≡ true
find-all p q [] x all e = absurd cc
find-all {X} p q (y ∷ xs) x all e = go (p y) e (find-all p q xs x parts.1)
  where
    parts : (q y ≡ true) × (list_all q xs ≡ true)
    parts = and_parts (q y) (list_all q xs) all

    go : (t : Bool) → cond t (Some y) (find p xs) ≡ Some x → (find p xs ≡ Some x → q x ≡ true) → q x ≡ true
    go true e ih = let same : y ≡ x = cc in ap q (sym same) ∙ parts.0
    go false e ih = ih e

-- what is found by one test is the first to pass another that is narrower
pub find-narrower : {X : Type 0} (p q : X → Bool) (xs : List X) (x : X) → ((y : X) → q y ≡ true → p y ≡ true) → find p xs ≡ Some x → q x ≡ true
    → find q xs ≡ Some x
find-narrower p q [] x narrow e passes = absurd cc
find-narrower {X} p q (y ∷ xs) x narrow e passes = go (p y) (q y) refl refl e (find-narrower p q xs x narrow)
  where
    go : (t u : Bool) → p y ≡ t → q y ≡ u → cond t (Some y) (find p xs) ≡ Some x → (find p xs ≡ Some x → q x ≡ true → find q xs ≡ Some x)
        → cond u (Some y) (find q xs) ≡ Some x
    go true true is has e ih = e
    go true false is has e ih = let same : y ≡ x = cc in absurd (true≢false (sym passes ∙ ap q (sym same) ∙ has))
    go false true is has e ih = absurd (true≢false (sym (narrow y has) ∙ is))
    go false false is has e ih = ih e passes

-- ---- the row that a line names

-- the row is there, found by its key and id, and no marker
pub record IsThere (at : BucketView) (key : Name) (row : Entry) : Type 0 where
  pub found : find_version key row.id at.rows ≡ Some row
  pub object : row.marker ≡ false

of_key : (key : Name) (id : VersionId) (row : Entry) → is_version key id row ≡ true → is_of_key key row ≡ true
of_key key id row is = (and_parts (is_of_key key row) (id_eq row.id id) is).0

-- the latest of its key is found by its id
latest-found : (key : Name) (rows : List Entry) (row : Entry) → is_listed rows ≡ true → latest key rows ≡ Some row → find_version key row.id rows ≡ Some row
latest-found key rows row listed e =
    let passes = find-passes (is_latest key rows) rows row e in
    let of = (and_parts (is_of_key key row) _ passes).0 in
    find-narrower (is_of_key key) (is_version key row.id) rows row (of_key key row.id) (first-is-latest key rows listed ∙ e)
    (and_from _ _ of (id_itself row.id))

-- so is that of an id
version-found : (key : Name) (id : VersionId) (rows : List Entry) (row : Entry) → find_version key id rows ≡ Some row → find_version key row.id rows ≡ Some row
version-found key id rows row e =
    let passes = find-passes (is_version key id) rows row e in
    let same : row.id ≡ id = id_is row.id id (and_parts (is_of_key key row) _ passes).1 in
    ap (λ (i : VersionId). find_version key i rows) same ∙ e

named-there : (at : BucketView) (key : Name) (version : Option VersionId) (row : Entry) → is_listed at.rows ≡ true
    → object_named key version at.rows ≡ Ok row → IsThere at key row
named-there at key None row listed e = go (latest key at.rows) refl e
  where
    go : (o : Option Entry) → latest key at.rows ≡ o → latest_object o ≡ Ok row → IsThere at key row
    go None is e = absurd cc
    go (Some found) is e = marked found.marker refl e
      where
        marked : (t : Bool) → found.marker ≡ t → cond t (Err codes.NoSuchKey) (Ok found) ≡ Ok row → IsThere at key row
        marked true m e = absurd cc
        marked false m e =
            let same : found ≡ row = cc in
            record { found = latest-found key at.rows row listed (is ∙ ap Some same); object = ap (λ (r : Entry). r.marker) (sym same) ∙ m }
named-there at key (Some id) row listed e = go (find_version key id at.rows) refl e
  where
    go : (o : Option Entry) → find_version key id at.rows ≡ o → object_of_id o ≡ Ok row → IsThere at key row
    go None is e = absurd cc
    go (Some found) is e = marked found.marker refl e
      where
        marked : (t : Bool) → found.marker ≡ t → cond t (Err codes.MethodNotAllowed) (Ok found) ≡ Ok row → IsThere at key row
        marked true m e = absurd cc
        marked false m e =
            let same : found ≡ row = cc in
            record { found = version-found key id at.rows row (is ∙ ap Some same); object = ap (λ (r : Entry). r.marker) (sym same) ∙ m }

-- what is told of a bucket has its rows
pub told-rows : (r : ℕ) (h : History) (b : Name) (at : BucketView) → told r h b ≡ Some at → at.rows ≡ rows (deeds r h) b
told-rows r h b at is = go (bucket h b) is
  where
    go : (o : Option Bucket) → option_map (told_as (deeds r h) b) o ≡ Some at → at.rows ≡ rows (deeds r h) b
    go None is = absurd cc
    go (Some x) is = let same : told_as (deeds r h) b x ≡ at = cc in sym (ap (λ (t : BucketView). t.rows) same)

-- ---- by what it may do

-- what is true of writes of tags and of holds on rows that are there
pub record OfWrites (r : ℕ) (h : History) (P : Command → Type 0) : Type 0 where
  pub tags : (name key : Name) (row : Entry) (tags : List Tag) (at : BucketView) → told r h name ≡ Some at → IsThere at key row
      → P (command.SetTags name key row.id tags)
  pub hold : (name key : Name) (row : Entry) (hold : Bool) (at : BucketView) → told r h name ≡ Some at → IsThere at key row → at.locked ≡ true
      → P (command.SetHold name key row.id hold)

-- What is true of a line that writes, of one that failed, and of one that waits, is true of each.
pub what_a_line_comes_to : (r : ℕ) (h : History) (job line : ℕ) (Q : LineOutcome → Type 0) → OfWrites r h (λ (c : Command). Q (Some (Ok c)))
    → ((code : Code) → Q (Some (Err code))) → Q None → Q (outcome_of_line h (deeds r h) (command.Line job line))
what_a_line_comes_to r h job line Q writes fails waits = by_creation (creation (deeds r h) job)
  where
    by_operation : (operation : Operation) (object : ObjectRef) (at : BucketView) (row : Entry) → told r h object.bucket ≡ Some at
        → IsThere at object.key row → Q (carried_out operation object at row)
    by_operation (operations.Copy target prefix) object at row is there = waits
    by_operation (operations.Tagging tags) object at row is there = writes.tags object.bucket object.key row tags at is there
    by_operation (operations.Hold hold) object at row is there = by_lock at.locked refl
      where
        by_lock : (t : Bool) → at.locked ≡ t → Q (Some (cond t (Ok (command.SetHold object.bucket object.key row.id hold)) (Err codes.LockNeeded)))
        by_lock true locked = writes.hold object.bucket object.key row hold at is there locked
        by_lock false locked = fails codes.LockNeeded
    by_operation operations.Replicate object at row is there = waits

    by_object : (operation : Operation) (object : ObjectRef) (at : BucketView) (found : Result Entry Code) → told r h object.bucket ≡ Some at
        → object_named object.key object.version at.rows ≡ found → Q (on_object operation object at found)
    by_object operation object at (Err code) is e = fails code
    by_object operation object at (Ok row) is e =
        let listed : is_listed at.rows ≡ true = ap is_listed (told-rows r h object.bucket at is) ∙ rows_listed r h object.bucket in
        by_operation operation object at row is (named-there at object.key object.version row listed e)

    by_bucket : (operation : Operation) (object : ObjectRef) (o : Option BucketView) → told r h object.bucket ≡ o → Q (line_outcome operation object o)
    by_bucket operation object None is = fails codes.NoSuchBucket
    by_bucket operation object (Some at) is = by_object operation object at (object_named object.key object.version at.rows) is refl

    by_line : (c : Creation) (o : Option ObjectRef) → Q (option_and_then
        (λ (object : ObjectRef). line_outcome c.spec.operation object (told r h object.bucket)) o)
    by_line c None = waits
    by_line c (Some object) = by_bucket c.spec.operation object (told r h object.bucket) refl

    by_creation : (o : Option Creation) → Q (option_and_then (line_after h (deeds r h) line) o)
    by_creation None = waits
    by_creation (Some c) = by_line c (slice_get (lines_of (since (deeds r h) c.id) c) (line - 1))

-- What is true of these, and of a line, is true of what a line does.
pub what_a_line_does : (r : ℕ) (h : History) (P : Command → Type 0) (job line : ℕ) → OfWrites r h P → P (command.Line job line)
    → P (deed r h (deeds r h) (command.Line job line)).does
what_a_line_does r h P job line writes itself =
    what_a_line_comes_to r h job line (λ (o : LineOutcome). P (does_by (command.Line job line) o)) writes (λ code. itself) itself

-- what a line does is accepted as a command
abbrev pub IsAcceptedThere : (n r : ℕ) → History → LineOutcome → Type 0
IsAcceptedThere n r h None = Unit {0}
IsAcceptedThere n r h (Some (Ok c)) = refusal n r h c ≡ None
IsAcceptedThere n r h (Some (Err code)) = Unit {0}

accepted-tags : (n r : ℕ) (h : History) (name key : Name) (row : Entry) (tags : List Tag) (at : BucketView) → told r h name ≡ Some at
    → IsThere at key row → refusal n r h (command.SetTags name key row.id tags) ≡ None
accepted-tags n r h name key row tags at is there =
    ap (λ (o : Option BucketView). first_of_causes (in_bucket (of_tags key row.id) o)) is
    ∙ ap (λ (o : Option Entry). first_of_causes (in_version of_a_marker o)) there.found
    ∙ ap (λ t. cond t (Some refusals.MethodNotAllowed) None) there.object

accepted-hold : (n r : ℕ) (h : History) (name key : Name) (row : Entry) (hold : Bool) (at : BucketView) → told r h name ≡ Some at
    → IsThere at key row → at.locked ≡ true → refusal n r h (command.SetHold name key row.id hold) ≡ None
accepted-hold n r h name key row hold at is there locked =
    ap (λ (o : Option BucketView). first_of_causes (in_bucket (of_hold key row.id) o)) is
    ∙ ap (λ t. cond (not t) (Some refusals.LockNeeded) (first_of_causes (in_version of_a_marker (find_version key row.id at.rows)))) locked
    ∙ ap (λ (o : Option Entry). first_of_causes (in_version of_a_marker o)) there.found
    ∙ ap (λ t. cond t (Some refusals.MethodNotAllowed) None) there.object

pub what_a_line_does_is_accepted : (n r : ℕ) (h : History) (job line : ℕ) → IsAcceptedThere n r h (outcome_of_line h (deeds r h) (command.Line job line))
what_a_line_does_is_accepted n r h job line =
    what_a_line_comes_to r h job line (IsAcceptedThere n r h)
    (record {
      tags = λ name key row tags at is there. accepted-tags n r h name key row tags at is there;
      hold = λ name key row hold at is there locked. accepted-hold n r h name key row hold at is there locked;
    }) (λ code. tt) tt

-- What is true of these, and of a command, is true of what it does.
pub what_it_does : (r : ℕ) (h : History) (P : Command → Type 0) → OfWrites r h P → (c : Command) → P c → P (deed r h (deeds r h) c).does
what_it_does r h P writes (command.CreateBucket name locked) itself = itself
what_it_does r h P writes (command.DeleteBucket name) itself = itself
what_it_does r h P writes (command.SetVersioning name enabled) itself = itself
what_it_does r h P writes (command.SetReplication name config regions) itself = itself
what_it_does r h P writes (command.DropReplication name) itself = itself
what_it_does r h P writes (command.Put bucket key tags hold class body) itself = itself
what_it_does r h P writes (command.Marker bucket key) itself = itself
what_it_does r h P writes (command.Remove bucket key id) itself = itself
what_it_does r h P writes (command.SetTags bucket key id tags) itself = itself
what_it_does r h P writes (command.SetHold bucket key id hold) itself = itself
what_it_does r h P writes (command.Receive from number effect) itself = itself
what_it_does r h P writes (command.Settle to number outcome) itself = itself
what_it_does r h P writes (command.Attempt to number) itself = itself
what_it_does r h P writes (command.CreateJob spec manifest) itself = itself
what_it_does r h P writes (command.MoveJob job state) itself = itself
what_it_does r h P writes (command.SetPriority job priority) itself = itself
what_it_does r h P writes (command.Prepare job) itself = itself
what_it_does r h P writes (command.Finish job body) itself = itself
what_it_does r h P writes (command.Line job line) itself = what_a_line_does r h P job line writes itself

-- what adds a version is what it says
pub adds-does : (r : ℕ) (h : History) (c : Command) (a : Added) → (deed r h (deeds r h) c).adds ≡ Some a → (deed r h (deeds r h) c).does ≡ c
adds-does r h (command.CreateBucket name locked) a is = refl
adds-does r h (command.DeleteBucket name) a is = refl
adds-does r h (command.SetVersioning name enabled) a is = refl
adds-does r h (command.SetReplication name config regions) a is = refl
adds-does r h (command.DropReplication name) a is = refl
adds-does r h (command.Put bucket key tags hold class body) a is = refl
adds-does r h (command.Marker bucket key) a is = refl
adds-does r h (command.Remove bucket key id) a is = refl
adds-does r h (command.SetTags bucket key id tags) a is = refl
adds-does r h (command.SetHold bucket key id hold) a is = refl
adds-does r h (command.Receive from number effect) a is = refl
adds-does r h (command.Settle to number outcome) a is = refl
adds-does r h (command.Attempt to number) a is = refl
adds-does r h (command.CreateJob spec manifest) a is = refl
adds-does r h (command.MoveJob job state) a is = refl
adds-does r h (command.SetPriority job priority) a is = refl
adds-does r h (command.Prepare job) a is = refl
adds-does r h (command.Finish job body) a is = refl
adds-does r h (command.Line job line) a is = absurd cc
