-- Rows have ids that were given, so the next command's id is new.
use Rattle.std.proofs.Common.{◌≡◌, ℕ, ◌+◌, ◌≤◌, ◌<◌, Bool, true, false, cond, not, ◌==◌, List, [], ◌∷◌, ◌++◌, Option, Some, None, IsTrue, IfSome, is_none, option_copied, Bor, find, slice_index_or, refl, sym, ap, ◌∙◌, nat_lt, arith, lt-ltb, le-leb}
use Rattle.std.specs.List.{list_all}
use Rattle.std.proofs.lemmas.Bool.{and_parts, and_from, and_right, not-true}
use Rattle.std.proofs.lemmas.Bool.Decides.{nat_tests}
use Rattle.std.proofs.lemmas.Option.{same_Some}
use Rattle.s3r_names.specs.Stamp.{is_before}
use Rattle.s3r_names.specs.declared.stamp.Stamp.{Stamp}
use Rattle.s3r_names.specs.declared.tags.Tag.{Tag}
use Rattle.s3r_names.specs.declared.version.VersionId.{VersionId}
use Rattle.s3r_versions.specs.Lookup.{id_eq, is_of_key, is_version, find_version}
use Rattle.s3r_versions.specs.Contents.{with_row, on_version, if_version, with_tags, with_hold}
use Rattle.s3r_versions.proofs.Adding.{all-with_row}
use Rattle.s3r_history.specs.Words.{Name}
use Rattle.s3r_history.specs.Past.{Entry}
use Rattle.s3r_history.specs.Judging.{is_ahead}
use Rattle.s3r_history.proofs.Versions.{all-filter, ahead-less, id-same}
use Rattle.s3r_history.proofs.HistoryRows.{all-map}
use Rattle.s3r_history.proofs.LatestRows.{own_ahead}
use Rattle.s3r_region.specs.declared.bucket.Bucket.{Bucket}
use Rattle.s3r_region.specs.declared.change.Change.{Change}
use Rattle.s3r_region.specs.declared.change.Change.TheVariants as change
use Rattle.s3r_region.specs.Contents.{Contents, is_named, is_id, have_ids, is_given, are_given, none_has}
use Rattle.s3r_region.specs.Changes.{set_first, without_first, received, changed, new_bucket, IsNext, IsFree, IsFreeIn}
use Rattle.s3r_region.proofs.Places.{IsFirstAt, all-first, all-without_first}

given-more : (r n m : ℕ) (row : Entry) → n ≤ m → is_given r n row ≡ true → is_given r m row ≡ true
given-more r n m row le h =
    let parts = and_parts (not (is_ahead r n row.id)) (is_id row.id) h in
    and_from _ _ (ap not (ahead-less r n m row.id le (not-true _ parts.0))) parts.1

all-more : (r n m : ℕ) (rows : List Entry) → n ≤ m → list_all (is_given r n) rows ≡ true → list_all (is_given r m) rows ≡ true
all-more r n m [] le h = refl
all-more r n m (row ∷ rows) le h =
    let parts = and_parts (is_given r n row) (list_all (is_given r n) rows) h in
    and_from _ _ (given-more r n m row le parts.0) (all-more r n m rows le parts.1)

pub are-more : (r n m : ℕ) (bs : List Bucket) → n ≤ m → are_given r n bs ≡ true → are_given r m bs ≡ true
are-more r n m [] le h = refl
are-more r n m (b ∷ bs) le h =
    let parts = and_parts (list_all (is_given r n) b.rows.rows) (are_given r n bs) h in
    and_from _ _ (all-more r n m b.rows.rows le parts.0) (are-more r n m bs le parts.1)

-- ---- the next command's version is in no bucket

other_id : (r n : ℕ) (key : Name) (id : VersionId) (row : Entry) → is_ahead r n id ≡ true → is_given r n row ≡ true → is_version key id row ≡ false
other_id r n key id row ahead given = go (id_eq row.id id) refl
  where
    behind : is_ahead r n row.id ≡ false
    behind = not-true _ (and_parts (not (is_ahead r n row.id)) (is_id row.id) given).0

    go : (t : Bool) → id_eq row.id id ≡ t → is_version key id row ≡ false
    go true e = absurd (let both : is_ahead r n row.id ≡ true = id-same id row.id e r n ∙ ahead in cc)
    go false e = and_right (is_of_key key row) _ e

none_ahead : (r n : ℕ) (key : Name) (id : VersionId) (rows : List Entry) → is_ahead r n id ≡ true → list_all (is_given r n) rows ≡ true
    → find_version key id rows ≡ None
none_ahead r n key id [] ahead h = refl
none_ahead r n key id (row ∷ rows) ahead h =
    let parts = and_parts (is_given r n row) (list_all (is_given r n) rows) h in
    ap (λ t. cond t (Some row) (find_version key id rows)) (other_id r n key id row ahead parts.0) ∙ none_ahead r n key id rows ahead parts.1

none-has : (r n : ℕ) (key : Name) (id : VersionId) (bs : List Bucket) → is_ahead r n id ≡ true → are_given r n bs ≡ true → none_has key id bs ≡ true
none-has r n key id [] ahead h = refl
none-has r n key id (b ∷ bs) ahead h =
    let parts = and_parts (list_all (is_given r n) b.rows.rows) (are_given r n bs) h in
    and_from _ _ (ap is_none (none_ahead r n key id b.rows.rows ahead parts.0)) (none-has r n key id bs ahead parts.1)

pub is-free_in : (s : Contents) (c : Change) → IsNext s c → are_given s.region s.commands s.buckets ≡ true → IsFreeIn c s.buckets
is-free_in s (change.Add row) next given = none-has s.region s.commands row.key row.id s.buckets (own_ahead s.region s.commands row.id next.0 next.1) given
is-free_in s (change.Receive row) next given = tt
is-free_in s (change.Remove key id) next given = tt
is-free_in s (change.Tags key id tags stamp) next given = tt
is-free_in s (change.Hold key id hold stamp) next given = tt
is-free_in s (change.Versioning enabled) next given = tt
is-free_in s (change.Replication config) next given = tt

is-none : {X : Type 0} (o : Option X) → is_none o ≡ true → o ≡ None
is-none None e = refl
is-none (Some x) e = absurd cc

-- a row that is added is free in the bucket at the place
pub free_at : (c : Change) (p : Bucket → Bool) (bs : List Bucket) (i : ℕ) (b : Bucket) → b ≡ slice_index_or bs i b → IsFirstAt p i bs → IsFreeIn c bs
    → IsFree c b
free_at (change.Add row) p bs i b at first free =
    is-none _ (ap (λ (x : Bucket). is_none (find_version row.key row.id x.rows.rows)) at
    ∙ all-first p (λ (x : Bucket). is_none (find_version row.key row.id x.rows.rows)) bs i b first free)
free_at (change.Receive row) p bs i b at first free = tt
free_at (change.Remove key id) p bs i b at first free = tt
free_at (change.Tags key id tags stamp) p bs i b at first free = tt
free_at (change.Hold key id hold stamp) p bs i b at first free = tt
free_at (change.Versioning enabled) p bs i b at first free = tt
free_at (change.Replication config) p bs i b at first free = tt

-- ---- ids are given after one command more

kept_tags : (r n : ℕ) (key : Name) (id : VersionId) (stamp : Stamp) (tags : List Tag) (row : Entry)
    → is_given r n (if_version key id (with_tags stamp tags) row) ≡ is_given r n row
kept_tags r n key id stamp tags row = go (is_version key id row) (is_before row.tags_stamp stamp)
  where
    go : (t u : Bool) → is_given r n (cond t (cond u (record row { tags = tags; tags_stamp = stamp }) row) row) ≡ is_given r n row
    go true true = refl
    go true false = refl
    go false u = refl

kept_hold : (r n : ℕ) (key : Name) (id : VersionId) (stamp : Stamp) (hold : Bool) (row : Entry)
    → is_given r n (if_version key id (with_hold stamp hold) row) ≡ is_given r n row
kept_hold r n key id stamp hold row = go (is_version key id row) (is_before row.hold_stamp stamp)
  where
    go : (t u : Bool) → is_given r n (cond t (cond u (record row { hold = hold; hold_stamp = stamp }) row) row) ≡ is_given r n row
    go true true = refl
    go true false = refl
    go false u = refl

all-tags : (r n : ℕ) (key : Name) (id : VersionId) (stamp : Stamp) (tags : List Tag) (rows : List Entry)
    → list_all (is_given r n) (on_version key id (with_tags stamp tags) rows) ≡ list_all (is_given r n) rows
all-tags r n key id stamp tags rows = all-map (is_given r n) (if_version key id (with_tags stamp tags)) (kept_tags r n key id stamp tags) rows

all-hold : (r n : ℕ) (key : Name) (id : VersionId) (stamp : Stamp) (hold : Bool) (rows : List Entry)
    → list_all (is_given r n) (on_version key id (with_hold stamp hold) rows) ≡ list_all (is_given r n) rows
all-hold r n key id stamp hold rows = all-map (is_given r n) (if_version key id (with_hold stamp hold)) (kept_hold r n key id stamp hold) rows

-- a received row that was given goes to rows that were
all-received : (r n : ℕ) (row : Entry) (rows : List Entry) → is_given r n row ≡ true → list_all (is_given r n) rows ≡ true
    → list_all (is_given r n) (received row rows) ≡ true
all-received r n row rows given all = go (is_none (find_version row.key row.id rows)) row.marker
  where
    go : (t u : Bool) → list_all (is_given r n) (cond t (with_row row rows) (cond u rows (on_version row.key row.id (with_hold row.hold_stamp row.hold)
        (on_version row.key row.id (with_tags row.tags_stamp row.tags) rows)))) ≡ true
    go true u = all-with_row (is_given r n) row rows given all
    go false true = all
    go false false =
        all-hold r n row.key row.id row.hold_stamp row.hold (on_version row.key row.id (with_tags row.tags_stamp row.tags) rows)
        ∙ all-tags r n row.key row.id row.tags_stamp row.tags rows
        ∙ all

own_given : (r n : ℕ) (row : Entry) → r ≤ 7 → n + 1 < 18446744073709551616 → row.id.region ≡ r → row.id.index ≡ n + 1 → is_given r (n + 1) row ≡ true
own_given r n row low few region index = and_from _ _ (ap not last) (and_from _ _ (le-leb 1 row.id.index (omega (arith, index)))
    (and_from _ _ (le-leb row.id.region 7 (omega (arith, region))) (lt-ltb row.id.index 18446744073709551616 (omega (arith, index)))))
  where
    last : is_ahead r (n + 1) row.id ≡ false
    last = and_right (row.id.region == r) (nat_lt (n + 1) row.id.index) (grind (arith, index, nat_tests))

-- the rows of a bucket after the change
pub changed_given : (s : Contents) (c : Change) (b : Bucket) → s.region ≤ 7 → s.commands + 1 < 18446744073709551616 → IsNext s c
    → list_all (is_given s.region s.commands) b.rows.rows ≡ true → list_all (is_given s.region (s.commands + 1)) (changed c b).rows.rows ≡ true
changed_given s (change.Add row) b low few next all =
    all-with_row (is_given s.region (s.commands + 1)) row b.rows.rows (own_given s.region s.commands row low few next.0 next.1)
    (all-more s.region s.commands (s.commands + 1) b.rows.rows (omega arith) all)
changed_given s (change.Receive row) b low few next all =
    all-more s.region s.commands (s.commands + 1) (received row b.rows.rows) (omega arith) (all-received s.region s.commands row b.rows.rows next all)
changed_given s (change.Remove key id) b low few next all =
    all-filter (is_given s.region (s.commands + 1)) (λ (v : Entry). not (is_version key id v)) b.rows.rows
    (all-more s.region s.commands (s.commands + 1) b.rows.rows (omega arith) all)
changed_given s (change.Tags key id tags stamp) b low few next all =
    all-tags s.region (s.commands + 1) key id stamp tags b.rows.rows ∙ all-more s.region s.commands (s.commands + 1) b.rows.rows (omega arith) all
changed_given s (change.Hold key id hold stamp) b low few next all =
    all-hold s.region (s.commands + 1) key id stamp hold b.rows.rows ∙ all-more s.region s.commands (s.commands + 1) b.rows.rows (omega arith) all
changed_given s (change.Versioning enabled) b low few next all = all-more s.region s.commands (s.commands + 1) b.rows.rows (omega arith) all
changed_given s (change.Replication config) b low few next all = all-more s.region s.commands (s.commands + 1) b.rows.rows (omega arith) all

set-given : (s : Contents) (name : Name) (c : Change) (bs : List Bucket) → s.region ≤ 7 → s.commands + 1 < 18446744073709551616 → IsNext s c
    → are_given s.region s.commands bs ≡ true → are_given s.region (s.commands + 1) (set_first (is_named name) (changed c) bs) ≡ true
set-given s name c [] low few next all = refl
set-given s name c (x ∷ xs) low few next all = go (is_named name x) (set-given s name c xs low few next parts.1)
  where
    parts : (list_all (is_given s.region s.commands) x.rows.rows ≡ true) × (are_given s.region s.commands xs ≡ true)
    parts = and_parts (list_all (is_given s.region s.commands) x.rows.rows) (are_given s.region s.commands xs) all

    go : (t : Bool) → are_given s.region (s.commands + 1) (set_first (is_named name) (changed c) xs) ≡ true
        → are_given s.region (s.commands + 1) (cond t (changed c x ∷ xs) (x ∷ set_first (is_named name) (changed c) xs)) ≡ true
    go true ih = and_from _ _ (changed_given s c x low few next parts.0) (are-more s.region s.commands (s.commands + 1) xs (omega arith) parts.1)
    go false ih = and_from _ _ (all-more s.region s.commands (s.commands + 1) x.rows.rows (omega arith) parts.0) ih

-- one command more, which makes the change
pub given-changed : (s : Contents) (name : Name) (c : Change) → s.region ≤ 7 → s.commands + 1 < 18446744073709551616 → IsNext s c
    → are_given s.region s.commands s.buckets ≡ true → are_given s.region (s.commands + 1) (set_first (is_named name) (changed c) s.buckets) ≡ true
given-changed s name c low few next all = set-given s name c s.buckets low few next all

-- one bucket less
pub given-deleted : (r n : ℕ) (name : Name) (bs : List Bucket) → are_given r n bs ≡ true → are_given r (n + 1) (without_first (is_named name) bs) ≡ true
given-deleted r n name bs h =
    all-without_first (is_named name) (λ (b : Bucket). list_all (is_given r (n + 1)) b.rows.rows) bs (are-more r n (n + 1) bs (omega arith) h)

-- one bucket more
pub given-created : (r n : ℕ) (name : Name) (locked : Bool) (bs : List Bucket) → are_given r n bs ≡ true
    → are_given r (n + 1) (bs ++ new_bucket name locked ∷ []) ≡ true
given-created r n name locked [] h = refl
given-created r n name locked (b ∷ bs) h =
    let parts = and_parts (list_all (is_given r n) b.rows.rows) (are_given r n bs) h in
    and_from _ _ (all-more r n (n + 1) b.rows.rows (omega arith) parts.0) (given-created r n name locked bs parts.1)

-- ---- the rows of a bucket that is found have ids

rows-ids : (r n : ℕ) (rows : List Entry) → list_all (is_given r n) rows ≡ true → have_ids rows ≡ true
rows-ids r n [] all = refl
rows-ids r n (row ∷ rows) all =
    let parts = and_parts (is_given r n row) (list_all (is_given r n) rows) all in
    and_from _ _ (and_parts (not (is_ahead r n row.id)) (is_id row.id) parts.0).1 (rows-ids r n rows parts.1)

pub found-ids : (r n : ℕ) (name : Name) (bs : List Bucket) (b : Bucket) → are_given r n bs ≡ true → find (is_named name) bs ≡ Some b
    → have_ids b.rows.rows ≡ true
found-ids r n name [] b all is = absurd cc
found-ids r n name (x ∷ xs) b all is = go (is_named name x) is (found-ids r n name xs b parts.1)
  where
    parts : (list_all (is_given r n) x.rows.rows ≡ true) × (are_given r n xs ≡ true)
    parts = and_parts (list_all (is_given r n) x.rows.rows) (are_given r n xs) all

    go : (t : Bool) → cond t (Some x) (find (is_named name) xs) ≡ Some b → (find (is_named name) xs ≡ Some b → have_ids b.rows.rows ≡ true)
        → have_ids b.rows.rows ≡ true
    go true e ih = ap (λ (y : Bucket). have_ids y.rows.rows) (sym (same_Some x b e)) ∙ rows-ids r n x.rows.rows parts.0
    go false e ih = ih e

pub if_found_ids : (r n : ℕ) (name : Name) (bs : List Bucket) (o : Option (Bor Bucket)) → option_copied o ≡ find (is_named name) bs → are_given r n bs ≡ true
    → IfSome o (λ b. IsTrue (have_ids b.now.rows.rows))
if_found_ids r n name bs None is all = tt
if_found_ids r n name bs (Some b) is all = found-ids r n name bs b.now all (sym is)
