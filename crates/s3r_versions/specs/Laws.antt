-- What is true of every list of rows.
use Rattle.std.specs.Prelude.{◌≡◌, ℕ, Bool, true, false, ◌||◌, ◌&&◌, ◌↔◌, if◌then◌else◌, List, [], ◌∷◌, Option, Some, None, is_some, option_map, MatchOption, IfSome, Contains, IsPermutation, filter, map}
use Rattle.std.specs.List.{list_any, list_all}
use Rattle.std.specs.Str.{bytes_eq}
use Rattle.s3r_names.specs.Stamp.{is_before}
use Rattle.s3r_names.specs.declared.stamp.Stamp.{Stamp}
use Rattle.s3r_names.specs.declared.tags.Tag.{Tag}
use Rattle.s3r_names.specs.declared.version.VersionId.{VersionId}
use Rattle.s3r_versions.specs.declared.row.Row.{Row}
use Rattle.s3r_versions.specs.Order.{comes_before, is_listed, is_later, is_id_before, is_rising}
use Rattle.s3r_versions.specs.Lookup.{id_eq, is_of_key, is_version, has_each_once, find_version, latest}
use Rattle.s3r_versions.specs.Contents.{with_row, without_version, if_version, on_version, with_tags, with_hold, KeepsPlace}
use Rattle.s3r_versions.specs.Removed.{was_removed, with_id, is_id_above, removed_after}

-- of two rows at most one comes before the other, and of three in a row the first before the third
abbrev pub IsStrict : Type 0 → Type 0
IsStrict B = ((a b : Row B) → comes_before a b ≡ true → comes_before b a ≡ false)
    × ((a b c : Row B) → comes_before a b ≡ true → comes_before b c ≡ true → comes_before a c ≡ true)

-- of two versions one comes before the other
abbrev pub RanksVersions : Type 0 → Type 0
RanksVersions B = (a b : Row B) → is_version a.key a.id b ≡ false → (comes_before a b || comes_before b a) ≡ true

-- the latest row stands there, is of the key, and no row of the key is later
abbrev pub LatestIsGreatest : Type 0 → Type 0
LatestIsGreatest B = (key : List ℕ) (rows : List (Row B)) → IfSome (latest key rows) (λ row. Contains rows row
    × (is_of_key key row ≡ true)
    × ((other : Row B) → Contains rows other → is_of_key key other ≡ true → is_later other row ≡ false))

-- a key has a latest row where it has a row
abbrev pub LatestIsThere : Type 0 → Type 0
LatestIsThere B = (key : List ℕ) (rows : List (Row B)) → is_listed rows ≡ true → is_some (latest key rows) ≡ list_any (is_of_key key) rows

-- rows stay listed where a version is added that isn't there
abbrev pub StaysListed : Type 0 → Type 0
StaysListed B = (row : Row B) (rows : List (Row B)) → is_listed rows ≡ true → find_version row.key row.id rows ≡ None → is_listed (with_row row rows) ≡ true

-- and no two are of one version then
abbrev pub StaysOnce : Type 0 → Type 0
StaysOnce B = (row : Row B) (rows : List (Row B)) → has_each_once rows ≡ true → find_version row.key row.id rows ≡ None
    → has_each_once (with_row row rows) ≡ true

-- there are the same rows and this one
abbrev pub AddsOne : Type 0 → Type 0
AddsOne B = (row : Row B) (rows : List (Row B)) → IsPermutation (row ∷ rows) (with_row row rows)

-- the row is found then, and each other version as before
abbrev pub FindsIt : Type 0 → Type 0
FindsIt B = (row : Row B) (rows : List (Row B)) → find_version row.key row.id rows ≡ None → find_version row.key row.id (with_row row rows) ≡ Some row

abbrev pub FindsOthers : Type 0 → Type 0
FindsOthers B = (row : Row B) (rows : List (Row B)) (key : List ℕ) (id : VersionId) → is_version key id row ≡ false
    → find_version key id (with_row row rows) ≡ find_version key id rows

-- ---- a version is removed

abbrev pub RemovalKeepsOrder : Type 0 → Type 0
RemovalKeepsOrder B = (key : List ℕ) (id : VersionId) (rows : List (Row B)) → (is_listed rows ≡ true → is_listed (without_version key id rows) ≡ true)
    × (has_each_once rows ≡ true → has_each_once (without_version key id rows) ≡ true)

-- it isn't found then, and each other version is as before
abbrev pub RemovalFinds : Type 0 → Type 0
RemovalFinds B = (key k : List ℕ) (id i : VersionId) (rows : List (Row B))
    → find_version k i (without_version key id rows) ≡ (if bytes_eq key k && id_eq id i then None else find_version k i rows)

-- no row is left where all were of the version
abbrev pub RemovalEmpties : Type 0 → Type 0
RemovalEmpties B = (key : List ℕ) (id : VersionId) (rows : List (Row B)) → (without_version key id rows ≡ []) ↔ (list_all (is_version key id) rows ≡ true)

-- ---- a version's tags or hold change

abbrev pub ChangeKeepsOrder : Type 0 → Type 0
ChangeKeepsOrder B = (key : List ℕ) (id : VersionId) (f : Row B → Row B) (rows : List (Row B)) → KeepsPlace f
    → (is_listed (on_version key id f rows) ≡ is_listed rows) × (has_each_once (on_version key id f rows) ≡ has_each_once rows)

-- each version is found as before, and this one changed
abbrev pub ChangeFinds : Type 0 → Type 0
ChangeFinds B = (key k : List ℕ) (id i : VersionId) (f : Row B → Row B) (rows : List (Row B)) → KeepsPlace f
    → find_version k i (on_version key id f rows) ≡ option_map (if_version key id f) (find_version k i rows)

abbrev pub WritesKeepPlaces : Type 0 → Type 0
WritesKeepPlaces B = (stamp : Stamp) → ((tags : List Tag) → KeepsPlace (with_tags {B = B} stamp tags))
    × ((hold : Bool) → KeepsPlace (with_hold {B = B} stamp hold))

-- of two writes the one of the greater stamp wins, whatever their order
abbrev pub GreaterTagsWin : Type 0 → Type 0
GreaterTagsWin B = (key : List ℕ) (id : VersionId) (s t : Stamp) (a b : List Tag) (rows : List (Row B)) → is_before s t ≡ true
    → (on_version key id (with_tags t b) (on_version key id (with_tags s a) rows) ≡ on_version key id (with_tags t b) rows)
    × (on_version key id (with_tags s a) (on_version key id (with_tags t b) rows) ≡ on_version key id (with_tags t b) rows)

abbrev pub GreaterHoldWins : Type 0 → Type 0
GreaterHoldWins B = (key : List ℕ) (id : VersionId) (s t : Stamp) (a b : Bool) (rows : List (Row B)) → is_before s t ≡ true
    → (on_version key id (with_hold t b) (on_version key id (with_hold s a) rows) ≡ on_version key id (with_hold t b) rows)
    × (on_version key id (with_hold s a) (on_version key id (with_hold t b) rows) ≡ on_version key id (with_hold t b) rows)

-- of two writes of one stamp the first stays
abbrev pub FirstTagsStay : Type 0 → Type 0
FirstTagsStay B = (key : List ℕ) (id : VersionId) (s : Stamp) (a b : List Tag) (rows : List (Row B))
    → on_version key id (with_tags s b) (on_version key id (with_tags s a) rows) ≡ on_version key id (with_tags s a) rows

abbrev pub FirstHoldStays : Type 0 → Type 0
FirstHoldStays B = (key : List ℕ) (id : VersionId) (s : Stamp) (a b : Bool) (rows : List (Row B))
    → on_version key id (with_hold s b) (on_version key id (with_hold s a) rows) ≡ on_version key id (with_hold s a) rows

-- ---- before or after

-- rows are changed before one is added, or after
abbrev pub AddingCommutesWithChange : Type 0 → Type 0 → Type 0
AddingCommutesWithChange A B = (f : Row A → Row B) (row : Row A) (rows : List (Row A)) → KeepsPlace f
    → map f (with_row row rows) ≡ with_row (f row) (map f rows)

-- rows are changed before a version is removed, or after
abbrev pub RemovalCommutesWithChange : Type 0 → Type 0 → Type 0
RemovalCommutesWithChange A B = (f : Row A → Row B) (key : List ℕ) (id : VersionId) (rows : List (Row A)) → KeepsPlace f
    → without_version key id (map f rows) ≡ map f (without_version key id rows)

-- rows are left out before one is added, or after
abbrev pub AddingCommutesWithChoice : Type 0 → Type 0
AddingCommutesWithChoice B = (p : Row B → Bool) (row : Row B) (rows : List (Row B)) → is_listed rows ≡ true
    → filter p (with_row row rows) ≡ (if p row then with_row row (filter p rows) else filter p rows)

-- ---- ids that were removed

-- the ids rise still
abbrev pub StaysRising : Type 0
StaysRising = (id : VersionId) (ids : List VersionId) → is_rising ids ≡ true → is_rising (with_id id ids) ≡ true

-- this id is among them then, and each other one as before
abbrev pub KeepsId : Type 0
KeepsId = (id other : VersionId) (ids : List VersionId) → was_removed other (with_id id ids) ≡ (id_eq id other || was_removed other ids)

-- an id that is among them isn't added
abbrev pub KeepsIdOnce : Type 0
KeepsIdOnce = (id : VersionId) (ids : List VersionId) → is_rising ids ≡ true → was_removed id ids ≡ true → with_id id ids ≡ ids

-- what is found is among them and above the id, and none above it is less; nothing is found where none is above
abbrev pub LeastIsFound : Type 0
LeastIsFound = (id : Option VersionId) (ids : List VersionId) → is_rising ids ≡ true
    → MatchOption (removed_after id ids)
    ((other : VersionId) → Contains ids other → is_id_above id other ≡ false)
    (λ found. Contains ids found × (is_id_above id found ≡ true) × ((other : VersionId) → Contains ids other → is_id_above id other ≡ true
    → is_id_before other found ≡ false))
