-- A bucket's rows, page by page.
use Rattle.std.specs.Prelude.{ℕ, Bool, true, ◌&&◌, nat_eq, nat_lt, List, Option, Some, None, length, map, filter, take}
use Rattle.std.specs.List.{list_any, starts_with}
use Rattle.std.specs.Ordering.{nat_cmp, is_lt}
use Rattle.std.specs.Cmp.Lexicographic.{slice_cmp}
use Rattle.s3r_names.specs.declared.version.VersionId.{VersionId}
use Rattle.s3r_versions.specs.declared.row.Row.{Row}
use Rattle.s3r_versions.specs.declared.listing.ListPosition.{ListPosition}
use Rattle.s3r_versions.specs.declared.listing.Listed.{Listed}
use Rattle.s3r_versions.specs.declared.listing.Listing.{Listing}
use Rattle.s3r_versions.specs.Order.{comes_before}
use Rattle.s3r_versions.specs.Lookup.{is_version, is_latest}

-- its key begins with the prefix
abbrev pub has_prefix : {B : Type 0} → List ℕ → Row B → Bool
has_prefix prefix row = starts_with nat_eq row.key prefix

-- the place names no version, or one that is there
abbrev pub is_version_there : {B : Type 0} → List ℕ → Option VersionId → List (Row B) → Bool
is_version_there key None rows = true
is_version_there key (Some id) rows = list_any (is_version key id) rows

abbrev pub is_place_there : {B : Type 0} → Option ListPosition → List (Row B) → Bool
is_place_there None rows = true
is_place_there (Some place) rows = is_version_there place.key place.id rows

-- the row stands behind all rows of keys up to this one, or else behind the version
abbrev pub is_behind : {B : Type 0} → List ℕ → Option VersionId → List (Row B) → Row B → Bool
is_behind key None rows row = is_lt (slice_cmp nat_cmp key row.key)
is_behind key (Some id) rows row = list_any (λ named. is_version key id named && comes_before named row) rows

abbrev pub is_after : {B : Type 0} → Option ListPosition → List (Row B) → Row B → Bool
is_after None rows row = true
is_after (Some place) rows row = is_behind place.key place.id rows row

-- the rows with the prefix that stand after the place
abbrev pub listed : {B : Type 0} → List ℕ → Option ListPosition → List (Row B) → List (Row B)
listed prefix place rows = filter (λ row. has_prefix prefix row && is_after place rows row) rows

-- a row as a listing shows it
abbrev pub entry_of : {B : Type 0} → List (Row B) → Row B → Listed
entry_of rows row = record {
  key = row.key;
  id = row.id;
  latest = is_latest row.key rows row;
  marker = row.marker;
  length = row.length;
  class = row.class;
}

-- the first of these rows, and whether more follow
abbrev pub page_of : {B : Type 0} → ℕ → List (Row B) → List (Row B) → Listing
page_of limit rows found = record {
  entries = map (entry_of rows) (take limit found);
  truncated = nat_lt limit (length found);
}

-- the first rows with the prefix after the place
abbrev pub listing : {B : Type 0} → List ℕ → Option ListPosition → ℕ → List (Row B) → Listing
listing prefix place limit rows = page_of limit rows (listed prefix place rows)
