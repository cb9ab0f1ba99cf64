-- Versions of two keys.
use Rattle.std.proofs.Common.{◌≡◌, ℕ, Bool, true, false, codes, List, [], ◌∷◌, Some, None, refl}
use Rattle.s3r_names.specs.declared.version.VersionId.{VersionId}
use Rattle.s3r_versions.specs.declared.listing.Listed.{Listed}
use Rattle.s3r_versions.specs.declared.row.Row.{Row}
use Rattle.s3r_versions.specs.Order.{is_listed}
use Rattle.s3r_versions.specs.Lookup.{has_each_once, find_version, latest}
use Rattle.s3r_versions.specs.Contents.{with_row, without_version, on_version, with_hold}
use Rattle.s3r_versions.specs.Removed.{with_id, removed_after}
use Rattle.s3r_versions.specs.Listing.{is_place_there, listing}

abbrev version : List ℕ → ℕ → ℕ → ℕ → Row (List ℕ)
version key n region index = record {
  key = key;
  id = record { region = region; index = index };
  n = n;
  place = index;
  marker = false;
  body = codes "hi";
  length = 2;
  class = codes "STANDARD";
  tags = [];
  tags_stamp = record { n = n; region = region; index = index };
  hold = false;
  hold_stamp = record { n = n; region = region; index = index };
  origin = None;
}

abbrev older : Row (List ℕ)
older = version (codes "a") 2 0 9

abbrev newer : Row (List ℕ)
newer = version (codes "a") 3 0 2

abbrev newest : Row (List ℕ)
newest = version (codes "a") 3 1 1

abbrev other : Row (List ℕ)
other = version (codes "ab") 9 0 3

in_order : is_listed (newest ∷ newer ∷ older ∷ other ∷ []) ≡ true
in_order = refl

out_of_order : is_listed (older ∷ newer ∷ []) ≡ false
out_of_order = refl

latest_of_two : latest (codes "a") (older ∷ newer ∷ other ∷ []) ≡ Some newer
latest_of_two = refl

latest_of_three : latest (codes "a") (newer ∷ newest ∷ older ∷ other ∷ []) ≡ Some newest
latest_of_three = refl

latest_of_none : latest (codes "b") (newer ∷ older ∷ other ∷ []) ≡ None
latest_of_none = refl

in_between : with_row newer (newest ∷ older ∷ other ∷ []) ≡ newest ∷ newer ∷ older ∷ other ∷ []
in_between = refl

by_key_and_id : find_version (codes "a") older.id (newer ∷ older ∷ other ∷ []) ≡ Some older
by_key_and_id = refl

of_another_key : find_version (codes "a") other.id (newer ∷ older ∷ other ∷ []) ≡ None
of_another_key = refl

-- ---- removals and writes

each_once : has_each_once (newest ∷ newer ∷ older ∷ other ∷ []) ≡ true
each_once = refl

twice : has_each_once (newer ∷ record newer { n = 1 } ∷ []) ≡ false
twice = refl

removed_one : without_version (codes "a") newer.id (newest ∷ newer ∷ other ∷ []) ≡ newest ∷ other ∷ []
removed_one = refl

abbrev held : ℕ → Row (List ℕ)
held n = record older { hold = true; hold_stamp = record { n = n; region = 0; index = 9 } }

greater_stamp : on_version (codes "a") older.id (with_hold (record { n = 7; region = 0; index = 9 }) true) (newer ∷ older ∷ []) ≡ newer ∷ held 7 ∷ []
greater_stamp = refl

lower_stamp : on_version (codes "a") older.id (with_hold (record { n = 6; region = 1; index = 1 }) false) (newer ∷ held 7 ∷ []) ≡ newer ∷ held 7 ∷ []
lower_stamp = refl

abbrev number : ℕ → ℕ → VersionId
number region index = record { region = region; index = index }

id_between : with_id (number 0 5) (number 0 3 ∷ number 0 8 ∷ number 1 1 ∷ []) ≡ number 0 3 ∷ number 0 5 ∷ number 0 8 ∷ number 1 1 ∷ []
id_between = refl

id_again : with_id (number 0 8) (number 0 3 ∷ number 0 8 ∷ []) ≡ number 0 3 ∷ number 0 8 ∷ []
id_again = refl

next_removed : removed_after (Some (number 0 8)) (number 0 3 ∷ number 0 8 ∷ number 1 1 ∷ []) ≡ Some (number 1 1)
next_removed = refl

-- ---- pages

abbrev entry : Row (List ℕ) → Bool → Listed
entry row latest = record { key = row.key; id = row.id; latest = latest; marker = false; length = 2; class = codes "STANDARD" }

first_page : listing [] None 2 (newest ∷ newer ∷ older ∷ other ∷ []) ≡ record { entries = entry newest true ∷ entry newer false ∷ []; truncated = true }
first_page = refl

after_version : listing [] (Some (record { key = codes "a"; id = Some newer.id })) 2
    (newest ∷ newer ∷ older ∷ other ∷ []) ≡ record { entries = entry older false ∷ entry other true ∷ []; truncated = false }
after_version = refl

after_key : listing (codes "a") (Some (record { key = codes "a"; id = None })) 2
    (newest ∷ newer ∷ older ∷ other ∷ []) ≡ record { entries = entry other true ∷ []; truncated = false }
after_key = refl

no_place : is_place_there (Some (record { key = codes "ab"; id = Some newer.id })) (newest ∷ newer ∷ other ∷ []) ≡ false
no_place = refl
