-- Which row is asked for.
use Rattle.std.specs.Prelude.{ℕ, Bool, ◌==◌, ◌&&◌, not, List, Option, find}
use Rattle.std.specs.List.{list_any}
use Rattle.std.specs.Str.{bytes_eq}
use Rattle.s3r_names.specs.declared.version.VersionId.{VersionId}
use Rattle.s3r_versions.specs.declared.row.Row.{Row}
use Rattle.s3r_versions.specs.Order.{all_pairs, is_later}

abbrev pub id_eq : VersionId → VersionId → Bool
id_eq a b = (a.region == b.region) && (a.index == b.index)

abbrev pub is_of_key : {B : Type 0} → List ℕ → Row B → Bool
is_of_key key row = bytes_eq row.key key

abbrev pub is_version : {B : Type 0} → List ℕ → VersionId → Row B → Bool
is_version key id row = is_of_key key row && id_eq row.id id

-- no two rows are of one version
abbrev pub has_each_once : {B : Type 0} → List (Row B) → Bool
has_each_once rows = all_pairs (λ row other. not (is_version row.key row.id other)) rows

-- the row of the key with the id
abbrev pub find_version : {B : Type 0} → List ℕ → VersionId → List (Row B) → Option (Row B)
find_version key id rows = find (is_version key id) rows

-- of the key, and no other row of the key is later
abbrev pub is_latest : {B : Type 0} → List ℕ → List (Row B) → Row B → Bool
is_latest key rows row = is_of_key key row && not (list_any (λ other. is_of_key key other && is_later other row) rows)

-- the latest row of the key
abbrev pub latest : {B : Type 0} → List ℕ → List (Row B) → Option (Row B)
latest key rows = find (is_latest key rows) rows
