-- The order in which a bucket lists its rows.
use Rattle.std.specs.Prelude.{Bool, true, nat_lt, ◌==◌, ◌&&◌, ◌||◌, List, [], ◌∷◌}
use Rattle.std.specs.List.{list_all}
use Rattle.std.specs.Str.{bytes_eq}
use Rattle.std.specs.Ordering.{nat_cmp, is_lt}
use Rattle.std.specs.Cmp.Lexicographic.{slice_cmp}
use Rattle.s3r_names.specs.Stamp.{is_before}
use Rattle.s3r_names.specs.declared.stamp.Stamp.{Stamp}
use Rattle.s3r_names.specs.declared.version.VersionId.{VersionId}
use Rattle.s3r_versions.specs.declared.row.Row.{Row}

-- the test holds of each element and each that follows it
abbrev pub all_pairs : {X : Type 0} → (X → X → Bool) → List X → Bool
all_pairs test [] = true
all_pairs test (x ∷ xs) = list_all (test x) xs && all_pairs test xs

-- when a version was first written
abbrev pub first_stamp : {B : Type 0} → Row B → Stamp
first_stamp row = record { n = row.n; region = row.id.region; index = row.id.index }

-- the first was written after the second
abbrev pub is_later : {B : Type 0} → Row B → Row B → Bool
is_later a b = is_before (first_stamp b) (first_stamp a)

-- keys rise by their bytes, and the latest row of a key is the first of them
abbrev pub comes_before : {B : Type 0} → Row B → Row B → Bool
comes_before a b = is_lt (slice_cmp nat_cmp a.key b.key) || (bytes_eq a.key b.key && is_later a b)

-- each row comes before all that follow it
abbrev pub is_listed : {B : Type 0} → List (Row B) → Bool
is_listed rows = all_pairs comes_before rows

-- by region, then by index
abbrev pub is_id_before : VersionId → VersionId → Bool
is_id_before a b = nat_lt a.region b.region || (a.region == b.region && nat_lt a.index b.index)

-- each id is below those that follow it
abbrev pub is_rising : List VersionId → Bool
is_rising ids = all_pairs is_id_before ids
