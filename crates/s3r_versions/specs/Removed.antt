-- The ids that were removed from a bucket.
use Rattle.std.specs.Prelude.{Bool, true, List, [], ◌∷◌, Option, Some, None, if◌then◌else◌, find}
use Rattle.std.specs.List.{list_any}
use Rattle.s3r_names.specs.declared.version.VersionId.{VersionId}
use Rattle.s3r_versions.specs.Order.{is_id_before}
use Rattle.s3r_versions.specs.Lookup.{id_eq}

abbrev pub was_removed : VersionId → List VersionId → Bool
was_removed id ids = list_any (λ other. id_eq other id) ids

-- the ids with one more at its place, or as they are where it is among them
abbrev pub with_id : VersionId → List VersionId → List VersionId
with_id id [] = id ∷ []
with_id id (other ∷ ids) = if is_id_before other id then other ∷ with_id id ids else (if id_eq other id then other ∷ ids else id ∷ other ∷ ids)

-- each id is above none
abbrev pub is_id_above : Option VersionId → VersionId → Bool
is_id_above None other = true
is_id_above (Some id) other = is_id_before id other

-- of rising ids the least above this one, or the least of all
abbrev pub removed_after : Option VersionId → List VersionId → Option VersionId
removed_after id ids = find (is_id_above id) ids
