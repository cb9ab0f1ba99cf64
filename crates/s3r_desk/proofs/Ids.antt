-- The ids of rows that are found.
use Rattle.std.proofs.Common.{◌≡◌, Bool, true, false, cond, nat_lt, nat_le, ◌&&◌, List, [], ◌∷◌, Option, Some, None, find, Result, Ok, Err, IfOk, IfSome, Bor, subst, leb-true, ltb-true}
use Rattle.std.proofs.lemmas.Bool.{and_parts}
use Rattle.s3r_names.specs.declared.version.VersionId.{VersionId}
use Rattle.s3r_names.specs.Version.{IsVersionId}
use Rattle.s3r_history.specs.Words.{Name}
use Rattle.s3r_history.specs.Past.{Entry}
use Rattle.s3r_history.specs.BucketView.{BucketView}
use Rattle.s3r_history.specs.declared.refusal.Refusal.{Refusal}
use Rattle.s3r_versions.specs.Lookup.{is_version, is_latest}
use Rattle.s3r_region.specs.Contents.{is_id, have_ids}
use Rattle.s3r_desk.specs.Steps.{sought, object_of, hidden}
use Rattle.s3r_desk.specs.Lookups.{Finds}

rule : (id : VersionId) → is_id id ≡ true → IsVersionId id
rule id is =
    let first = and_parts (nat_le 1 id.index) (nat_le id.region 7 && nat_lt id.index 18446744073709551616) is in
    let rest = and_parts (nat_le id.region 7) (nat_lt id.index 18446744073709551616) first.1 in
    record { region = leb-true id.region 7 rest.0; above = leb-true 1 id.index first.0; below = ltb-true id.index 18446744073709551616 rest.1 }

found : (p : Entry → Bool) (rows : List Entry) → have_ids rows ≡ true → IfSome (find p rows) (λ (row : Entry). IsVersionId row.id)
found p [] ids = tt
found p (row ∷ rows) ids = go (p row) (found p rows parts.1)
  where
    parts : (is_id row.id ≡ true) × (have_ids rows ≡ true)
    parts = and_parts (is_id row.id) (have_ids rows) ids

    go : (t : Bool) → IfSome (find p rows) (λ (r : Entry). IsVersionId r.id) → IfSome (cond t (Some row) (find p rows)) (λ (r : Entry). IsVersionId r.id)
    go true ih = rule row.id parts.0
    go false ih = ih

sought_id : (key : Name) (version : Option VersionId) (at : BucketView) → have_ids at.rows ≡ true
    → IfSome (sought key version at) (λ (row : Entry). IsVersionId row.id)
sought_id key None at ids = found (is_latest key at.rows) at.rows ids
sought_id key (Some id) at ids = found (is_version key id) at.rows ids

object_id : (version : Option VersionId) (o : Option Entry) → IfSome o (λ (row : Entry). IsVersionId row.id) → (result : Result (Bor Entry) Refusal)
    → Finds (object_of version o) result → IfOk result (λ row. IsVersionId row.now.id)
object_id version o ids (Err why) found = tt
object_id version None ids (Ok row) found = absurd cc
object_id version (Some r) ids (Ok row) found = go r.marker found
  where
    go : (t : Bool) → cond t (Err (hidden version)) (Ok r) ≡ Ok row.now → IsVersionId row.now.id
    go true e = absurd cc
    go false e = let same : r ≡ row.now = cc in subst (λ (x : Entry). IsVersionId x.id) same ids

pub found_id : (key : Name) (version : Option VersionId) (at : BucketView) (result : Result (Bor Entry) Refusal) → have_ids at.rows ≡ true
    → Finds (object_of version (sought key version at)) result → IfOk result (λ row. IsVersionId row.now.id)
found_id key version at result ids found = object_id version (sought key version at) (sought_id key version at ids) result found
