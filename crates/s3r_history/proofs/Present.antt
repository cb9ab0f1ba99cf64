-- The tags and hold of versions, one deed after another.
use Rattle.std.proofs.Common.{◌≡◌, Bool, true, false, cond, not, ◌&&◌, List, [], ◌∷◌, Option, Some, None, map, bytes_eq, refl, ap, ◌∙◌, arith}
use Rattle.std.specs.Prelude.{IfSome}
use Rattle.std.specs.List.{list_all, cons_option}
use Rattle.std.proofs.lemmas.Bool.{and_parts, and_right, not-true}
use Rattle.std.proofs.lemmas.Bool.Decides.{nat_tests}
use Rattle.std.proofs.lemmas.Cmp.{nat_list_eq_equiv}
use Rattle.s3r_names.specs.declared.stamp.Stamp.{Stamp}
use Rattle.s3r_names.specs.declared.tags.Tag.{Tag}
use Rattle.s3r_names.specs.declared.version.VersionId.{VersionId}
use Rattle.s3r_versions.specs.Lookup.{id_eq, is_version}
use Rattle.s3r_versions.specs.Contents.{KeepsPlace}
use Rattle.s3r_history.specs.Words.{Name}
use Rattle.s3r_history.specs.Past.{Entry, Added, Deed, Past}
use Rattle.s3r_history.specs.Rows.{adds_it, tag_write, hold_write, writes, newer_of, greatest, set_to, at_present, tags_of}
use Rattle.s3r_history.proofs.Versions.{front}

-- the value that a write leaves, where there is one
abbrev pub newest_of : {X : Type 0} → Option (Stamp × X) → Stamp × X → Stamp × X
newest_of None v = v
newest_of (Some w) v = newer_of w v

-- a row after the deed
abbrev pub written : Name → Deed → Entry → Entry
written b d row =
    set_to row (newest_of (tag_write b row.key row.id d) (row.tags_stamp, row.tags)) (newest_of (hold_write b row.key row.id d) (row.hold_stamp, row.hold))

pub written-place : (b : Name) (d : Deed) → KeepsPlace (written b d)
written-place b d = record { key = λ row. refl; id = λ row. refl; n = λ row. refl }

pub present-place : (past : Past) (b : Name) → KeepsPlace (at_present past b)
present-place past b = record { key = λ row. refl; id = λ row. refl; n = λ row. refl }

one-more : {X : Type 0} (first : Stamp × X) (o : Option (Stamp × X)) (ws : List (Stamp × X))
    → greatest first (cons_option o ws) ≡ newest_of o (greatest first ws)
one-more first None ws = refl
one-more first (Some w) ws = refl

-- a deed that doesn't add the version writes about it
present-old : (d : Deed) (past : Past) (b : Name) (v : Entry) → adds_it b v.key v.id d.adds ≡ false
    → at_present (d ∷ past) b v ≡ written b d (at_present past b v)
present-old d past b v old =
    ap (λ t. set_to v (greatest (v.tags_stamp, v.tags) (cond t [] (cons_option (tag_write b v.key v.id d) tags)))
    (greatest (v.hold_stamp, v.hold) (cond t [] (cons_option (hold_write b v.key v.id d) hold)))) old
    ∙ ap (λ x. set_to v x (greatest (v.hold_stamp, v.hold) (cons_option (hold_write b v.key v.id d) hold)))
    (one-more (v.tags_stamp, v.tags) (tag_write b v.key v.id d) tags)
    ∙ ap (set_to v (newest_of (tag_write b v.key v.id d) (tags_of past b v))) (one-more (v.hold_stamp, v.hold) (hold_write b v.key v.id d) hold)
  where
    tags : List (Stamp × List Tag)
    tags = writes (tag_write b v.key v.id) (adds_it b v.key v.id) past

    hold : List (Stamp × Bool)
    hold = writes (hold_write b v.key v.id) (adds_it b v.key v.id) past

-- what a deed adds is at first as it was added
present-new : (d : Deed) (past : Past) (b : Name) (v : Entry) → adds_it b v.key v.id d.adds ≡ true → at_present (d ∷ past) b v ≡ v
present-new d past b v new =
    ap (λ t. set_to v (greatest (v.tags_stamp, v.tags) (cond t []
    (cons_option (tag_write b v.key v.id d) (writes (tag_write b v.key v.id) (adds_it b v.key v.id) past))))
    (greatest (v.hold_stamp, v.hold) (cond t [] (cons_option (hold_write b v.key v.id d) (writes (hold_write b v.key v.id) (adds_it b v.key v.id) past))))) new

id_refl : (i : VersionId) → id_eq i i ≡ true
id_refl i = grind (arith, nat_tests)

pub adds-itself : (b : Name) (a : Added) → bytes_eq a.bucket b ≡ true → adds_it b a.row.key a.row.id (Some a) ≡ true
adds-itself b a e =
    ap (λ t. t && (bytes_eq a.row.key a.row.key && id_eq a.row.id a.row.id)) e ∙ ap (λ t. t && id_eq a.row.id a.row.id) (nat_list_eq_equiv.refl a.row.key)
    ∙ id_refl a.row.id

-- the versions that were there, as the deed leaves them
present-all : (d : Deed) (past : Past) (b : Name) (vs : List Entry) → list_all (λ (v : Entry). not (adds_it b v.key v.id d.adds)) vs ≡ true
    → map (at_present (d ∷ past) b) vs ≡ map (written b d) (map (at_present past b) vs)
present-all d past b [] others = refl
present-all d past b (v ∷ vs) others =
    let parts = and_parts (not (adds_it b v.key v.id d.adds)) (list_all (λ (w : Entry). not (adds_it b w.key w.id d.adds)) vs) others in
    ap (λ x. x ∷ map (at_present (d ∷ past) b) vs) (present-old d past b v (not-true _ parts.0))
    ∙ ap (λ xs. written b d (at_present past b v) ∷ xs) (present-all d past b vs parts.1)

-- where what is added is unknown, the others are others
pub others : (b : Name) (adds : Option Added) (vs : List Entry)
    → IfSome adds (λ (a : Added). bytes_eq a.bucket b ≡ true → list_all (λ (v : Entry). not (is_version a.row.key a.row.id v)) vs ≡ true)
    → list_all (λ (v : Entry). not (adds_it b v.key v.id adds)) vs ≡ true
others b None [] new = refl
others b None (v ∷ vs) new = others b None vs tt
others b (Some a) vs new = go (bytes_eq a.bucket b) refl
  where
    elsewhere : (ws : List Entry) → bytes_eq a.bucket b ≡ false → list_all (λ (v : Entry). not (adds_it b v.key v.id (Some a))) ws ≡ true
    elsewhere [] e = refl
    elsewhere (w ∷ ws) e =
        ap (λ t. not (t && is_version a.row.key a.row.id w) && list_all (λ (v : Entry). not (adds_it b v.key v.id (Some a))) ws) e ∙ elsewhere ws e

    here : (ws : List Entry) → list_all (λ (v : Entry). not (is_version a.row.key a.row.id v)) ws ≡ true
        → list_all (λ (v : Entry). not (adds_it b v.key v.id (Some a))) ws ≡ true
    here [] all = refl
    here (w ∷ ws) all =
        let parts = and_parts (not (is_version a.row.key a.row.id w)) (list_all (λ (v : Entry). not (is_version a.row.key a.row.id v)) ws) all in
        ap (λ t. not t && list_all (λ (v : Entry). not (adds_it b v.key v.id (Some a))) ws) (and_right (bytes_eq a.bucket b) _ (not-true _ parts.0))
        ∙ here ws parts.1

    go : (t : Bool) → bytes_eq a.bucket b ≡ t → list_all (λ (v : Entry). not (adds_it b v.key v.id (Some a))) vs ≡ true
    go true e = here vs (new e)
    go false e = elsewhere vs e

-- the versions after a deed, with their tags and hold
pub present-front : (d : Deed) (past : Past) (b : Name) (o : Option Added) (vs : List Entry) → d.adds ≡ o
    → IfSome o (λ (a : Added). bytes_eq a.bucket b ≡ true → list_all (λ (v : Entry). not (is_version a.row.key a.row.id v)) vs ≡ true)
    → map (at_present (d ∷ past) b) (front b o vs) ≡ front b o (map (written b d) (map (at_present past b) vs))
present-front d past b None vs is new = present-all d past b vs (ap (λ o. list_all (λ (v : Entry). not (adds_it b v.key v.id o)) vs) is ∙ others b None vs tt)
present-front d past b (Some a) vs is new = go (bytes_eq a.bucket b) refl
  where
    rest : map (at_present (d ∷ past) b) vs ≡ map (written b d) (map (at_present past b) vs)
    rest = present-all d past b vs (ap (λ o. list_all (λ (v : Entry). not (adds_it b v.key v.id o)) vs) is ∙ others b (Some a) vs new)

    go : (t : Bool) → bytes_eq a.bucket b ≡ t → map (at_present (d ∷ past) b) (cond t (a.row ∷ vs) vs)
        ≡ cond t (a.row ∷ map (written b d) (map (at_present past b) vs)) (map (written b d) (map (at_present past b) vs))
    go true e =
        ap (λ x. x ∷ map (at_present (d ∷ past) b) vs) (present-new d past b a.row (ap (adds_it b a.row.key a.row.id) is ∙ adds-itself b a e))
        ∙ ap (λ xs. a.row ∷ xs) rest
    go false e = rest
