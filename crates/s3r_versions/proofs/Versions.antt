-- Which version a row is.
use Rattle.std.proofs.Common.{◌≡◌, ℕ, Bool, true, false, ◌&&◌, ◌==◌, List, bytes_eq, refl, sym, ap₂, ◌∙◌, true≢false}
use Rattle.std.proofs.lemmas.Bool.{and_parts, and_from, eqb-true, eq-eqb}
use Rattle.std.proofs.lemmas.Slice.Eq.{bytes_eq-Decides}
use Rattle.s3r_names.specs.declared.version.VersionId.{VersionId}
use Rattle.s3r_versions.specs.declared.row.Row.{Row}
use Rattle.s3r_versions.specs.Lookup.{id_eq, is_version}

pub id_is : (a b : VersionId) → id_eq a b ≡ true → a ≡ b
id_is a b h =
    let parts = and_parts (a.region == b.region) (a.index == b.index) h in
    ap₂ (λ r i. let id : VersionId = record { region = r; index = i } in id) (eqb-true a.region b.region parts.0) (eqb-true a.index b.index parts.1)

pub id_itself : (id : VersionId) → id_eq id id ≡ true
id_itself id = and_from _ _ (eq-eqb id.region id.region refl) (eq-eqb id.index id.index refl)

-- a key and an id that are those of another are these
pub names_are : (key k : List ℕ) (id i : VersionId) → (bytes_eq key k && id_eq id i) ≡ true → (key ≡ k) × (id ≡ i)
names_are key k id i h =
    let parts = and_parts (bytes_eq key k) (id_eq id i) h in
    ((bytes_eq-Decides key k).0 parts.0, id_is id i parts.1)

pub names_itself : (key : List ℕ) (id : VersionId) → (bytes_eq key key && id_eq id id) ≡ true
names_itself key id = and_from _ _ ((bytes_eq-Decides key key).1 refl) (id_itself id)

-- rows are asked for a version as for that of a row that is it
pub version_like : {B : Type 0} (key : List ℕ) (id : VersionId) (row other : Row B) → is_version key id row ≡ true
    → is_version row.key row.id other ≡ is_version key id other
version_like key id row other h =
    let names = names_are row.key key row.id id h in
    ap₂ (λ k i. is_version k i other) names.0 names.1

pub version_sym : {B : Type 0} (a b : Row B) → is_version a.key a.id b ≡ is_version b.key b.id a
version_sym a b = go (is_version a.key a.id b) (is_version b.key b.id a) (turn a b) (turn b a)
  where
    turn : {B : Type 0} (x y : Row B) → is_version x.key x.id y ≡ true → is_version y.key y.id x ≡ true
    turn x y h =
        let names = names_are y.key x.key y.id x.id h in
        ap₂ (λ k i. is_version k i x) names.0 names.1 ∙ names_itself x.key x.id

    go : (t u : Bool) → (t ≡ true → u ≡ true) → (u ≡ true → t ≡ true) → t ≡ u
    go true u f g = sym (f refl)
    go false true f g = g refl
    go false false f g = refl

-- no row is two versions
pub other_version : {B : Type 0} (key k : List ℕ) (id i : VersionId) (row : Row B) → (bytes_eq key k && id_eq id i) ≡ false → is_version k i row ≡ true
    → is_version key id row ≡ false
other_version key k id i row other this = go (is_version key id row) refl
  where
    go : (t : Bool) → is_version key id row ≡ t → t ≡ false
    go false h = refl
    go true h =
        let a = names_are row.key key row.id id h in
        let b = names_are row.key k row.id i this in
        absurd (true≢false (sym (names_itself row.key row.id) ∙ ap₂ (λ x y. bytes_eq x row.key && id_eq y row.id) a.0 a.1
        ∙ ap₂ (λ x y. bytes_eq key x && id_eq id y) b.0 b.1 ∙ other))
