-- What holds of rows that are changed where they stand.
use Rattle.std.proofs.Common.{◌≡◌, ℕ, Bool, true, false, cond, not, ◌&&◌, ◌||◌, List, [], ◌∷◌, Some, find, map, option_map, bytes_eq, nat_cmp, is_lt, refl, sym, ap, ap₂, ◌∙◌}
use Rattle.std.specs.List.{list_all}
use Rattle.std.specs.Cmp.Lexicographic.{slice_cmp}
use Rattle.s3r_names.specs.Stamp.{is_before}
use Rattle.s3r_names.specs.declared.stamp.Stamp.{Stamp}
use Rattle.s3r_names.specs.declared.tags.Tag.{Tag}
use Rattle.s3r_names.specs.declared.version.VersionId.{VersionId}
use Rattle.s3r_versions.specs.declared.row.Row.{Row}
use Rattle.s3r_versions.specs.Order.{all_pairs, first_stamp, comes_before, is_listed}
use Rattle.s3r_versions.specs.Lookup.{id_eq, is_version, has_each_once, find_version}
use Rattle.s3r_versions.specs.Contents.{with_row, without_version, if_version, on_version, with_tags, with_hold, KeepsPlace}

-- ---- functions that leave a row its place

same_stamp : {A B : Type 0} (f : Row A → Row B) (keeps : KeepsPlace f) (row : Row A) → first_stamp (f row) ≡ first_stamp row
same_stamp f keeps row =
    ap₂ (λ n (id : VersionId). let stamp : Stamp = record { n = n; region = id.region; index = id.index } in stamp) (keeps.n row) (keeps.id row)

same_order : {A B : Type 0} (f : Row A → Row B) (keeps : KeepsPlace f) (a b : Row A) → comes_before (f a) (f b) ≡ comes_before a b
same_order f keeps a b =
    ap₂ (λ x y. is_lt (slice_cmp nat_cmp x y) || (bytes_eq x y && is_before (first_stamp (f b)) (first_stamp (f a)))) (keeps.key a) (keeps.key b)
    ∙ ap₂ (λ s t. is_lt (slice_cmp nat_cmp a.key b.key) || (bytes_eq a.key b.key && is_before t s)) (same_stamp f keeps a) (same_stamp f keeps b)

pub same_version : {A B : Type 0} (f : Row A → Row B) (keeps : KeepsPlace f) (key : List ℕ) (id : VersionId) (row : Row A)
    → is_version key id (f row) ≡ is_version key id row
same_version f keeps key id row = ap₂ (λ k i. bytes_eq k key && id_eq i id) (keeps.key row) (keeps.id row)

same_pair : {A B : Type 0} (f : Row A → Row B) (keeps : KeepsPlace f) (a b : Row A) → not (is_version (f a).key (f a).id (f b)) ≡ not (is_version a.key a.id b)
same_pair f keeps a b =
    ap not (ap₂ (λ k i. is_version k i (f b)) (keeps.key a) (keeps.id a) ∙ same_version f keeps a.key a.id b)

pub if_version-keeps : {B : Type 0} (key : List ℕ) (id : VersionId) (f : Row B → Row B) → KeepsPlace f → KeepsPlace (if_version key id f)
if_version-keeps {B} key id f keeps = record {
  key = λ row. either row (λ x. x.key) (keeps.key row) (is_version key id row);
  id = λ row. either row (λ x. x.id) (keeps.id row) (is_version key id row);
  n = λ row. either row (λ x. x.n) (keeps.n row) (is_version key id row);
}
  where
    either : {X : Type 0} (row : Row B) (part : Row B → X) → part (f row) ≡ part row → (t : Bool) → part (cond t (f row) row) ≡ part row
    either row part same true = same
    either row part same false = refl

-- ---- rows that are changed by them

all-map : {X Y : Type 0} (p : X → Bool) (q : Y → Bool) (f : X → Y) → ((x : X) → q (f x) ≡ p x) → (xs : List X) → list_all q (map f xs) ≡ list_all p xs
all-map p q f same [] = refl
all-map p q f same (x ∷ xs) = ap₂ (λ t u. t && u) (same x) (all-map p q f same xs)

pairs-map : {X Y : Type 0} (r : X → X → Bool) (s : Y → Y → Bool) (f : X → Y) → ((a b : X) → s (f a) (f b) ≡ r a b) → (xs : List X)
    → all_pairs s (map f xs) ≡ all_pairs r xs
pairs-map r s f same [] = refl
pairs-map r s f same (x ∷ xs) = ap₂ (λ t u. t && u) (all-map (r x) (s (f x)) f (same x) xs) (pairs-map r s f same xs)

find-map : {X Y : Type 0} (p : X → Bool) (q : Y → Bool) (f : X → Y) → ((x : X) → q (f x) ≡ p x) → (xs : List X) → find q (map f xs) ≡ option_map f (find p xs)
find-map p q f same [] = refl
find-map {X} {Y} p q f same (x ∷ xs) = ap (λ t. cond t (Some (f x)) (find q (map f xs))) (same x) ∙ go (p x) (find-map p q f same xs)
  where
    go : (t : Bool) → find q (map f xs) ≡ option_map f (find p xs) → cond t (Some (f x)) (find q (map f xs)) ≡ option_map f (cond t (Some x) (find p xs))
    go true ih = refl
    go false ih = ih

pub listed-map : {A B : Type 0} (f : Row A → Row B) → KeepsPlace f → (rows : List (Row A)) → is_listed (map f rows) ≡ is_listed rows
listed-map f keeps rows = pairs-map comes_before comes_before f (same_order f keeps) rows

pub once-map : {A B : Type 0} (f : Row A → Row B) → KeepsPlace f → (rows : List (Row A)) → has_each_once (map f rows) ≡ has_each_once rows
once-map f keeps rows = pairs-map (λ a b. not (is_version a.key a.id b)) (λ a b. not (is_version a.key a.id b)) f (same_pair f keeps) rows

pub find_version-map : {A B : Type 0} (f : Row A → Row B) → KeepsPlace f → (key : List ℕ) (id : VersionId) (rows : List (Row A))
    → find_version key id (map f rows) ≡ option_map f (find_version key id rows)
find_version-map f keeps key id rows = find-map (is_version key id) (is_version key id) f (same_version f keeps key id) rows

pub change_keeps_order : {B : Type 0} (key : List ℕ) (id : VersionId) (f : Row B → Row B) (rows : List (Row B)) → KeepsPlace f
    → (is_listed (on_version key id f rows) ≡ is_listed rows) × (has_each_once (on_version key id f rows) ≡ has_each_once rows)
change_keeps_order key id f rows keeps =
    let kept = if_version-keeps key id f keeps in (listed-map (if_version key id f) kept rows, once-map (if_version key id f) kept rows)

pub change_finds : {B : Type 0} (key k : List ℕ) (id i : VersionId) (f : Row B → Row B) (rows : List (Row B)) → KeepsPlace f
    → find_version k i (on_version key id f rows) ≡ option_map (if_version key id f) (find_version k i rows)
change_finds key k id i f rows keeps = find_version-map (if_version key id f) (if_version-keeps key id f keeps) k i rows

-- rows are changed before a version is removed, or after
pub removal_commutes_with_change : {A B : Type 0} (f : Row A → Row B) → KeepsPlace f → (key : List ℕ) (id : VersionId) (rows : List (Row A))
    → without_version key id (map f rows) ≡ map f (without_version key id rows)
removal_commutes_with_change f keeps key id [] = refl
removal_commutes_with_change f keeps key id (x ∷ xs) =
    ap (λ t. cond (not t) (f x ∷ without_version key id (map f xs)) (without_version key id (map f xs))) (same_version f keeps key id x)
    ∙ go (is_version key id x) (removal_commutes_with_change f keeps key id xs)
  where
    go : (t : Bool) → without_version key id (map f xs) ≡ map f (without_version key id xs)
        → cond (not t) (f x ∷ without_version key id (map f xs)) (without_version key id (map f xs)) ≡ map f
        (cond (not t) (x ∷ without_version key id xs) (without_version key id xs))
    go true ih = ih
    go false ih = ap (λ ys. f x ∷ ys) ih

pub adding_commutes_with_change : {A B : Type 0} (f : Row A → Row B) (row : Row A) (rows : List (Row A)) → KeepsPlace f
    → map f (with_row row rows) ≡ with_row (f row) (map f rows)
adding_commutes_with_change f row [] keeps = refl
adding_commutes_with_change {A} {B} f row (x ∷ xs) keeps =
    go (comes_before row x) (adding_commutes_with_change f row xs keeps)
    ∙ sym (ap (λ t. cond t (f row ∷ f x ∷ map f xs) (f x ∷ with_row (f row) (map f xs))) (same_order f keeps row x))
  where
    go : (t : Bool) → map f (with_row row xs) ≡ with_row (f row) (map f xs)
        → map f (cond t (row ∷ x ∷ xs) (x ∷ with_row row xs)) ≡ cond t (f row ∷ f x ∷ map f xs) (f x ∷ with_row (f row) (map f xs))
    go true ih = refl
    go false ih = ap (λ ys. f x ∷ ys) ih

-- ---- writes under stamps

pub writes_keep_places : {B : Type 0} (stamp : Stamp) → ((tags : List Tag) → KeepsPlace (with_tags {B = B} stamp tags))
    × ((hold : Bool) → KeepsPlace (with_hold {B = B} stamp hold))
writes_keep_places {B} stamp = (λ tags. tags_keep tags, λ hold. hold_keeps hold)
  where
    either : {X : Type 0} (part : Row B → X) (a b : Row B) → part a ≡ part b → (t : Bool) → part (cond t a b) ≡ part b
    either part a b same true = same
    either part a b same false = refl

    tags_keep : (tags : List Tag) → KeepsPlace (with_tags {B = B} stamp tags)
    tags_keep tags = record {
      key = λ row. either (λ x. x.key) (record row { tags = tags; tags_stamp = stamp }) row refl (is_before row.tags_stamp stamp);
      id = λ row. either (λ x. x.id) (record row { tags = tags; tags_stamp = stamp }) row refl (is_before row.tags_stamp stamp);
      n = λ row. either (λ x. x.n) (record row { tags = tags; tags_stamp = stamp }) row refl (is_before row.tags_stamp stamp);
    }

    hold_keeps : (hold : Bool) → KeepsPlace (with_hold {B = B} stamp hold)
    hold_keeps hold = record {
      key = λ row. either (λ x. x.key) (record row { hold = hold; hold_stamp = stamp }) row refl (is_before row.hold_stamp stamp);
      id = λ row. either (λ x. x.id) (record row { hold = hold; hold_stamp = stamp }) row refl (is_before row.hold_stamp stamp);
      n = λ row. either (λ x. x.n) (record row { hold = hold; hold_stamp = stamp }) row refl (is_before row.hold_stamp stamp);
    }
