-- What holds of rows of which some are left out.
use Rattle.std.proofs.Common.{◌≡◌, ℕ, Bool, true, false, cond, not, ◌&&◌, ◌↔◌, List, [], ◌∷◌, Some, None, find, filter, bytes_eq, refl, sym, ap, ap₂, ◌∙◌, true≢false}
use Rattle.std.specs.List.{list_all}
use Rattle.std.proofs.lemmas.Bool.{and_parts, and_from, not-true, not_from_false, false_from_ne_true}
use Rattle.s3r_names.specs.declared.version.VersionId.{VersionId}
use Rattle.s3r_versions.specs.declared.row.Row.{Row}
use Rattle.s3r_versions.specs.Order.{all_pairs, comes_before, is_listed}
use Rattle.s3r_versions.specs.Lookup.{id_eq, is_version, has_each_once, find_version}
use Rattle.s3r_versions.specs.Contents.{with_row, without_version}
use Rattle.s3r_versions.proofs.Versions.{names_are, other_version}
use Rattle.s3r_versions.proofs.Adding.{all_after}

pub all-filter : {X : Type 0} (q p : X → Bool) (xs : List X) → list_all q xs ≡ true → list_all q (filter p xs) ≡ true
all-filter q p [] all = refl
all-filter q p (x ∷ xs) all = go (p x) (all-filter q p xs (and_parts (q x) (list_all q xs) all).1)
  where
    go : (t : Bool) → list_all q (filter p xs) ≡ true → list_all q (cond t (x ∷ filter p xs) (filter p xs)) ≡ true
    go true ih = and_from _ _ (and_parts (q x) (list_all q xs) all).0 ih
    go false ih = ih

-- rows stay listed, and each once
pub pairs-filter : {X : Type 0} (r : X → X → Bool) (p : X → Bool) (xs : List X) → all_pairs r xs ≡ true → all_pairs r (filter p xs) ≡ true
pairs-filter r p [] up = refl
pairs-filter r p (x ∷ xs) up = go (p x) (pairs-filter r p xs (and_parts (list_all (r x) xs) (all_pairs r xs) up).1)
  where
    go : (t : Bool) → all_pairs r (filter p xs) ≡ true → all_pairs r (cond t (x ∷ filter p xs) (filter p xs)) ≡ true
    go true ih = and_from _ _ (all-filter (r x) p xs (and_parts (list_all (r x) xs) (all_pairs r xs) up).0) ih
    go false ih = ih

-- where all pass, all are left
pub filter_all : {X : Type 0} (p : X → Bool) (xs : List X) → list_all p xs ≡ true → filter p xs ≡ xs
filter_all p [] all = refl
filter_all p (x ∷ xs) all =
    let parts = and_parts (p x) (list_all p xs) all in
    ap (λ t. cond t (x ∷ filter p xs) (filter p xs)) parts.0 ∙ ap (λ ys. x ∷ ys) (filter_all p xs parts.1)

pub filter_none : {X : Type 0} (p : X → Bool) (xs : List X) → list_all (λ x. not (p x)) xs ≡ true → filter p xs ≡ []
filter_none p [] none = refl
filter_none p (x ∷ xs) none =
    let parts = and_parts (not (p x)) (list_all (λ y. not (p y)) xs) none in
    ap (λ t. cond t (x ∷ filter p xs) (filter p xs)) (not-true (p x) parts.0) ∙ filter_none p xs parts.1

-- ---- a version is left out

-- what is looked for is found where it isn't left out
find-filter : {X : Type 0} (p q : X → Bool) (xs : List X) → ((x : X) → p x ≡ true → q x ≡ true) → find p (filter q xs) ≡ find p xs
find-filter p q [] keeps = refl
find-filter {X} p q (x ∷ xs) keeps = go (q x) refl (find-filter p q xs keeps)
  where
    go : (u : Bool) → q x ≡ u → find p (filter q xs) ≡ find p xs → find p (cond u (x ∷ filter q xs) (filter q xs)) ≡ cond (p x) (Some x) (find p xs)
    go true h ih = ap (cond (p x) (Some x)) ih
    go false h ih =
        let off : p x ≡ false = false_from_ne_true (p x) (λ t. true≢false (sym (keeps x t) ∙ h)) in
        ih ∙ sym (ap (λ t. cond t (Some x) (find p xs)) off)

find-left_out : {X : Type 0} (p : X → Bool) (xs : List X) → find p (filter (λ x. not (p x)) xs) ≡ None
find-left_out p [] = refl
find-left_out p (x ∷ xs) = go (p x) refl (find-left_out p xs)
  where
    go : (t : Bool) → p x ≡ t → find p (filter (λ y. not (p y)) xs) ≡ None
        → find p (cond (not t) (x ∷ filter (λ y. not (p y)) xs) (filter (λ y. not (p y)) xs)) ≡ None
    go true h ih = ih
    go false h ih = ap (λ t. cond t (Some x) (find p (filter (λ y. not (p y)) xs))) h ∙ ih

pub removal_keeps_order : {B : Type 0} (key : List ℕ) (id : VersionId) (rows : List (Row B))
    → (is_listed rows ≡ true → is_listed (without_version key id rows) ≡ true)
    × (has_each_once rows ≡ true → has_each_once (without_version key id rows) ≡ true)
removal_keeps_order key id rows = (
  pairs-filter comes_before (λ row. not (is_version key id row)) rows,
  pairs-filter (λ row other. not (is_version row.key row.id other)) (λ row. not (is_version key id row)) rows,
)

pub removal_finds : {B : Type 0} (key k : List ℕ) (id i : VersionId) (rows : List (Row B))
    → find_version k i (without_version key id rows) ≡ cond (bytes_eq key k && id_eq id i) None (find_version k i rows)
removal_finds key k id i rows = go (bytes_eq key k && id_eq id i) refl
  where
    go : (t : Bool) → (bytes_eq key k && id_eq id i) ≡ t → find_version k i (without_version key id rows) ≡ cond t None (find_version k i rows)
    go true h =
        let names = names_are key k id i h in
        ap₂ (λ x y. find_version k i (without_version x y rows)) names.0 names.1 ∙ find-left_out (is_version k i) rows
    go false h = find-filter (is_version k i) (λ row. not (is_version key id row)) rows (λ row this. not_from_false _ (other_version key k id i row h this))

left_none : {X : Type 0} (p : X → Bool) (xs : List X) → filter (λ x. not (p x)) xs ≡ [] → list_all p xs ≡ true
left_none p [] h = refl
left_none {X} p (x ∷ xs) h = go (p x) h (left_none p xs)
  where
    some : List X → Bool
    some [] = false
    some (y ∷ ys) = true

    go : (t : Bool) → cond (not t) (x ∷ filter (λ y. not (p y)) xs) (filter (λ y. not (p y)) xs) ≡ []
        → (filter (λ y. not (p y)) xs ≡ [] → list_all p xs ≡ true) → (t && list_all p xs) ≡ true
    go true e rest = rest e
    go false e rest = cc

none_left : {X : Type 0} (p : X → Bool) (xs : List X) → list_all p xs ≡ true → filter (λ x. not (p x)) xs ≡ []
none_left p [] all = refl
none_left p (x ∷ xs) all =
    let parts = and_parts (p x) (list_all p xs) all in
    ap (λ t. cond (not t) (x ∷ filter (λ y. not (p y)) xs) (filter (λ y. not (p y)) xs)) parts.0 ∙ none_left p xs parts.1

pub removal_empties : {B : Type 0} (key : List ℕ) (id : VersionId) (rows : List (Row B))
    → (without_version key id rows ≡ []) ↔ (list_all (is_version key id) rows ≡ true)
removal_empties key id rows = (left_none (is_version key id) rows, none_left (is_version key id) rows)

-- ---- a row is added before or after

-- a row goes before rows that all come after it
first_of_all : {B : Type 0} (row : Row B) (rows : List (Row B)) → list_all (comes_before row) rows ≡ true → with_row row rows ≡ row ∷ rows
first_of_all row [] all = refl
first_of_all row (x ∷ xs) all =
    ap (λ t. cond t (row ∷ x ∷ xs) (x ∷ with_row row xs)) (and_parts (comes_before row x) (list_all (comes_before row) xs) all).0

pub adding_commutes_with_choice : {B : Type 0} (p : Row B → Bool) (row : Row B) (rows : List (Row B)) → is_listed rows ≡ true
    → filter p (with_row row rows) ≡ cond (p row) (with_row row (filter p rows)) (filter p rows)
adding_commutes_with_choice p row [] up = refl
adding_commutes_with_choice {B} p row (x ∷ xs) up = go (comes_before row x) refl (adding_commutes_with_choice p row xs parts.1)
  where
    parts : (list_all (comes_before x) xs ≡ true) × (is_listed xs ≡ true)
    parts = and_parts (list_all (comes_before x) xs) (is_listed xs) up

    -- behind a row that stays, whether the new one stays or not
    behind : (t : Bool) → comes_before row x ≡ false
        → x ∷ cond t (with_row row (filter p xs)) (filter p xs) ≡ cond t (with_row row (x ∷ filter p xs)) (x ∷ filter p xs)
    behind true after = sym (ap (λ u. cond u (row ∷ x ∷ filter p xs) (x ∷ with_row row (filter p xs))) after)
    behind false after = refl

    past : (u : Bool) → comes_before row x ≡ false
        → filter p (with_row row xs) ≡ cond (p row) (with_row row (filter p xs)) (filter p xs)
        → cond u (x ∷ filter p (with_row row xs)) (filter p (with_row row xs)) ≡ cond (p row) (with_row row (cond u (x ∷ filter p xs) (filter p xs)))
        (cond u (x ∷ filter p xs) (filter p xs))
    past true after ih = ap (λ ys. x ∷ ys) ih ∙ behind (p row) after
    past false after ih = ih

    go : (t : Bool) → comes_before row x ≡ t
        → filter p (with_row row xs) ≡ cond (p row) (with_row row (filter p xs)) (filter p xs)
        → filter p (cond t (row ∷ x ∷ xs) (x ∷ with_row row xs)) ≡ cond (p row) (with_row row (filter p (x ∷ xs))) (filter p (x ∷ xs))
    go true before ih =
        let all = and_from (comes_before row x) (list_all (comes_before row) xs) before (all_after row x xs before parts.0) in
        ap (λ ys. cond (p row) ys (filter p (x ∷ xs))) (sym (first_of_all row (filter p (x ∷ xs)) (all-filter (comes_before row) p (x ∷ xs) all)))
    go false after ih = past (p x) after ih
