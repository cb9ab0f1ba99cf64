-- What holds of rows to which one is added.
use Rattle.std.proofs.Common.{◌≡◌, ℕ, suc, ◌+◌, ◌≤◌, Bool, true, false, cond, not, nat_lt, List, [], ◌∷◌, length, insert, position, Some, None, is_some, unwrap_or, find, IsPermutation, refl, ap, subst, ◌∙◌, true≢false, arith, ltb-false}
use Rattle.std.specs.List.{list_all, position_or_len}
use Rattle.std.proofs.lemmas.Bool.{and_parts, and_from}
use Rattle.std.proofs.lemmas.List.Sorted.{IsPermutation-insert}
use Rattle.s3r_names.specs.declared.version.VersionId.{VersionId}
use Rattle.s3r_versions.specs.declared.row.Row.{Row}
use Rattle.s3r_versions.specs.Order.{comes_before, is_listed}
use Rattle.s3r_versions.specs.Lookup.{is_version, has_each_once, find_version}
use Rattle.s3r_versions.specs.Contents.{with_row}
use Rattle.s3r_versions.proofs.Versions.{version_sym}
use Rattle.s3r_versions.proofs.ListingOrder.{before_trans, before_back, is_own_version}

-- ---- the place

pub place_within : {X : Type 0} (p : X → Bool) (xs : List X) → position_or_len p xs ≤ length xs
place_within p [] = omega arith
place_within p (x ∷ xs) = go (not (p x)) (place_within p xs)
  where
    go : (t : Bool) → position_or_len p xs ≤ length xs → cond t (1 + position_or_len p xs) 0 ≤ suc (length xs)
    go true ih = omega arith
    go false ih = omega arith

pub place-is : {X : Type 0} (p : X → Bool) (xs : List X) → unwrap_or (position p xs) (length xs) ≡ position_or_len p xs
place-is p xs = go (nat_lt (position_or_len p xs) (length xs)) refl
  where
    go : (t : Bool) → nat_lt (position_or_len p xs) (length xs) ≡ t → unwrap_or (cond t (Some (position_or_len p xs)) None) (length xs) ≡ position_or_len p xs
    go true h = refl
    go false h = omega (arith, ltb-false (position_or_len p xs) (length xs) h, place_within p xs)

pub insert-is : {B : Type 0} (row : Row B) (rows : List (Row B)) → insert rows (position_or_len (comes_before row) rows) row ≡ with_row row rows
insert-is row [] = refl
insert-is row (x ∷ xs) = go (comes_before row x) (insert-is row xs)
  where
    go : (t : Bool) → insert xs (position_or_len (comes_before row) xs) row ≡ with_row row xs
        → insert (x ∷ xs) (cond (not t) (1 + position_or_len (comes_before row) xs) 0) row ≡ cond t (row ∷ x ∷ xs) (x ∷ with_row row xs)
    go true ih = refl
    go false ih =
        let n = position_or_len (comes_before row) xs in
        let one : 1 + n ≡ suc n = omega arith in
        ap (λ k. insert (x ∷ xs) k row) one ∙ ap (λ ys. x ∷ ys) ih

-- an insert at the first row that it comes before, or else at the end
pub goes_to : {B : Type 0} (row : Row B) (rows : List (Row B)) (i : ℕ) → i ≡ unwrap_or (position (comes_before row) rows) (length rows)
    → insert rows i row ≡ with_row row rows
goes_to row rows i h = ap (λ k. insert rows k row) (h ∙ place-is (comes_before row) rows) ∙ insert-is row rows

pub adds_one : {B : Type 0} (row : Row B) (rows : List (Row B)) → IsPermutation (row ∷ rows) (with_row row rows)
adds_one row rows = subst (IsPermutation (row ∷ rows)) (insert-is row rows) (IsPermutation-insert rows (position_or_len (comes_before row) rows) row)

-- ---- the order

pub all_after : {B : Type 0} (row x : Row B) (rows : List (Row B)) → comes_before row x ≡ true → list_all (comes_before x) rows ≡ true
    → list_all (comes_before row) rows ≡ true
all_after row x [] first rest = refl
all_after row x (y ∷ ys) first rest =
    let parts = and_parts (comes_before x y) (list_all (comes_before x) ys) rest in
    and_from _ _ (before_trans row x y first parts.0) (all_after row x ys first parts.1)

pub all-with_row : {B : Type 0} (p : Row B → Bool) (row : Row B) (rows : List (Row B)) → p row ≡ true → list_all p rows ≡ true
    → list_all p (with_row row rows) ≡ true
all-with_row p row [] here all = and_from _ _ here refl
all-with_row p row (x ∷ xs) here all = go (comes_before row x) (all-with_row p row xs here (and_parts (p x) (list_all p xs) all).1)
  where
    go : (t : Bool) → list_all p (with_row row xs) ≡ true → list_all p (cond t (row ∷ x ∷ xs) (x ∷ with_row row xs)) ≡ true
    go true ih = and_from _ _ here all
    go false ih = and_from _ _ (and_parts (p x) (list_all p xs) all).0 ih

-- where nothing is found, the first doesn't pass and nothing is found in the rest
none_parts : {X : Type 0} (p : X → Bool) (x : X) (xs : List X) → find p (x ∷ xs) ≡ None → (p x ≡ false) × (find p xs ≡ None)
none_parts {X} p x xs = go (p x)
  where
    go : (t : Bool) → cond t (Some x) (find p xs) ≡ None → (t ≡ false) × (find p xs ≡ None)
    go true h = absurd (true≢false (ap is_some h))
    go false h = (refl, h)

pub stays_listed : {B : Type 0} (row : Row B) (rows : List (Row B)) → is_listed rows ≡ true → find_version row.key row.id rows ≡ None
    → is_listed (with_row row rows) ≡ true
stays_listed row [] up new = refl
stays_listed row (x ∷ xs) up new = go (comes_before row x) refl (stays_listed row xs parts.1 news.1)
  where
    parts : (list_all (comes_before x) xs ≡ true) × (is_listed xs ≡ true)
    parts = and_parts (list_all (comes_before x) xs) (is_listed xs) up

    news : (is_version row.key row.id x ≡ false) × (find_version row.key row.id xs ≡ None)
    news = none_parts (is_version row.key row.id) x xs new

    go : (t : Bool) → comes_before row x ≡ t → is_listed (with_row row xs) ≡ true → is_listed (cond t (row ∷ x ∷ xs) (x ∷ with_row row xs)) ≡ true
    go true h ih = and_from _ _ (and_from _ _ h (all_after row x xs h parts.0)) up
    go false h ih = and_from _ _ (all-with_row (comes_before x) row xs (before_back row x news.0 h) parts.0) ih

-- what isn't found is no row
none_is : {X : Type 0} (p : X → Bool) (xs : List X) → find p xs ≡ None → list_all (λ x. not (p x)) xs ≡ true
none_is p [] none = refl
none_is p (x ∷ xs) none = let parts = none_parts p x xs none in and_from _ _ (ap not parts.0) (none_is p xs parts.1)

pub stays_once : {B : Type 0} (row : Row B) (rows : List (Row B)) → has_each_once rows ≡ true → find_version row.key row.id rows ≡ None
    → has_each_once (with_row row rows) ≡ true
stays_once row [] once new = refl
stays_once row (x ∷ xs) once new = go (comes_before row x) (stays_once row xs parts.1 news.1)
  where
    parts : (list_all (λ other. not (is_version x.key x.id other)) xs ≡ true) × (has_each_once xs ≡ true)
    parts = and_parts (list_all (λ other. not (is_version x.key x.id other)) xs) (has_each_once xs) once

    news : (is_version row.key row.id x ≡ false) × (find_version row.key row.id xs ≡ None)
    news = none_parts (is_version row.key row.id) x xs new

    go : (t : Bool) → has_each_once (with_row row xs) ≡ true → has_each_once (cond t (row ∷ x ∷ xs) (x ∷ with_row row xs)) ≡ true
    go true ih = and_from _ _ (none_is (is_version row.key row.id) (x ∷ xs) new) once
    go false ih =
        and_from _ _ (all-with_row (λ other. not (is_version x.key x.id other)) row xs (ap not (version_sym x row ∙ news.0)) parts.0) ih

-- ---- what is found

find-with_row : {B : Type 0} (p : Row B → Bool) (row : Row B) (rows : List (Row B)) → p row ≡ true → find p rows ≡ None → find p (with_row row rows) ≡ Some row
find-with_row p row [] here none = ap (λ t. cond t (Some row) None) here
find-with_row p row (x ∷ xs) here none = go (comes_before row x) (find-with_row p row xs here parts.1)
  where
    parts : (p x ≡ false) × (find p xs ≡ None)
    parts = none_parts p x xs none

    go : (t : Bool) → find p (with_row row xs) ≡ Some row → find p (cond t (row ∷ x ∷ xs) (x ∷ with_row row xs)) ≡ Some row
    go true ih = ap (λ t. cond t (Some row) (find p (x ∷ xs))) here
    go false ih = ap (λ t. cond t (Some x) (find p (with_row row xs))) parts.0 ∙ ih

find-with_other : {B : Type 0} (p : Row B → Bool) (row : Row B) (rows : List (Row B)) → p row ≡ false → find p (with_row row rows) ≡ find p rows
find-with_other p row [] other = ap (λ t. cond t (Some row) None) other
find-with_other p row (x ∷ xs) other = go (comes_before row x) (find-with_other p row xs other)
  where
    go : (t : Bool) → find p (with_row row xs) ≡ find p xs → find p (cond t (row ∷ x ∷ xs) (x ∷ with_row row xs)) ≡ find p (x ∷ xs)
    go true ih = ap (λ t. cond t (Some row) (find p (x ∷ xs))) other
    go false ih = ap (λ ys. cond (p x) (Some x) ys) ih

pub finds_it : {B : Type 0} (row : Row B) (rows : List (Row B)) → find_version row.key row.id rows ≡ None
    → find_version row.key row.id (with_row row rows) ≡ Some row
finds_it row rows new = find-with_row (is_version row.key row.id) row rows (is_own_version row) new

pub finds_others : {B : Type 0} (row : Row B) (rows : List (Row B)) (key : List ℕ) (id : VersionId) → is_version key id row ≡ false
    → find_version key id (with_row row rows) ≡ find_version key id rows
finds_others row rows key id other = find-with_other (is_version key id) row rows other
