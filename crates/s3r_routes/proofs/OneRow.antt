-- No two rows of a place fit one request by one method.
use Rattle.std.proofs.Common.{◌≡◌, ℕ, zero, suc, Bool, true, false, ◌&&◌, ◌||◌, not, List, [], ◌∷◌, Some}
use Rattle.std.proofs.Common.{refl, sym, ap, ◌∙◌, subst, inl, inr}
use Rattle.std.specs.Prelude.{slice_get}
use Rattle.std.specs.List.{list_any, list_all}
use Rattle.std.specs.Str.{bytes_eq}
use Rattle.std.proofs.lemmas.Bool.{and_parts, or_cases}
use Rattle.std.proofs.lemmas.Slice.Eq.{bytes_eq-Decides}
use Rattle.s3r_routes.specs.Target.{Target, bucket, object, jobs, job, job_priority, job_status, copy, job_turn, work, check}
use Rattle.s3r_routes.specs.Query.{Pair}
use Rattle.s3r_routes.specs.Table.{TableRow, rows_at}
use Rattle.s3r_routes.specs.Rows.{is_word_of, is_there, is_met, fits, is_by}
use Rattle.s3r_routes.specs.Laws.{OneRowFits}

-- a word that one row needs and the other hasn't
abbrev lacks : TableRow → TableRow → Bool
lacks a b = list_any (λ word. not (is_word_of b word)) a.needs

-- the methods differ, or one row needs a word that the other hasn't
abbrev are_apart : TableRow → TableRow → Bool
are_apart a b = not (bytes_eq a.method b.method) || (lacks a b || lacks b a)

abbrev is_apart : List TableRow → Bool
is_apart [] = true
is_apart (row ∷ rows) = list_all (are_apart row) rows && is_apart rows

no_both : (b : Bool) → b ≡ true → not b ≡ true → ⊥
no_both true e f = cc
no_both false e f = cc

-- a word that is there is one that each row has which fits
has_word : (row : TableRow) (word : List ℕ) (query : List Pair) → list_all (λ (pair : Pair). is_word_of row pair.0) query ≡ true
    → is_there query word ≡ true → is_word_of row word ≡ true
has_word row word [] all there = cc
has_word row word (pair ∷ query) all there =
    let parts = and_parts (is_word_of row pair.0) (list_all (λ (p : Pair). is_word_of row p.0) query) all in
    elim (or_cases (bytes_eq pair.0 word) (is_there query word) there) [
      | inl here ↦ subst (λ w. is_word_of row w ≡ true) ((bytes_eq-Decides pair.0 word).0 here) parts.0
      | inr later ↦ has_word row word query parts.1 later
    ]

no_lack : (a b : TableRow) (query : List Pair) (needs : List (List ℕ)) → list_all (is_there query) needs ≡ true
    → list_all (λ (pair : Pair). is_word_of b pair.0) query ≡ true → list_any (λ word. not (is_word_of b word)) needs ≡ true → ⊥
no_lack a b query [] there all lack = cc
no_lack a b query (word ∷ needs) there all lack =
    let parts = and_parts (is_there query word) (list_all (is_there query) needs) there in
    elim (or_cases (not (is_word_of b word)) (list_any (λ w. not (is_word_of b w)) needs) lack) [
      | inl here ↦ no_both (is_word_of b word) (has_word b word query all parts.0) here
      | inr later ↦ no_lack a b query needs parts.1 all later
    ]

one_only : (a b : TableRow) (method : List ℕ) (query : List Pair) → are_apart a b ≡ true
    → fits query a ≡ true → is_by method a ≡ true → fits query b ≡ true → is_by method b ≡ true → ⊥
one_only a b method query apart fits_a by_a fits_b by_b =
    let in_a = and_parts (list_all (λ (p : Pair). is_word_of a p.0) query) (is_met query a) fits_a in
    let in_b = and_parts (list_all (λ (p : Pair). is_word_of b p.0) query) (is_met query b) fits_b in
    let same : bytes_eq a.method b.method ≡ true =
    (bytes_eq-Decides a.method b.method).1 ((bytes_eq-Decides a.method method).0 by_a ∙ sym ((bytes_eq-Decides b.method method).0 by_b)) in
    elim (or_cases (not (bytes_eq a.method b.method)) (lacks a b || lacks b a) apart) [
      | inl differ ↦ no_both (bytes_eq a.method b.method) same differ
      | inr lack ↦ elim (or_cases (lacks a b) (lacks b a) lack) [
        | inl one ↦ no_lack a b query a.needs in_a.1 in_b.0 one
        | inr other ↦ no_lack b a query b.needs in_b.1 in_a.0 other
      ]
    ]

abbrev Fitting : List TableRow → List ℕ → List Pair → ℕ → Type 0
Fitting rows method query index = (row : TableRow) × (slice_get rows index ≡ Some row) × (fits query row ≡ true) × (is_by method row ≡ true)

-- where the first row fits, no later one does
first_only : (row : TableRow) (rows : List TableRow) (method : List ℕ) (query : List Pair) (i : ℕ) → list_all (are_apart row) rows ≡ true
    → fits query row ≡ true → is_by method row ≡ true → Fitting rows method query i → ⊥
first_only row [] method query i apart fits_row by_row (found, is, fits_found, by_found) = absurd (cc is)
first_only row (next ∷ rows) method query zero apart fits_row by_row (found, is, fits_found, by_found) =
    let parts = and_parts (are_apart row next) (list_all (are_apart row) rows) apart in
    let same : next ≡ found = cc in
    one_only row next method query parts.0 fits_row by_row (ap (fits query) same ∙ fits_found) (ap (is_by method) same ∙ by_found)
first_only row (next ∷ rows) method query (suc i) apart fits_row by_row other =
    first_only row rows method query i (and_parts (are_apart row next) (list_all (are_apart row) rows) apart).1 fits_row by_row other

at_once : (rows : List TableRow) (method : List ℕ) (query : List Pair) (i j : ℕ) → is_apart rows ≡ true
    → Fitting rows method query i → Fitting rows method query j → i ≡ j
at_once [] method query i j apart (found, is, fits_found, by_found) other = absurd (cc is)
at_once (row ∷ rows) method query zero zero apart one other = refl
at_once (row ∷ rows) method query zero (suc j) apart (found, is, fits_found, by_found) other =
    let parts = and_parts (list_all (are_apart row) rows) (is_apart rows) apart in
    let same : row ≡ found = cc in
    absurd (first_only row rows method query j parts.0 (ap (fits query) same ∙ fits_found) (ap (is_by method) same ∙ by_found) other)
at_once (row ∷ rows) method query (suc i) zero apart one (found, is, fits_found, by_found) =
    let parts = and_parts (list_all (are_apart row) rows) (is_apart rows) apart in
    let same : row ≡ found = cc in
    absurd (first_only row rows method query i parts.0 (ap (fits query) same ∙ fits_found) (ap (is_by method) same ∙ by_found) one)
at_once (row ∷ rows) method query (suc i) (suc j) apart one other =
    ap suc (at_once rows method query i j (and_parts (list_all (are_apart row) rows) (is_apart rows) apart).1 one other)

rows_are_apart : (place : Target) → is_apart (rows_at place) ≡ true
rows_are_apart (bucket name) = refl
rows_are_apart (object name key) = refl
rows_are_apart jobs = refl
rows_are_apart (job id) = refl
rows_are_apart (job_priority id) = refl
rows_are_apart (job_status id) = refl
rows_are_apart copy = refl
rows_are_apart job_turn = refl
rows_are_apart work = refl
rows_are_apart check = refl

pub one_row_fits : OneRowFits
one_row_fits place method query i j one other = at_once (rows_at place) method query i j (rows_are_apart place) one other
