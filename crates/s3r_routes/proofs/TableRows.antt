-- The code's rows are rows of the table.
use Rattle.std.proofs.Common.{◌≡◌, ℕ, Bool, true, false, cond, ◌&&◌, ◌||◌, List, [], ◌∷◌, map, Some, refl, ap}
use Rattle.std.specs.Prelude.{option_map, find}
use Rattle.std.specs.List.{list_any}
use Rattle.std.specs.Str.{bytes_eq}
use Rattle.s3r_routes.specs.declared.words.Word.{Word}
use Rattle.s3r_routes.specs.declared.rows.Row.{Row}
use Rattle.s3r_routes.specs.Words.{word_text}
use Rattle.s3r_routes.specs.Query.{Pair}
use Rattle.s3r_routes.specs.Rows.{is_one_of, is_spelled, fits, is_by, fits_any, route_by, seen_row, fits_row, is_row_by, route_in}

pub or_nothing : (b : Bool) → (b || false) ≡ b
or_nothing true = refl
or_nothing false = refl

pub and_nothing : (b : Bool) → (b && true) ≡ b
and_nothing true = refl
and_nothing false = refl

any_map : {X Y : Type 0} (test : Y → Bool) (f : X → Y) (xs : List X) → list_any test (map f xs) ≡ list_any (λ x. test (f x)) xs
any_map test f [] = refl
any_map test f (x ∷ xs) = ap (λ b. test (f x) || b) (any_map test f xs)

pub any_of_texts : (words : List Word) (name : List ℕ) → is_one_of (map word_text words) name ≡ list_any (is_spelled name) words
any_of_texts words name = any_map (bytes_eq name) word_text words

pub any_of_rows : (rows : List Row) (query : List Pair) → fits_any (map seen_row rows) query ≡ list_any (fits_row query) rows
any_of_rows rows query = any_map (fits query) seen_row rows

route_if : (b : Bool) (method : List ℕ) (query : List Pair) (row : Row) (rows : List Row)
    → route_by (map seen_row rows) method query ≡ route_in rows method query
    → option_map (λ r. r.asks) (cond b (Some (seen_row row)) (find (λ r. fits query r && is_by method r) (map seen_row rows)))
    ≡ option_map (λ (r : Row). r.route) (cond b (Some row) (find (λ r. fits_row query r && is_row_by method r) rows))
route_if true method query row rows rest = refl
route_if false method query row rows rest = rest

pub route_of_rows : (rows : List Row) (method : List ℕ) (query : List Pair) → route_by (map seen_row rows) method query ≡ route_in rows method query
route_of_rows [] method query = refl
route_of_rows (row ∷ rows) method query = route_if (fits_row query row && is_row_by method row) method query row rows (route_of_rows rows method query)
