-- What is true of the request table.
use Rattle.std.specs.Prelude.{◌≡◌, ℕ, true, List, Some, slice_get}
use Rattle.s3r_routes.specs.Target.{Target}
use Rattle.s3r_routes.specs.Query.{Pair}
use Rattle.s3r_routes.specs.Table.{TableRow, rows_at}
use Rattle.s3r_routes.specs.Rows.{fits, is_by}

-- the row at this index of the place's rows fits these words, by this method
abbrev pub FitsAt : Target → List ℕ → List Pair → ℕ → Type 0
FitsAt place method query index =
    (row : TableRow) × (slice_get (rows_at place) index ≡ Some row) × (fits query row ≡ true) × (is_by method row ≡ true)

-- Two rows of a place that fit one request by one method are the same row.
abbrev pub OneRowFits : Type 0
OneRowFits = (place : Target) (method : List ℕ) (query : List Pair) (i j : ℕ) → FitsAt place method query i → FitsAt place method query j → i ≡ j
