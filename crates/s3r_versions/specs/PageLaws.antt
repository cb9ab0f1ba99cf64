-- What is true of every page of a listing.
use Rattle.std.specs.Prelude.{◌≡◌, ℕ, ◌+◌, true, ◌⊎◌, ◌↔◌, List, [], ◌∷◌, ◌++◌, Option, Some, length, take, Contains}
use Rattle.std.specs.List.{list_all}
use Rattle.s3r_versions.specs.declared.row.Row.{Row}
use Rattle.s3r_versions.specs.declared.listing.ListPosition.{ListPosition}
use Rattle.s3r_versions.specs.declared.listing.Listed.{Listed}
use Rattle.s3r_versions.specs.Order.{comes_before, is_listed}
use Rattle.s3r_versions.specs.Lookup.{has_each_once}
use Rattle.s3r_versions.specs.Listing.{has_prefix, is_place_there, is_after, listed, entry_of, listing}

-- what is listed stands in the listing order
abbrev pub ListsInOrder : Type 0 → Type 0
ListsInOrder B = (prefix : List ℕ) (place : Option ListPosition) (rows : List (Row B)) → is_listed rows ≡ true → is_listed (listed prefix place rows) ≡ true

-- those rows are listed that have the prefix and stand after the place
abbrev pub ListsThose : Type 0 → Type 0
ListsThose B = (prefix : List ℕ) (place : Option ListPosition) (rows : List (Row B)) (row : Row B)
    → Contains (listed prefix place rows) row ↔ (Contains rows row × (has_prefix prefix row ≡ true) × (is_after place rows row ≡ true))

-- each of them is on the page, or more are said to follow and it stands behind each row of the page
abbrev pub ListsEach : Type 0 → Type 0
ListsEach B = (prefix : List ℕ) (place : Option ListPosition) (limit : ℕ) (rows : List (Row B)) (row : Row B) → is_listed rows ≡ true
    → Contains (listed prefix place rows) row
    → Contains (listing prefix place limit rows).entries (entry_of rows row)
    ⊎ (((listing prefix place limit rows).truncated ≡ true) × (list_all (λ other. comes_before other row) (take limit (listed prefix place rows)) ≡ true))

-- a page behind which more follow is full
abbrev pub CutPagesAreFull : Type 0 → Type 0
CutPagesAreFull B = (prefix : List ℕ) (place : Option ListPosition) (limit : ℕ) (rows : List (Row B))
    → (listing prefix place limit rows).truncated ≡ true → length (listing prefix place limit rows).entries ≡ limit

-- the place of an entry
abbrev pub place_of : Listed → ListPosition
place_of entry = record { key = entry.key; id = Some entry.id }

-- the page after the last entry of a page is there, and both in turn are the page of both limits
abbrev pub PagesFollow : Type 0 → Type 0
PagesFollow B = (prefix : List ℕ) (place : Option ListPosition) (limit more : ℕ) (rows : List (Row B)) (front : List Listed) (last : Listed)
    → is_listed rows ≡ true → has_each_once rows ≡ true
    → (listing prefix place limit rows).entries ≡ front ++ last ∷ []
    → (is_place_there (Some (place_of last)) rows ≡ true)
    × ((listing prefix place (limit + more) rows).entries ≡ (front ++ last ∷ []) ++ (listing prefix (Some (place_of last)) more rows).entries)
    × ((listing prefix place (limit + more) rows).truncated ≡ (listing prefix (Some (place_of last)) more rows).truncated)
