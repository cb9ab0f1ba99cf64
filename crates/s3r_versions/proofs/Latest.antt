-- Of rows in the listing order the first of a key is its latest.
use Rattle.std.proofs.Common.{◌≡◌, ℕ, zero, suc, arith, Bool, true, false, cond, not, ◌&&◌, ◌||◌, List, [], ◌∷◌, Option, Some, is_some, find, IfSome, Contains, refl, sym, ap, ◌∙◌}
use Rattle.std.specs.List.{list_any, list_all}
use Rattle.std.proofs.lemmas.Bool.{and_parts, and_from, and_right, or_from, or_parts, not-true}
use Rattle.s3r_versions.specs.declared.row.Row.{Row}
use Rattle.s3r_versions.specs.Order.{first_stamp, is_later, comes_before, is_listed}
use Rattle.s3r_versions.specs.Lookup.{is_of_key, is_latest, latest}
use Rattle.s3r_versions.proofs.Orders.{less_irrefl, stamp_order}
use Rattle.s3r_versions.proofs.ListingOrder.{before_asym, later_before}

-- what comes after a row isn't later, where it is of its key
not_later : {B : Type 0} (key : List ℕ) (x y : Row B) → is_of_key key x ≡ true → comes_before x y ≡ true → (is_of_key key y && is_later y x) ≡ false
not_later key x y same before = go (is_of_key key y && is_later y x) refl
  where
    go : (t : Bool) → (is_of_key key y && is_later y x) ≡ t → t ≡ false
    go false h = refl
    go true h =
        let parts = and_parts (is_of_key key y) (is_later y x) h in
        sym (later_before key y x parts.0 same parts.1) ∙ before_asym x y before

pub none_later : {B : Type 0} (key : List ℕ) (x : Row B) (rows : List (Row B)) → is_of_key key x ≡ true → list_all (comes_before x) rows ≡ true
    → list_any (λ other. is_of_key key other && is_later other x) rows ≡ false
none_later key x [] same before = refl
none_later key x (y ∷ ys) same before =
    let parts = and_parts (comes_before x y) (list_all (comes_before x) ys) before in
    or_from _ _ (not_later key x y same parts.0) (none_later key x ys same parts.1)

-- a row isn't later than itself
pub itself_not_later : {B : Type 0} (key : List ℕ) (x : Row B) → is_of_key key x ≡ true → (is_of_key key x && is_later x x) ≡ false
itself_not_later key x same = and_right (is_of_key key x) (is_later x x) (less_irrefl stamp_order (first_stamp x))

-- the search for the latest row, where it is known whether x is of the key
abbrev latest_past : {B : Type 0} → Bool → List ℕ → Row B → List (Row B) → List (Row B) → Option (Row B)
latest_past t key x rows from = find (λ row. is_of_key key row && not ((t && is_later x row) || list_any
    (λ other. is_of_key key other && is_later other row) rows)) from

pub first-is-latest : {B : Type 0} (key : List ℕ) (rows : List (Row B)) → is_listed rows ≡ true → find (is_of_key key) rows ≡ latest key rows
first-is-latest key [] up = refl
first-is-latest {B} key (x ∷ xs) up = go (is_of_key key x) refl (first-is-latest key xs parts.1)
  where
    parts : (list_all (comes_before x) xs ≡ true) × (is_listed xs ≡ true)
    parts = and_parts (list_all (comes_before x) xs) (is_listed xs) up

    go : (t : Bool) → is_of_key key x ≡ t → find (is_of_key key) xs ≡ latest key xs → find (is_of_key key) (x ∷ xs) ≡ latest key (x ∷ xs)
    go true h ih =
        let best : is_latest key (x ∷ xs) x ≡ true =
        and_from _ _ h (ap not (or_from _ _ (itself_not_later key x h) (none_later key x xs h parts.0))) in
        ap (λ t. cond t (Some x) (find (is_of_key key) xs)) h
        ∙ sym (ap (λ t. cond t (Some x) (find (is_latest key (x ∷ xs)) xs)) best)
    go false h ih =
        ap (λ t. cond t (Some x) (find (is_of_key key) xs)) h
        ∙ ih
        ∙ sym (ap (λ t. cond (t && not (list_any (λ other. is_of_key key other && is_later other x) (x ∷ xs))) (Some x) (latest_past t key x xs xs)) h)

-- ---- the latest row is the greatest of its key

-- what is found stands there and passes
pub found : {X : Type 0} (p : X → Bool) (xs : List X) (Q : X → Type 0) → ((x : X) → Contains xs x → p x ≡ true → Q x) → IfSome (find p xs) Q
found p [] Q gives = tt
found {X} p (x ∷ xs) Q gives = go (p x) refl (found p xs Q (λ y inside passes. gives y (suc inside.0, omega arith, inside.2) passes))
  where
    go : (t : Bool) → p x ≡ t → IfSome (find p xs) Q → IfSome (cond t (Some x) (find p xs)) Q
    go true h ih = gives x (zero, omega arith, refl) h
    go false h ih = ih

none_at : {X : Type 0} (p : X → Bool) (xs : List X) (y : X) → list_any p xs ≡ false → Contains xs y → p y ≡ false
none_at p [] y none (k, lt, e) = absurd (omega arith)
none_at p (x ∷ xs) y none (zero, lt, e) = ap p (sym e) ∙ (or_parts (p x) (list_any p xs) none).0
none_at p (x ∷ xs) y none (suc k, lt, e) = none_at p xs y (or_parts (p x) (list_any p xs) none).1 (k, omega arith, e)

pub latest_is_greatest : {B : Type 0} (key : List ℕ) (rows : List (Row B)) → IfSome (latest key rows) (λ row. Contains rows row
    × (is_of_key key row ≡ true)
    × ((other : Row B) → Contains rows other → is_of_key key other ≡ true → is_later other row ≡ false))
latest_is_greatest {B} key rows = found (is_latest key rows) rows _ (λ row inside best.
    let parts = and_parts (is_of_key key row) (not (list_any (λ other. is_of_key key other && is_later other row) rows)) best in (
      inside,
      parts.0,
      λ other there same.
          sym (ap (λ t. t && is_later other row) same) ∙ none_at (λ (o : Row B). is_of_key key o && is_later o row) rows other (not-true _ parts.1) there,
    ))

pub some-find : {X : Type 0} (p : X → Bool) (xs : List X) → is_some (find p xs) ≡ list_any p xs
some-find p [] = refl
some-find p (x ∷ xs) = go (p x) (some-find p xs)
  where
    go : (t : Bool) → is_some (find p xs) ≡ list_any p xs → is_some (cond t (Some x) (find p xs)) ≡ (t || list_any p xs)
    go true ih = refl
    go false ih = ih

pub latest_is_there : {B : Type 0} (key : List ℕ) (rows : List (Row B)) → is_listed rows ≡ true → is_some (latest key rows) ≡ list_any (is_of_key key) rows
latest_is_there key rows up = ap is_some (sym (first-is-latest key rows up)) ∙ some-find (is_of_key key) rows
