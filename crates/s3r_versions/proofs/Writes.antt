-- What comes of two writes about one version.
use Rattle.std.proofs.Common.{◌≡◌, ℕ, Bool, true, false, cond, List, [], ◌∷◌, refl, sym, ap, ap₂, ◌∙◌, true≢false}
use Rattle.std.proofs.lemmas.Bool.{false_from_ne_true}
use Rattle.s3r_names.specs.Stamp.{is_before}
use Rattle.s3r_names.specs.declared.stamp.Stamp.{Stamp}
use Rattle.s3r_names.specs.declared.tags.Tag.{Tag}
use Rattle.s3r_names.specs.declared.version.VersionId.{VersionId}
use Rattle.s3r_versions.specs.declared.row.Row.{Row}
use Rattle.s3r_versions.specs.Lookup.{is_version}
use Rattle.s3r_versions.specs.Contents.{if_version, on_version, with_tags, with_hold, KeepsPlace}
use Rattle.s3r_versions.proofs.Orders.{less_trans, less_asym, less_irrefl, stamp_order}
use Rattle.s3r_versions.proofs.Changing.{same_version, writes_keep_places}

-- a write under a stamp: what is there has a stamp, and what is put has the new one
record IsWrite {R X : Type 0} (at : R → Stamp) (put : Stamp → X → R → R) : Type 0 where
  stamped : (s : Stamp) (x : X) (r : R) → at (put s x r) ≡ s
  again : (s t : Stamp) (x y : X) (r : R) → put t y (put s x r) ≡ put t y r

abbrev write : {R X : Type 0} → (R → Stamp) → (Stamp → X → R → R) → Stamp → X → R → R
write at put s x r = cond (is_before (at r) s) (put s x r) r

greater_last : {R X : Type 0} (at : R → Stamp) (put : Stamp → X → R → R) (is : IsWrite at put) (s t : Stamp) (x y : X) (r : R) → is_before s t ≡ true
    → write at put t y (write at put s x r) ≡ write at put t y r
greater_last at put is s t x y r less = go (is_before (at r) s) refl
  where
    go : (u : Bool) → is_before (at r) s ≡ u → write at put t y (cond u (put s x r) r) ≡ write at put t y r
    go false h = refl
    go true h =
        ap (λ a. cond (is_before a t) (put t y (put s x r)) (put s x r)) (is.stamped s x r)
        ∙ ap (λ u. cond u (put t y (put s x r)) (put s x r)) less
        ∙ is.again s t x y r
        ∙ sym (ap (λ u. cond u (put t y r) r) (less_trans stamp_order (at r) s t h less))

greater_first : {R X : Type 0} (at : R → Stamp) (put : Stamp → X → R → R) (is : IsWrite at put) (s t : Stamp) (x y : X) (r : R) → is_before s t ≡ true
    → write at put s x (write at put t y r) ≡ write at put t y r
greater_first at put is s t x y r less = go (is_before (at r) t) refl
  where
    go : (u : Bool) → is_before (at r) t ≡ u → write at put s x (cond u (put t y r) r) ≡ cond u (put t y r) r
    go true h =
        ap (λ a. cond (is_before a s) (put s x (put t y r)) (put t y r)) (is.stamped t y r)
        ∙ ap (λ u. cond u (put s x (put t y r)) (put t y r)) (less_asym stamp_order s t less)
    go false h =
        let off = false_from_ne_true (is_before (at r) s) (λ e. true≢false (sym (less_trans stamp_order (at r) s t e less) ∙ h)) in
        ap (λ u. cond u (put s x r) r) off

first_stays : {R X : Type 0} (at : R → Stamp) (put : Stamp → X → R → R) (is : IsWrite at put) (s : Stamp) (x y : X) (r : R)
    → write at put s y (write at put s x r) ≡ write at put s x r
first_stays at put is s x y r = go (is_before (at r) s) refl
  where
    go : (u : Bool) → is_before (at r) s ≡ u → write at put s y (cond u (put s x r) r) ≡ cond u (put s x r) r
    go true h =
        ap (λ a. cond (is_before a s) (put s y (put s x r)) (put s x r)) (is.stamped s x r)
        ∙ ap (λ u. cond u (put s y (put s x r)) (put s x r)) (less_irrefl stamp_order s)
    go false h = ap (λ u. cond u (put s y r) r) h

-- ---- in rows

-- a change after another comes to a third in rows where it does in each
pub changes_join : {B : Type 0} (key : List ℕ) (id : VersionId) (f g h : Row B → Row B) → KeepsPlace f → ((row : Row B) → g (f row) ≡ h row)
    → (rows : List (Row B)) → on_version key id g (on_version key id f rows) ≡ on_version key id h rows
changes_join key id f g h keeps joins [] = refl
changes_join {B} key id f g h keeps joins (x ∷ xs) = ap₂ (λ y ys. y ∷ ys) (first (is_version key id x) refl) (changes_join key id f g h keeps joins xs)
  where
    first : (t : Bool) → is_version key id x ≡ t → if_version key id g (cond t (f x) x) ≡ cond t (h x) x
    first true e = ap (λ t. cond t (g (f x)) (f x)) (same_version f keeps key id x ∙ e) ∙ joins x
    first false e = ap (λ t. cond t (g x) x) e

tags_are_written : {B : Type 0} → IsWrite (λ (row : Row B). row.tags_stamp) (λ s (tags : List Tag) row. record row { tags = tags; tags_stamp = s })
tags_are_written = record { stamped = λ s x r. refl; again = λ s t x y r. refl }

hold_is_written : {B : Type 0} → IsWrite (λ (row : Row B). row.hold_stamp) (λ s (hold : Bool) row. record row { hold = hold; hold_stamp = s })
hold_is_written = record { stamped = λ s x r. refl; again = λ s t x y r. refl }

pub greater_tags_win : {B : Type 0} (key : List ℕ) (id : VersionId) (s t : Stamp) (a b : List Tag) (rows : List (Row B)) → is_before s t ≡ true
    → (on_version key id (with_tags t b) (on_version key id (with_tags s a) rows) ≡ on_version key id (with_tags t b) rows)
    × (on_version key id (with_tags s a) (on_version key id (with_tags t b) rows) ≡ on_version key id (with_tags t b) rows)
greater_tags_win key id s t a b rows less = (
  changes_join key id (with_tags s a) (with_tags t b) (with_tags t b) ((writes_keep_places s).0 a)
      (λ row. greater_last _ _ tags_are_written s t a b row less) rows,
  changes_join key id (with_tags t b) (with_tags s a) (with_tags t b) ((writes_keep_places t).0 b)
      (λ row. greater_first _ _ tags_are_written s t a b row less) rows,
)

pub greater_hold_wins : {B : Type 0} (key : List ℕ) (id : VersionId) (s t : Stamp) (a b : Bool) (rows : List (Row B)) → is_before s t ≡ true
    → (on_version key id (with_hold t b) (on_version key id (with_hold s a) rows) ≡ on_version key id (with_hold t b) rows)
    × (on_version key id (with_hold s a) (on_version key id (with_hold t b) rows) ≡ on_version key id (with_hold t b) rows)
greater_hold_wins key id s t a b rows less = (
  changes_join key id (with_hold s a) (with_hold t b) (with_hold t b) ((writes_keep_places s).1 a)
      (λ row. greater_last _ _ hold_is_written s t a b row less) rows,
  changes_join key id (with_hold t b) (with_hold s a) (with_hold t b) ((writes_keep_places t).1 b)
      (λ row. greater_first _ _ hold_is_written s t a b row less) rows,
)

pub first_tags_stay : {B : Type 0} (key : List ℕ) (id : VersionId) (s : Stamp) (a b : List Tag) (rows : List (Row B))
    → on_version key id (with_tags s b) (on_version key id (with_tags s a) rows) ≡ on_version key id (with_tags s a) rows
first_tags_stay key id s a b rows =
    changes_join key id (with_tags s a) (with_tags s b) (with_tags s a) ((writes_keep_places s).0 a) (λ row. first_stays _ _ tags_are_written s a b row) rows

pub first_hold_stays : {B : Type 0} (key : List ℕ) (id : VersionId) (s : Stamp) (a b : Bool) (rows : List (Row B))
    → on_version key id (with_hold s b) (on_version key id (with_hold s a) rows) ≡ on_version key id (with_hold s a) rows
first_hold_stays key id s a b rows =
    changes_join key id (with_hold s a) (with_hold s b) (with_hold s a) ((writes_keep_places s).1 a) (λ row. first_stays _ _ hold_is_written s a b row) rows
