-- The listing order: strict, and one of two versions comes first.
use Rattle.std.proofs.Common.{◌≡◌, ℕ, Bool, true, false, ◌&&◌, ◌||◌, List, Ordering, Equal, nat_cmp, is_lt, is_eq, bytes_eq, refl, sym, ap, ap₂, ◌∙◌, true≢false}
use Rattle.std.specs.Cmp.Lexicographic.{slice_cmp, texts_ties}
use Rattle.std.specs.Ordering.{ordering_then}
use Rattle.std.proofs.lemmas.Cmp.{nat_list_cmp_total, nat_list_eq_equiv, on_total, then_total, back_total, tied_back, tied_itself}
use Rattle.std.proofs.lemmas.Bool.{and_parts, and_from, or_right}
use Rattle.s3r_versions.specs.declared.row.Row.{Row}
use Rattle.s3r_versions.specs.Order.{first_stamp, is_later, comes_before}
use Rattle.s3r_versions.specs.Lookup.{is_of_key, is_version}
use Rattle.s3r_versions.proofs.Orders.{IsLess, less_trans, less_asym, less_irrefl, less_back, stamp_cmp, stamp_order, lt-then, eq-then, id_tied}

abbrev row_cmp : {B : Type 0} → Row B → Row B → Ordering
row_cmp a b = ordering_then (slice_cmp nat_cmp a.key b.key) (stamp_cmp (first_stamp b) (first_stamp a))

row_order : {B : Type 0} → IsLess (row_cmp {B = B}) comes_before
row_order {B} = record {
  total = then_total (on_total (λ (row : Row B). row.key) nat_list_cmp_total) (back_total (on_total (first_stamp {B = B}) stamp_order.total));
  same = λ a b. lt-then (slice_cmp nat_cmp a.key b.key) _
      ∙ ap₂ (λ t u. is_lt (slice_cmp nat_cmp a.key b.key) || (t && u)) (sym (texts_ties a.key b.key)) (stamp_order.same (first_stamp b) (first_stamp a));
}

-- what the keys' order says of the rows'
pub comes_before-by : {B : Type 0} (a b : Row B) (o : Ordering) → o ≡ slice_cmp nat_cmp a.key b.key → comes_before a b ≡ (is_lt o || (is_eq o && is_later a b))
comes_before-by a b o h =
    ap (λ t. is_lt (slice_cmp nat_cmp a.key b.key) || (t && is_later a b)) (texts_ties a.key b.key)
    ∙ ap (λ r. is_lt r || (is_eq r && is_later a b)) (sym h)

pub before_trans : {B : Type 0} (a b c : Row B) → comes_before a b ≡ true → comes_before b c ≡ true → comes_before a c ≡ true
before_trans = less_trans row_order

pub before_asym : {B : Type 0} (a b : Row B) → comes_before a b ≡ true → comes_before b a ≡ false
before_asym = less_asym row_order

pub not_before_itself : {B : Type 0} (a : Row B) → comes_before a a ≡ false
not_before_itself = less_irrefl row_order

-- rows that the order doesn't tell apart are one version
same_version : {B : Type 0} (a b : Row B) → row_cmp a b ≡ Equal → is_version a.key a.id b ≡ true
same_version {B} a b e =
    let keys = (and_parts _ _ (sym (eq-then (slice_cmp nat_cmp b.key a.key) _) ∙ ap is_eq (tied_back (row_order {B = B}).total a b e))).0 in
    let stamps = (and_parts _ _ (sym (eq-then (slice_cmp nat_cmp a.key b.key) _) ∙ ap is_eq e)).1 in
    and_from _ _ (texts_ties b.key a.key ∙ keys) (id_tied b.id a.id (and_parts _ _ (sym (eq-then (nat_cmp b.n a.n) _) ∙ stamps)).1)

pub before_back : {B : Type 0} (a b : Row B) → is_version a.key a.id b ≡ false → comes_before a b ≡ false → comes_before b a ≡ true
before_back a b other h = less_back row_order a b (λ e. true≢false (sym (same_version a b e) ∙ other)) h

-- of one key, the later row comes before
pub later_before : {B : Type 0} (key : List ℕ) (a b : Row B) → is_of_key key a ≡ true → is_of_key key b ≡ true → is_later a b ≡ true → comes_before a b ≡ true
later_before key a b p q later =
    or_right _ _ (and_from (bytes_eq a.key b.key) _ (nat_list_eq_equiv.congr a.key key b.key p ∙ (nat_list_eq_equiv.symm key b.key ∙ q)) later)

pub is_own_version : {B : Type 0} (row : Row B) → is_version row.key row.id row ≡ true
is_own_version {B} row = same_version row row (tied_itself (row_order {B = B}).total row)

pub ranks_versions : {B : Type 0} (a b : Row B) → is_version a.key a.id b ≡ false → (comes_before a b || comes_before b a) ≡ true
ranks_versions a b other = go (comes_before a b) refl
  where
    go : (t : Bool) → comes_before a b ≡ t → (t || comes_before b a) ≡ true
    go true h = refl
    go false h = before_back a b other h
