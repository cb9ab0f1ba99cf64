-- The rows behind a place, and which rows are the latest of their keys.
use Rattle.std.proofs.Common.{◌≡◌, ℕ, zero, suc, ◌+◌, ◌-◌, ◌<◌, Bool, true, false, cond, not, ◌&&◌, ◌||◌, ◌⊎◌, inl, inr, List, [], ◌∷◌, ◌++◌, length, get_or, drop, filter, position, Option, Some, None, is_some, unwrap_or, nat_cmp, is_lt, bytes_eq, refl, sym, ap, ap₂, ◌∙◌, true≢false, arith, length-append, append_assoc}
use Rattle.std.specs.List.{list_all, list_any, position_or_len}
use Rattle.std.specs.Cmp.Lexicographic.{slice_cmp}
use Rattle.std.proofs.lemmas.Bool.{and_parts, and_from, or_cases, or_from, not-true}
use Rattle.std.proofs.lemmas.Cmp.{nat_list_cmp_total}
use Rattle.std.proofs.lemmas.List.{get_or_append_left, nil_from_length}
use Rattle.std.proofs.lemmas.List.Elements.{filter-append, filter_agree}
use Rattle.std.proofs.lemmas.Slice.Eq.{bytes_eq-Decides}
use Rattle.s3r_names.specs.declared.version.VersionId.{VersionId}
use Rattle.s3r_versions.specs.declared.row.Row.{Row}
use Rattle.s3r_versions.specs.Order.{comes_before, is_later, is_listed}
use Rattle.s3r_versions.specs.Lookup.{is_of_key, is_version, has_each_once, is_latest}
use Rattle.s3r_versions.specs.Listing.{is_behind}
use Rattle.s3r_versions.proofs.Orders.{IsLess, less_trans, less_irrefl}
use Rattle.s3r_versions.proofs.ListingOrder.{before_asym, not_before_itself}
use Rattle.s3r_versions.proofs.Latest.{some-find, none_later, itself_not_later}
use Rattle.s3r_versions.proofs.Adding.{place-is}
use Rattle.s3r_versions.proofs.Choosing.{filter_all, filter_none}
use Rattle.s3r_versions.proofs.Places.{Around, First, around, around-get_or, around-drop, first_at, find_there, pairs-around, none_behind}

or_false : (t : Bool) → (t || false) ≡ t
or_false true = refl
or_false false = refl

-- ---- keys

pub key_order : IsLess (slice_cmp nat_cmp) (λ a b. is_lt (slice_cmp nat_cmp a b))
key_order = record { total = nat_list_cmp_total; same = λ a b. refl }

-- a row before another has its key, or one below
keys_rise : {B : Type 0} (a b : Row B) → comes_before a b ≡ true → (is_lt (slice_cmp nat_cmp a.key b.key) ≡ true) ⊎ (a.key ≡ b.key)
keys_rise a b h =
    elim (or_cases _ _ h) [
      | inl less ↦ inl less
      | inr both ↦ inr ((bytes_eq-Decides a.key b.key).0 (and_parts (bytes_eq a.key b.key) (is_later a b) both).0)
    ]

-- a key that is below a row's is below those of all rows behind it
pub key_onward : {B : Type 0} (key : List ℕ) (a b : Row B) → comes_before a b ≡ true → is_lt (slice_cmp nat_cmp key a.key) ≡ true
    → is_lt (slice_cmp nat_cmp key b.key) ≡ true
key_onward key a b before below =
    elim (keys_rise a b before) [
      | inl less ↦ less_trans key_order key a.key b.key below less
      | inr same ↦ ap (λ k. is_lt (slice_cmp nat_cmp key k)) (sym same) ∙ below
    ]

-- ---- the rows behind a place

-- where a test that passes at a row passes at all behind it, the rows that pass are those from the first on
pub drop-onward : {B : Type 0} (p : Row B → Bool) (rows : List (Row B)) → ((a b : Row B) → comes_before a b ≡ true → p a ≡ true → p b ≡ true)
    → is_listed rows ≡ true → drop (position_or_len p rows) rows ≡ filter p rows
drop-onward p [] onward up = refl
drop-onward {B} p (x ∷ xs) onward up = go (p x) refl (drop-onward p xs onward parts.1)
  where
    parts : (list_all (comes_before x) xs ≡ true) × (is_listed xs ≡ true)
    parts = and_parts (list_all (comes_before x) xs) (is_listed xs) up

    all : p x ≡ true → (ys : List (Row B)) → list_all (comes_before x) ys ≡ true → list_all p ys ≡ true
    all h [] before = refl
    all h (y ∷ ys) before =
        let b = and_parts (comes_before x y) (list_all (comes_before x) ys) before in
        and_from _ _ (onward x y b.0 h) (all h ys b.1)

    go : (t : Bool) → p x ≡ t → drop (position_or_len p xs) xs ≡ filter p xs
        → drop (cond (not t) (1 + position_or_len p xs) 0) (x ∷ xs) ≡ cond t (x ∷ filter p xs) (filter p xs)
    go true h ih = ap (λ ys. x ∷ ys) (sym (filter_all p xs (all h xs parts.0)))
    go false h ih =
        let n = position_or_len p xs in
        let one : 1 + n ≡ suc n = omega arith in
        ap (λ k. drop k (x ∷ xs)) one ∙ ih

-- the rows behind one of them
pub filter-behind : {B : Type 0} (xs : List (Row B)) (x : Row B) (ys : List (Row B)) → is_listed (xs ++ x ∷ ys) ≡ true
    → filter (comes_before x) (xs ++ x ∷ ys) ≡ ys
filter-behind {B} xs x ys up =
    let parts = pairs-around comes_before xs x ys up in
    filter-append (comes_before x) xs (x ∷ ys)
    ∙ ap₂ (λ us vs. us ++ vs) (filter_none (comes_before x) xs (back xs parts.0))
    (ap (λ t. cond t (x ∷ filter (comes_before x) ys) (filter (comes_before x) ys)) (not_before_itself x) ∙ filter_all (comes_before x) ys parts.1)
  where
    back : (us : List (Row B)) → list_all (λ u. comes_before u x) us ≡ true → list_all (λ u. not (comes_before x u)) us ≡ true
    back [] h = refl
    back (u ∷ us) h =
        let p = and_parts (comes_before u x) (list_all (λ v. comes_before v x) us) h in
        and_from _ _ (ap not (before_asym u x p.0)) (back us p.1)

-- what is asked of the rows of a version is asked of its one row
pub only_named : {B : Type 0} (key : List ℕ) (id : VersionId) (rows : List (Row B)) (i : ℕ) (f : First (is_version key id) rows i) → has_each_once rows ≡ true
    → (q : Row B → Bool) → list_any (λ row. is_version key id row && q row) rows ≡ q f.here.at
only_named {B} key id rows i f once q = ap (list_any (λ row. is_version key id row && q row)) f.here.is ∙ go f.here.before f.none
  where
    off : (ys : List (Row B)) → list_all (λ row. not (is_version key id row)) ys ≡ true → list_any (λ row. is_version key id row && q row) ys ≡ false
    off [] h = refl
    off (y ∷ ys) h =
        let p = and_parts (not (is_version key id y)) (list_all (λ row. not (is_version key id row)) ys) h in
        or_from _ _ (ap (λ t. t && q y) (not-true (is_version key id y) p.0)) (off ys p.1)

    go : (ys : List (Row B)) → list_all (λ row. not (is_version key id row)) ys ≡ true
        → list_any (λ row. is_version key id row && q row) (ys ++ f.here.at ∷ f.here.behind) ≡ q f.here.at
    go [] h =
        ap₂ (λ t u. (t && q f.here.at) || u) f.passes (off f.here.behind (none_behind key id rows i f once)) ∙ or_false (q f.here.at)
    go (y ∷ ys) h =
        let p = and_parts (not (is_version key id y)) (list_all (λ row. not (is_version key id row)) ys) h in
        ap (λ t. (t && q y) || list_any (λ row. is_version key id row && q row) (ys ++ f.here.at ∷ f.here.behind)) (not-true (is_version key id y) p.0)
        ∙ go ys p.1

-- the rows behind a version, and whether it is there
pub drop-version : {B : Type 0} (key : List ℕ) (id : VersionId) (rows : List (Row B)) (i : ℕ) → is_listed rows ≡ true → has_each_once rows ≡ true
    → position (is_version key id) rows ≡ Some i
    → drop (i + 1) rows ≡ filter (is_behind key (Some id) rows) rows
drop-version key id rows i up once at =
    let f = first_at (is_version key id) rows i at in
    let one : i + 1 ≡ suc i = omega arith in
    ap (λ k. drop k rows) one
    ∙ around-drop rows i f.here
    ∙ sym (filter_agree (is_behind key (Some id) rows) (comes_before f.here.at) (λ row. only_named key id rows i f once (λ named. comes_before named row)) rows
    ∙ ap (filter (comes_before f.here.at)) f.here.is
    ∙ filter-behind f.here.before f.here.at f.here.behind (sym (ap is_listed f.here.is) ∙ up))

pub any_there : {X : Type 0} (p : X → Bool) (xs : List X) (o : Option ℕ) → o ≡ position p xs → is_some o ≡ list_any p xs
any_there p xs o h = find_there p xs o h ∙ some-find p xs

-- the rows behind all of keys up to this one
pub drop-key : {B : Type 0} (key : List ℕ) (rows : List (Row B)) (i : ℕ) → is_listed rows ≡ true
    → i ≡ unwrap_or (position (λ (row : Row B). is_lt (slice_cmp nat_cmp key row.key)) rows) (length rows)
    → drop i rows ≡ filter (is_behind key None rows) rows
drop-key {B} key rows i up at =
    let p : Row B → Bool = λ row. is_lt (slice_cmp nat_cmp key row.key) in
    ap (λ k. drop k rows) (at ∙ place-is p rows) ∙ drop-onward p rows (key_onward key) up

-- ---- the latest of a key

-- of one key, a row that comes before another is later
before_later : {B : Type 0} (a b : Row B) → bytes_eq a.key b.key ≡ true → comes_before a b ≡ true → is_later a b ≡ true
before_later a b same before =
    elim (or_cases _ _ before) [
      | inl less ↦ absurd (true≢false (sym less ∙ ap (λ k. is_lt (slice_cmp nat_cmp a.key k)) (sym ((bytes_eq-Decides a.key b.key).0 same))
          ∙ less_irrefl key_order a.key))
      | inr both ↦ (and_parts (bytes_eq a.key b.key) (is_later a b) both).1
    ]

-- a row is the latest of its key where none before it is of the key
pub latest-around : {B : Type 0} (rows : List (Row B)) (i : ℕ) (a : Around rows i) → is_listed rows ≡ true
    → is_latest a.at.key rows a.at ≡ not (list_any (is_of_key a.at.key) a.before)
latest-around {B} rows i a up =
    ap₂ (λ t u. t && not u) own (ap (list_any (λ other. is_of_key a.at.key other && is_later other a.at)) a.is ∙ go a.before parts.0)
  where
    own : is_of_key a.at.key a.at ≡ true
    own = (bytes_eq-Decides a.at.key a.at.key).1 refl

    parts : (list_all (λ y. comes_before y a.at) a.before ≡ true) × (list_all (comes_before a.at) a.behind ≡ true)
    parts = pairs-around comes_before a.before a.at a.behind (sym (ap is_listed a.is) ∙ up)

    later : (y : Row B) (t : Bool) → is_of_key a.at.key y ≡ t → comes_before y a.at ≡ true → (t && is_later y a.at) ≡ t
    later y true h before = before_later y a.at h before
    later y false h before = refl

    go : (ys : List (Row B)) → list_all (λ y. comes_before y a.at) ys ≡ true
        → list_any (λ other. is_of_key a.at.key other && is_later other a.at) (ys ++ a.at ∷ a.behind) ≡ list_any (is_of_key a.at.key) ys
    go [] h = or_from _ _ (itself_not_later a.at.key a.at own) (none_later a.at.key a.at a.behind own parts.1)
    go (y ∷ ys) h =
        let p = and_parts (comes_before y a.at) (list_all (λ z. comes_before z a.at) ys) h in
        ap₂ (λ t u. t || u) (later y (is_of_key a.at.key y) refl p.0) (go ys p.1)

-- the row before
pub record Previous {X : Type 0} (xs : List X) (j : ℕ) (a : Around xs (suc j)) : Type 0 where
  pub front : List X
  pub last : X
  pub is : a.before ≡ front ++ last ∷ []
  pub reads : (d : X) → get_or xs j d ≡ last

pub previous : {X : Type 0} (xs : List X) (j : ℕ) (a : Around xs (suc j)) → Previous xs j a
previous {X} xs j a = record {
  front = b.before;
  last = b.at;
  is = b.is ∙ ap (λ ys. b.before ++ b.at ∷ ys) (nil_from_length b.behind long);
  reads = λ d. ap (λ ys. get_or ys j d) a.is ∙ get_or_append_left a.before (a.at ∷ a.behind) d j inside ∙ around-get_or a.before j b d;
}
  where
    inside : j < length a.before
    inside = omega (arith, a.place)

    b : Around a.before j
    b = around a.before j inside

    long : length b.behind ≡ 0
    long = omega (arith, a.place, b.place, ap length b.is, length-append b.before (b.at ∷ b.behind))

-- a row is the latest of its key where the row before it isn't of the key
pub latest-previous : {B : Type 0} (rows : List (Row B)) (j : ℕ) (a : Around rows (suc j)) (p : Previous rows j a) → is_listed rows ≡ true
    → is_latest a.at.key rows a.at ≡ not (bytes_eq p.last.key a.at.key)
latest-previous {B} rows j a p up = latest-around rows (suc j) a up ∙ ap not (ap (list_any (is_of_key a.at.key)) p.is ∙ go p.front parts.0)
  where
    whole : rows ≡ p.front ++ p.last ∷ (a.at ∷ a.behind)
    whole = a.is ∙ ap (λ ys. ys ++ a.at ∷ a.behind) p.is ∙ append_assoc p.front (p.last ∷ []) (a.at ∷ a.behind)

    parts : (list_all (λ y. comes_before y p.last) p.front ≡ true) × (list_all (comes_before p.last) (a.at ∷ a.behind) ≡ true)
    parts = pairs-around comes_before p.front p.last (a.at ∷ a.behind) (sym (ap is_listed whole) ∙ up)

    next : comes_before p.last a.at ≡ true
    next = (and_parts (comes_before p.last a.at) (list_all (comes_before p.last) a.behind) parts.1).0

    -- a row before it of the key makes it of the key
    between : (y : Row B) → comes_before y p.last ≡ true → is_of_key a.at.key y ≡ true → is_of_key a.at.key p.last ≡ true
    between y h same =
        let key = (bytes_eq-Decides y.key a.at.key).0 same in
        elim (keys_rise p.last a.at next) [
          | inr equal ↦ (bytes_eq-Decides p.last.key a.at.key).1 equal
          | inl less ↦
              let below : is_lt (slice_cmp nat_cmp y.key a.at.key) ≡ true =
              elim (keys_rise y p.last h) [
                | inl lower ↦ less_trans key_order y.key p.last.key a.at.key lower less
                | inr level ↦ ap (λ k. is_lt (slice_cmp nat_cmp k a.at.key)) level ∙ less
              ] in
              absurd (true≢false (sym below ∙ ap (λ k. is_lt (slice_cmp nat_cmp k a.at.key)) key ∙ less_irrefl key_order a.at.key))
        ]

    absorb : (t u : Bool) → (t ≡ true → u ≡ true) → (t || u) ≡ u
    absorb true u h = sym (h refl)
    absorb false u h = refl

    go : (ys : List (Row B)) → list_all (λ y. comes_before y p.last) ys ≡ true → list_any (is_of_key a.at.key) (ys ++ p.last ∷ []) ≡ is_of_key a.at.key p.last
    go [] h = or_false (is_of_key a.at.key p.last)
    go (y ∷ ys) h =
        let q = and_parts (comes_before y p.last) (list_all (λ z. comes_before z p.last) ys) h in
        ap (λ t. is_of_key a.at.key y || t) (go ys q.1) ∙ absorb (is_of_key a.at.key y) (is_of_key a.at.key p.last) (between y q.0)

-- what is read at a place: the first row is the latest of its key, and another where the row before it is of another key
pub latest-first : {B : Type 0} (rows : List (Row B)) (i : ℕ) → is_listed rows ≡ true → i < length rows → i ≡ 0 → (x : Row B)
    → is_latest (get_or rows i x).key rows (get_or rows i x) ≡ true
latest-first rows i up inside none x =
    let a = around rows i inside in
    ap (λ y. is_latest y.key rows y) (around-get_or rows i a x)
    ∙ latest-around rows i a up
    ∙ ap (λ ys. not (list_any (is_of_key a.at.key) ys)) (nil_from_length a.before (a.place ∙ none))

pub latest-next : {B : Type 0} (rows : List (Row B)) (i : ℕ) → is_listed rows ≡ true → i < length rows → (i ≡ 0 → ⊥) → (d e x : Row B)
    → not (bytes_eq (get_or rows (i - 1) d).key (get_or rows i e).key) ≡ is_latest (get_or rows i x).key rows (get_or rows i x)
latest-next rows zero up inside more d e x = absurd (more refl)
latest-next rows (suc j) up inside more d e x =
    let a = around rows (suc j) inside in
    let p = previous rows j a in
    let less : suc j - 1 ≡ j = omega arith in
    ap (λ k. not (bytes_eq (get_or rows k d).key (get_or rows (suc j) e).key)) less
    ∙ ap₂ (λ u v. not (bytes_eq u.key v.key)) (p.reads d) (around-get_or rows (suc j) a e)
    ∙ sym (latest-previous rows j a p up)
    ∙ ap (λ y. is_latest y.key rows y) (sym (around-get_or rows (suc j) a x))
