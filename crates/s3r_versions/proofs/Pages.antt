-- Pages of a listing.
use Rattle.std.proofs.Common.{◌≡◌, ℕ, zero, suc, ◌+◌, ◌<◌, ◌≤◌, subst, Bool, true, false, cond, not, ◌&&◌, ◌↔◌, ◌⊎◌, inl, inr, nat_lt, List, [], ◌∷◌, ◌++◌, length, map, filter, take, drop, get_or, Option, Some, None, Contains, refl, sym, ap, ap₂, ◌∙◌, arith, ltb-true, lt-ltb, le-ltb, length-append, append_assoc}
use Rattle.std.specs.List.{list_all, list_any}
use Rattle.std.proofs.lemmas.Bool.{and_parts, and_from, or_cases, or_left, or_right}
use Rattle.std.proofs.lemmas.List.{append-nil, map-append, length-map, drop_more, take_at, take_all, take-append-drop, length-drop}
use Rattle.std.proofs.lemmas.List.Elements.{filter_agree, Contains-append_right}
use Rattle.std.proofs.lemmas.Bool.Decides.{nat_tests}
use Rattle.s3r_names.specs.declared.version.VersionId.{VersionId}
use Rattle.s3r_versions.specs.declared.row.Row.{Row}
use Rattle.s3r_versions.specs.declared.listing.ListPosition.{ListPosition}
use Rattle.s3r_versions.specs.declared.listing.Listed.{Listed}
use Rattle.s3r_versions.specs.declared.listing.Listing.{Listing}
use Rattle.s3r_versions.specs.Order.{all_pairs, comes_before, is_listed}
use Rattle.s3r_versions.specs.Lookup.{is_version, has_each_once}
use Rattle.s3r_versions.specs.Listing.{has_prefix, is_place_there, is_after, is_behind, listed, entry_of, page_of, listing}
use Rattle.s3r_versions.specs.PageLaws.{place_of}
use Rattle.s3r_versions.proofs.ListingOrder.{before_trans, is_own_version}
use Rattle.s3r_versions.proofs.Versions.{version_sym}
use Rattle.s3r_versions.proofs.Choosing.{pairs-filter}
use Rattle.s3r_versions.proofs.Places.{Around, First, around, around-get_or, pairs-around}
use Rattle.s3r_versions.proofs.Behind.{key_onward, filter-behind, only_named}

-- ---- a page as it is filled

-- the entries of the rows found so far, no more than the limit, and what is left of the rows
pub record SoFar {B : Type 0} (prefix : List ℕ) (rows : List (Row B)) (start limit : ℕ) (entries : List Listed) (place : ℕ) : Type 0 where
  pub found : List (Row B)
  pub shown : entries ≡ map (entry_of rows) found
  pub left : filter (has_prefix prefix) (drop start rows) ≡ found ++ filter (has_prefix prefix) (drop place rows)
  pub short : length found ≤ limit

-- the row at a place is the next of what is left
next : {B : Type 0} (p : Row B → Bool) (rows : List (Row B)) (place : ℕ) (row : Row B) (t : Bool) → place < length rows → row ≡ get_or rows place row
    → p row ≡ t
    → filter p (drop place rows) ≡ cond t (row ∷ filter p (drop (place + 1) rows)) (filter p (drop (place + 1) rows))
next p rows place row t inside read is =
    ap (filter p) (drop_more rows place row inside ∙ ap (λ x. x ∷ drop (place + 1) rows) (sym read))
    ∙ ap (λ u. cond u (row ∷ filter p (drop (place + 1) rows)) (filter p (drop (place + 1) rows))) is

pub none_yet : {B : Type 0} (prefix : List ℕ) (rows : List (Row B)) (start limit : ℕ) (entries : List Listed) → entries ≡ []
    → SoFar prefix rows start limit entries start
none_yet prefix rows start limit entries empty = record { found = []; shown = empty; left = refl; short = omega arith }

pub passed_over : {B : Type 0} (prefix : List ℕ) (rows : List (Row B)) (start limit place : ℕ) (entries : List Listed) (row : Row B)
    → SoFar prefix rows start limit entries place
    → place < length rows → row ≡ get_or rows place row → has_prefix prefix row ≡ false → SoFar prefix rows start limit entries (place + 1)
passed_over prefix rows start limit place entries row so inside read off = record {
  found = so.found;
  shown = so.shown;
  left = so.left ∙ ap (λ ys. so.found ++ ys) (next (has_prefix prefix) rows place row false inside read off);
  short = so.short;
}

pub one_more : {B : Type 0} (prefix : List ℕ) (rows : List (Row B)) (start limit place : ℕ) (entries new : List Listed) (row : Row B) (entry : Listed)
    → SoFar prefix rows start limit entries place
    → place < length rows → row ≡ get_or rows place row → has_prefix prefix row ≡ true → entry ≡ entry_of rows row → (length entries ≡ limit → ⊥)
    → new ≡ entries ++ entry ∷ [] → SoFar prefix rows start limit new (place + 1)
one_more prefix rows start limit place entries new row entry so inside read on made room pushed = record {
  found = so.found ++ row ∷ [];
  shown = pushed ∙ ap₂ (λ es e. es ++ e ∷ []) so.shown made ∙ sym (map-append (entry_of rows) so.found (row ∷ []));
  left = so.left
      ∙ ap (λ ys. so.found ++ ys) (next (has_prefix prefix) rows place row true inside read on)
      ∙ sym (append_assoc so.found (row ∷ []) (filter (has_prefix prefix) (drop (place + 1) rows)));
  short = omega (arith, so.short, length-append so.found (row ∷ []), room, ap length so.shown, length-map so.found (entry_of rows));
}

-- ---- a page that is full, or that nothing is left for

pub cut_page : {B : Type 0} (prefix : List ℕ) (rows : List (Row B)) (start limit place : ℕ) (entries : List Listed) (row : Row B)
    → SoFar prefix rows start limit entries place
    → place < length rows → row ≡ get_or rows place row → has_prefix prefix row ≡ true → length entries ≡ limit
    → (let page : Listing = record { entries = entries; truncated = true } in page) ≡ page_of limit rows (filter (has_prefix prefix) (drop start rows))
cut_page {B} prefix rows start limit place entries row so inside read on full =
    let rest = filter (has_prefix prefix) (drop (place + 1) rows) in
    let all : filter (has_prefix prefix) (drop start rows) ≡ so.found ++ row ∷ rest =
    so.left ∙ ap (λ ys. so.found ++ ys) (next (has_prefix prefix) rows place row true inside read on) in
    let long : length so.found ≡ limit = sym (length-map so.found (entry_of rows)) ∙ sym (ap length so.shown) ∙ full in
    let more : limit < length (so.found ++ row ∷ rest) = omega (arith, long, length-append so.found (row ∷ rest)) in
    ap₂ (λ es t. let page : Listing = record { entries = es; truncated = t } in page)
    (so.shown ∙ ap (map (entry_of rows)) (sym (take_at so.found (row ∷ rest) limit long)))
    (sym (lt-ltb limit (length (so.found ++ row ∷ rest)) more))
    ∙ ap (page_of limit rows) (sym all)

pub last_page : {B : Type 0} (prefix : List ℕ) (rows : List (Row B)) (start limit place : ℕ) (entries : List Listed)
    → SoFar prefix rows start limit entries place → drop place rows ≡ []
    → (let page : Listing = record { entries = entries; truncated = false } in page) ≡ page_of limit rows (filter (has_prefix prefix) (drop start rows))
last_page prefix rows start limit place entries so none =
    let all : filter (has_prefix prefix) (drop start rows) ≡ so.found =
    so.left ∙ ap (λ ys. so.found ++ filter (has_prefix prefix) ys) none ∙ append-nil so.found in
    ap₂ (λ es t. let page : Listing = record { entries = es; truncated = t } in page)
    (so.shown ∙ ap (map (entry_of rows)) (sym (take_all limit so.found so.short)))
    (sym (le-ltb limit (length so.found) so.short))
    ∙ ap (page_of limit rows) (sym all)

filter-filter : {X : Type 0} (p q : X → Bool) (xs : List X) → filter q (filter p xs) ≡ filter (λ x. p x && q x) xs
filter-filter p q [] = refl
filter-filter p q (x ∷ xs) = go (p x) (filter-filter p q xs)
  where
    go : (t : Bool) → filter q (filter p xs) ≡ filter (λ x. p x && q x) xs
        → filter q (cond t (x ∷ filter p xs) (filter p xs)) ≡ cond (t && q x) (x ∷ filter (λ x. p x && q x) xs) (filter (λ x. p x && q x) xs)
    go true ih = ap (λ ys. cond (q x) (x ∷ ys) ys) ih
    go false ih = ih

-- the rows with the prefix from where those after the place begin
pub page-listing : {B : Type 0} (prefix : List ℕ) (place : Option ListPosition) (limit start : ℕ) (rows : List (Row B))
    → drop start rows ≡ filter (is_after place rows) rows
    → page_of limit rows (filter (has_prefix prefix) (drop start rows)) ≡ listing prefix place limit rows
page-listing prefix place limit start rows from =
    ap (page_of limit rows)
    (ap (filter (has_prefix prefix)) from
    ∙ filter-filter (is_after place rows) (has_prefix prefix) rows
    ∙ filter_agree (λ row. is_after place rows row && has_prefix prefix row) (λ row. has_prefix prefix row && is_after place rows row)
    (λ row. swap (is_after place rows row) (has_prefix prefix row)) rows)
  where
    swap : (a b : Bool) → (a && b) ≡ (b && a)
    swap true true = refl
    swap true false = refl
    swap false true = refl
    swap false false = refl

-- ---- what is listed

pub lists_in_order : {B : Type 0} (prefix : List ℕ) (place : Option ListPosition) (rows : List (Row B)) → is_listed rows ≡ true
    → is_listed (listed prefix place rows) ≡ true
lists_in_order prefix place rows up = pairs-filter comes_before (λ row. has_prefix prefix row && is_after place rows row) rows up

-- what a filter leaves stood there and passes, and each that passes is left
filter-contains : {X : Type 0} (p : X → Bool) (xs : List X) (x : X) → Contains (filter p xs) x ↔ (Contains xs x × (p x ≡ true))
filter-contains {X} p xs x = (out xs, λ both. into xs both.0 both.1)
  where
    out : (ys : List X) → Contains (filter p ys) x → Contains ys x × (p x ≡ true)
    out [] (k, lt, e) = absurd (omega arith)
    out (y ∷ ys) h = go (p y) refl h (out ys)
      where
        deeper : Contains ys x × (p x ≡ true) → Contains (y ∷ ys) x × (p x ≡ true)
        deeper both = ((suc both.0.0, omega arith, both.0.2), both.1)

        go : (t : Bool) → p y ≡ t → Contains (cond t (y ∷ filter p ys) (filter p ys)) x → (Contains (filter p ys) x → Contains ys x × (p x ≡ true))
            → Contains (y ∷ ys) x × (p x ≡ true)
        go true on (zero, lt, e) rest = ((zero, omega arith, e), ap p (sym e) ∙ on)
        go true on (suc k, lt, e) rest = deeper (rest (k, omega arith, e))
        go false off inside rest = deeper (rest inside)

    into : (ys : List X) → Contains ys x → p x ≡ true → Contains (filter p ys) x
    into [] (k, lt, e) on = absurd (omega arith)
    into (y ∷ ys) (zero, lt, e) on =
        subst (λ zs. Contains zs x) (sym (ap (λ t. cond t (y ∷ filter p ys) (filter p ys)) (ap p e ∙ on))) (zero, omega arith, e)
    into (y ∷ ys) (suc k, lt, e) on = go (p y) (into ys (k, omega arith, e) on)
      where
        go : (t : Bool) → Contains (filter p ys) x → Contains (cond t (y ∷ filter p ys) (filter p ys)) x
        go true inside = (suc inside.0, omega arith, inside.2)
        go false inside = inside

pub lists_those : {B : Type 0} (prefix : List ℕ) (place : Option ListPosition) (rows : List (Row B)) (row : Row B)
    → Contains (listed prefix place rows) row ↔ (Contains rows row × (has_prefix prefix row ≡ true) × (is_after place rows row ≡ true))
lists_those {B} prefix place rows row =
    let passes : Row B → Bool = λ row. has_prefix prefix row && is_after place rows row in
    let both = filter-contains passes rows row in (
      λ inside. let h = both.0 inside in let parts = and_parts (has_prefix prefix row) (is_after place rows row) h.1 in (h.0, parts.0, parts.1),
      λ parts. both.1 (parts.0, and_from _ _ parts.1 parts.2),
    )

-- ---- a page and what follows it

map-contains : {X Y : Type 0} (f : X → Y) (xs : List X) (x : X) → Contains xs x → Contains (map f xs) (f x)
map-contains f [] x (k, lt, e) = absurd (omega arith)
map-contains f (y ∷ ys) x (zero, lt, e) = (zero, omega arith, ap f e)
map-contains f (y ∷ ys) x (suc k, lt, e) = let h = map-contains f ys x (k, omega arith, e) in (suc h.0, omega arith, h.2)

-- an element is among the first, or behind each of them
among-first : {X : Type 0} (r : X → X → Bool) (n : ℕ) (xs : List X) (x : X) → all_pairs r xs ≡ true → Contains xs x → Contains (take n xs) x
    ⊎ ((nat_lt n (length xs) ≡ true) × (list_all (λ y. r y x) (take n xs) ≡ true))
among-first r n [] x up (k, lt, e) = absurd (omega arith)
among-first r zero (y ∷ ys) x up inside = inr (lt-ltb zero (suc (length ys)) (omega arith), refl)
among-first r (suc n) (y ∷ ys) x up (zero, lt, e) = inl (zero, omega arith, e)
among-first r (suc n) (y ∷ ys) x up (suc k, lt, e) =
    let parts = and_parts (list_all (r y) ys) (all_pairs r ys) up in
    let there = let i : Contains ys x = (k, omega arith, e) in i in
    elim (among-first r n ys x parts.1 there) [
      | inl page ↦ inl (suc page.0, omega arith, page.2)
      | inr rest ↦ inr (lt-ltb (suc n) (suc (length ys)) (omega (arith, ltb-true n (length ys) rest.0)), and_from _ _ (all-at (r y) ys x parts.0 there) rest.1)
    ]
  where
    all-at : {X : Type 0} (p : X → Bool) (zs : List X) (z : X) → list_all p zs ≡ true → Contains zs z → p z ≡ true
    all-at p [] z all (k, lt, e) = absurd (omega arith)
    all-at p (u ∷ us) z all (zero, lt, e) = ap p (sym e) ∙ (and_parts (p u) (list_all p us) all).0
    all-at p (u ∷ us) z all (suc k, lt, e) = all-at p us z (and_parts (p u) (list_all p us) all).1 (k, omega arith, e)

pub lists_each : {B : Type 0} (prefix : List ℕ) (place : Option ListPosition) (limit : ℕ) (rows : List (Row B)) (row : Row B) → is_listed rows ≡ true
    → Contains (listed prefix place rows) row
    → Contains (listing prefix place limit rows).entries (entry_of rows row)
    ⊎ (((listing prefix place limit rows).truncated ≡ true) × (list_all (λ other. comes_before other row) (take limit (listed prefix place rows)) ≡ true))
lists_each prefix place limit rows row up inside =
    let found = listed prefix place rows in
    elim (among-first comes_before limit found row (lists_in_order prefix place rows up) inside) [
      | inl page ↦ inl (map-contains (entry_of rows) (take limit found) row page)
      | inr rest ↦ inr rest
    ]

-- ---- one page after another

-- the last of a list that is mapped
last_of : {X Y : Type 0} (f : X → Y) (xs : List X) (front : List Y) (last : Y) → map f xs ≡ front ++ last ∷ [] → (before : List X) × (x : X)
    × (xs ≡ before ++ x ∷ []) × (f x ≡ last)
last_of f [] front last h = absurd (omega (arith, ap length h, length-append front (last ∷ [])))
last_of f (y ∷ []) [] last h = ([], y, refl, cc)
last_of f (y ∷ []) (z ∷ zs) last h = absurd (omega (arith, ap length h, length-append (z ∷ zs) (last ∷ [])))
last_of f (y ∷ z ∷ zs) [] last h = absurd (omega (arith, ap length h))
last_of f (y ∷ z ∷ zs) (u ∷ us) last h =
    let rest : map f (z ∷ zs) ≡ us ++ last ∷ [] = cc in
    let tail = last_of f (z ∷ zs) us last rest in
    (y ∷ tail.0, tail.1, ap (λ ys. y ∷ ys) tail.2, tail.3)

take-add : {X : Type 0} (m n : ℕ) (xs : List X) → take (m + n) xs ≡ take m xs ++ take n (drop m xs)
take-add zero n xs = let e : zero + n ≡ n = omega arith in ap (λ k. take k xs) e
take-add (suc m) zero [] = let e : suc m + zero ≡ suc m = omega arith in ap (λ k. take k []) e
take-add (suc m) (suc n) [] = let e : suc m + suc n ≡ suc (m + suc n) = omega arith in ap (λ k. take k []) e
take-add (suc m) n (x ∷ xs) =
    let e : suc m + n ≡ suc (m + n) = omega arith in
    ap (λ k. take k (x ∷ xs)) e ∙ ap (λ ys. x ∷ ys) (take-add m n xs)

any-contains : {X : Type 0} (p : X → Bool) (xs : List X) (x : X) → Contains xs x → p x ≡ true → list_any p xs ≡ true
any-contains p [] x (k, lt, e) on = absurd (omega arith)
any-contains p (y ∷ ys) x (zero, lt, e) on = or_left (p y) (list_any p ys) (ap p e ∙ on)
any-contains p (y ∷ ys) x (suc k, lt, e) on = or_right (p y) (list_any p ys) (any-contains p ys x (k, omega arith, e) on)

any-weaker : {X : Type 0} (p q : X → Bool) (xs : List X) → ((x : X) → p x ≡ true → q x ≡ true) → list_any p xs ≡ true → list_any q xs ≡ true
any-weaker p q [] weaker h = h
any-weaker p q (x ∷ xs) weaker h =
    elim (or_cases (p x) (list_any p xs) h) [
      | inl here ↦ or_left (q x) (list_any q xs) (weaker x here)
      | inr rest ↦ or_right (q x) (list_any q xs) (any-weaker p q xs weaker rest)
    ]

-- what stands behind a row that is after a place is after it too
after_onward : {B : Type 0} (place : Option ListPosition) (rows : List (Row B)) (a b : Row B) → comes_before a b ≡ true → is_after place rows a ≡ true
    → is_after place rows b ≡ true
after_onward None rows a b before h = refl
after_onward {B} (Some place) rows a b before h = go place.id h
  where
    go : (id : Option VersionId) → is_behind place.key id rows a ≡ true → is_behind place.key id rows b ≡ true
    go None behind = key_onward place.key a b before behind
    go (Some id) behind =
        any-weaker (λ named. is_version place.key id named && comes_before named a) (λ named. is_version place.key id named && comes_before named b) rows
        (λ named both. let parts = and_parts (is_version place.key id named) (comes_before named a) both in
        and_from _ _ parts.0 (before_trans named a b parts.1 before)) behind

-- a row is the first of its version
own_first : {B : Type 0} (rows : List (Row B)) (x : Row B) → has_each_once rows ≡ true → Contains rows x → (i : ℕ)
    × (f : First (is_version x.key x.id) rows i) × (f.here.at ≡ x)
own_first {B} rows x once (k, lt, e) = (k, record { here = a; passes = ap (is_version x.key x.id) same ∙ is_own_version x; none = go a.before apart }, same)
  where
    a : Around rows k
    a = around rows k lt

    same : a.at ≡ x
    same = sym (around-get_or rows k a x) ∙ e

    apart : list_all (λ y. not (is_version y.key y.id x)) a.before ≡ true
    apart =
        subst (λ (z : Row B). list_all (λ y. not (is_version y.key y.id z)) a.before ≡ true) same
        (pairs-around (λ row other. not (is_version row.key row.id other)) a.before a.at a.behind (sym (ap has_each_once a.is) ∙ once)).0

    go : (ys : List (Row B)) → list_all (λ y. not (is_version y.key y.id x)) ys ≡ true → list_all (λ y. not (is_version x.key x.id y)) ys ≡ true
    go [] h = refl
    go (y ∷ ys) h =
        let parts = and_parts (not (is_version y.key y.id x)) (list_all (λ z. not (is_version z.key z.id x)) ys) h in
        and_from _ _ (ap not (version_sym x y) ∙ parts.0) (go ys parts.1)

-- a row that is listed
listed-parts : {B : Type 0} (prefix : List ℕ) (place : Option ListPosition) (rows before behind : List (Row B)) (x : Row B)
    → listed prefix place rows ≡ before ++ x ∷ behind
    → Contains rows x × (has_prefix prefix x ≡ true) × (is_after place rows x ≡ true)
listed-parts prefix place rows before behind x split =
    (lists_those prefix place rows x).0 (subst (λ ys. Contains ys x) (sym split) (Contains-append_right before (x ∷ behind) x (zero, omega arith, refl)))

-- what is listed after a listed row is what follows it there
listed-after : {B : Type 0} (prefix : List ℕ) (place : Option ListPosition) (rows before behind : List (Row B)) (x : Row B) → is_listed rows ≡ true
    → has_each_once rows ≡ true
    → listed prefix place rows ≡ before ++ x ∷ behind → listed prefix (Some (record { key = x.key; id = Some x.id })) rows ≡ behind
listed-after {B} prefix place rows before behind x up once split =
    filter_agree _ (λ row. passes row && comes_before x row) agree rows
    ∙ sym (filter-filter passes (comes_before x) rows)
    ∙ ap (filter (comes_before x)) split
    ∙ filter-behind before x behind (sym (ap is_listed split) ∙ lists_in_order prefix place rows up)
  where
    passes : Row B → Bool
    passes row = has_prefix prefix row && is_after place rows row

    inside : Contains rows x × (has_prefix prefix x ≡ true) × (is_after place rows x ≡ true)
    inside = listed-parts prefix place rows before behind x split

    named : (i : ℕ) × (f : First (is_version x.key x.id) rows i) × (f.here.at ≡ x)
    named = own_first rows x once inside.0

    -- of what comes behind, the second test holds
    absorb : (a b t : Bool) → (t ≡ true → b ≡ true) → (a && t) ≡ ((a && b) && t)
    absorb true true t h = refl
    absorb true false true h = sym (h refl)
    absorb true false false h = refl
    absorb false b t h = refl

    agree : (row : Row B) → (has_prefix prefix row && is_behind x.key (Some x.id) rows row) ≡ (passes row && comes_before x row)
    agree row =
        ap (λ t. has_prefix prefix row && t) (only_named x.key x.id rows named.0 named.1 once (λ z. comes_before z row)
        ∙ ap (λ (z : Row B). comes_before z row) named.2)
        ∙ absorb (has_prefix prefix row) (is_after place rows row) (comes_before x row) (λ before. after_onward place rows x row before inside.2)

pub pages_follow : {B : Type 0} (prefix : List ℕ) (place : Option ListPosition) (limit more : ℕ) (rows : List (Row B)) (front : List Listed) (last : Listed)
    → is_listed rows ≡ true → has_each_once rows ≡ true
    → (listing prefix place limit rows).entries ≡ front ++ last ∷ []
    → (is_place_there (Some (place_of last)) rows ≡ true)
    × ((listing prefix place (limit + more) rows).entries ≡ (front ++ last ∷ []) ++ (listing prefix (Some (place_of last)) more rows).entries)
    × ((listing prefix place (limit + more) rows).truncated ≡ (listing prefix (Some (place_of last)) more rows).truncated)
pages_follow {B} prefix place limit more rows front last up once h =
    let found = listed prefix place rows in
    let end = last_of (entry_of rows) (take limit found) front last h in
    let x : Row B = end.1 in
    let split : found ≡ end.0 ++ x ∷ drop limit found =
    sym (take-append-drop limit found) ∙ ap (λ ys. ys ++ drop limit found) end.2 ∙ append_assoc end.0 (x ∷ []) (drop limit found) in
    let rest : listed prefix (Some (place_of last)) rows ≡ drop limit found =
    ap (λ (e : Listed). listed prefix (Some (place_of e)) rows) (sym end.3) ∙ listed-after prefix place rows end.0 (drop limit found) x up once split in
    let there = (listed-parts prefix place rows end.0 (drop limit found) x split).0 in
    let less : nat_lt (limit + more) (length found) ≡ nat_lt more (length (drop limit found)) = past limit more found in (
      ap (λ (e : Listed). is_place_there (Some (place_of e)) rows) (sym end.3) ∙ any-contains (is_version x.key x.id) rows x there (is_own_version x),
      ap (map (entry_of rows)) (take-add limit more found)
          ∙ map-append (entry_of rows) (take limit found) (take more (drop limit found))
          ∙ ap₂ (λ es ys. es ++ map (entry_of rows) (take more ys)) h (sym rest),
      less ∙ ap (λ ys. nat_lt more (length ys)) (sym rest),
    )
  where
    past : {X : Type 0} (m n : ℕ) (xs : List X) → nat_lt (m + n) (length xs) ≡ nat_lt n (length (drop m xs))
    past m n xs = let e = length-drop m xs in grind (arith, nat_tests)
