-- The place of a version among rows.
use Rattle.std.proofs.Common.{◌≡◌, ℕ, zero, suc, subst, ◌+◌, ◌<◌, Bool, true, false, cond, not, nat_lt, List, [], ◌∷◌, ◌++◌, length, get_or, set, remove, drop, filter, position, Option, Some, None, is_some, option_map, find, MatchOption, refl, sym, ap, ap₂, ◌∙◌, arith, ltb-true, lt-ltb}
use Rattle.std.specs.List.{list_all, position_or_len}
use Rattle.std.proofs.lemmas.Bool.{and_parts, and_from, not-true}
use Rattle.std.proofs.lemmas.Bool.Decides.{nat_tests}
use Rattle.std.proofs.lemmas.List.{set_at, map-append}
use Rattle.std.proofs.lemmas.List.Elements.{filter-append}
use Rattle.s3r_names.specs.declared.version.VersionId.{VersionId}
use Rattle.s3r_versions.specs.declared.row.Row.{Row}
use Rattle.s3r_versions.specs.Order.{all_pairs}
use Rattle.s3r_versions.specs.Lookup.{is_version, has_each_once}
use Rattle.s3r_versions.specs.Contents.{without_version, if_version, on_version}
use Rattle.s3r_versions.proofs.Versions.{version_like}
use Rattle.s3r_versions.proofs.Choosing.{filter_all}

-- an element with those before it and those behind it
pub record Around {X : Type 0} (xs : List X) (i : ℕ) : Type 0 where
  pub before : List X
  pub at : X
  pub behind : List X
  pub is : xs ≡ before ++ at ∷ behind
  pub place : length before ≡ i

pub around : {X : Type 0} (xs : List X) (i : ℕ) → i < length xs → Around xs i
around [] i h = absurd (omega arith)
around (x ∷ xs) zero h = record { before = []; at = x; behind = xs; is = refl; place = refl }
around (x ∷ xs) (suc i) h =
    let a = around xs i (omega arith) in
    record { before = x ∷ a.before; at = a.at; behind = a.behind; is = ap (λ ys. x ∷ ys) a.is; place = ap suc a.place }

pub around-get_or : {X : Type 0} (xs : List X) (i : ℕ) (a : Around xs i) (d : X) → get_or xs i d ≡ a.at
around-get_or xs i a d = ap₂ (λ ys k. get_or ys k d) a.is (sym a.place) ∙ go a.before
  where
    go : (ys : List _) → get_or (ys ++ a.at ∷ a.behind) (length ys) d ≡ a.at
    go [] = refl
    go (y ∷ ys) = go ys

pub around-drop : {X : Type 0} (xs : List X) (i : ℕ) (a : Around xs i) → drop (suc i) xs ≡ a.behind
around-drop xs i a = ap₂ (λ ys k. drop (suc k) ys) a.is (sym a.place) ∙ go a.before
  where
    go : (ys : List _) → drop (suc (length ys)) (ys ++ a.at ∷ a.behind) ≡ a.behind
    go [] = refl
    go (y ∷ ys) = go ys

pub around-remove : {X : Type 0} (xs : List X) (i : ℕ) (a : Around xs i) → remove xs i ≡ a.before ++ a.behind
around-remove xs i a = ap₂ (λ ys k. remove ys k) a.is (sym a.place) ∙ go a.before
  where
    go : (ys : List _) → remove (ys ++ a.at ∷ a.behind) (length ys) ≡ ys ++ a.behind
    go [] = refl
    go (y ∷ ys) = ap (λ zs. y ∷ zs) (go ys)

-- the first element that passes
pub record First {X : Type 0} (p : X → Bool) (xs : List X) (i : ℕ) : Type 0 where
  pub here : Around xs i
  pub passes : p here.at ≡ true
  pub none : list_all (λ x. not (p x)) here.before ≡ true

position-cons : {X : Type 0} (p : X → Bool) (x : X) (xs : List X) → position p (x ∷ xs) ≡ cond (p x) (Some 0) (option_map suc (position p xs))
position-cons p x xs = go (p x)
  where
    n : ℕ
    n = position_or_len p xs

    more : (t : Bool) → nat_lt n (length xs) ≡ t → cond (nat_lt (1 + n) (suc (length xs))) (Some (1 + n)) None ≡ option_map suc (cond t (Some n) None)
    more true h =
        let less = lt-ltb (1 + n) (suc (length xs)) (omega (arith, ltb-true n (length xs) h)) in
        let one : 1 + n ≡ suc n = omega arith in
        ap (λ t. cond t (Some (1 + n)) None) less ∙ ap Some one
    more false h =
        let past : nat_lt (1 + n) (suc (length xs)) ≡ false = grind (arith, nat_tests) in
        ap (λ t. cond t (Some (1 + n)) None) past

    go : (t : Bool) → cond (nat_lt (cond (not t) (1 + n) 0) (suc (length xs))) (Some (cond (not t) (1 + n) 0)) None ≡ cond t (Some 0)
        (option_map suc (position p xs))
    go true = ap (λ t. cond t (Some 0) None) (lt-ltb 0 (suc (length xs)) (omega arith))
    go false = more (nat_lt n (length xs)) refl

-- what `position` answers
pub first : {X : Type 0} (p : X → Bool) (xs : List X) → MatchOption (position p xs) (list_all (λ x. not (p x)) xs ≡ true) (First p xs)
first p [] = refl
first {X} p (x ∷ xs) =
    let Found : Option ℕ → Type 0 = λ o. MatchOption o (list_all (λ y. not (p y)) (x ∷ xs) ≡ true) (First p (x ∷ xs)) in
    subst Found (sym (position-cons p x xs)) (go (p x) refl (position p xs) (first p xs))
  where
    go : (t : Bool) → p x ≡ t → (o : Option ℕ) → MatchOption o (list_all (λ y. not (p y)) xs ≡ true) (First p xs)
        → MatchOption (cond t (Some 0) (option_map suc o)) (list_all (λ y. not (p y)) (x ∷ xs) ≡ true) (First p (x ∷ xs))
    go true h o rest = record { here = record { before = []; at = x; behind = xs; is = refl; place = refl }; passes = h; none = refl }
    go false h None rest = and_from _ _ (ap not h) rest
    go false h (Some i) f = record {
      here = record {
        before = x ∷ f.here.before;
        at = f.here.at;
        behind = f.here.behind;
        is = ap (λ ys. x ∷ ys) f.here.is;
        place = ap suc f.here.place;
      };
      passes = f.passes;
      none = and_from _ _ (ap not h) f.none;
    }

pub first_at : {X : Type 0} (p : X → Bool) (xs : List X) (i : ℕ) → position p xs ≡ Some i → First p xs i
first_at p xs i h = subst (λ o. MatchOption o (list_all (λ x. not (p x)) xs ≡ true) (First p xs)) h (first p xs)

pub none_of : {X : Type 0} (p : X → Bool) (xs : List X) → position p xs ≡ None → list_all (λ x. not (p x)) xs ≡ true
none_of p xs h = subst (λ o. MatchOption o (list_all (λ x. not (p x)) xs ≡ true) (First p xs)) h (first p xs)

-- what is found then
pub find-none : {X : Type 0} (p : X → Bool) (xs : List X) → list_all (λ x. not (p x)) xs ≡ true → find p xs ≡ None
find-none p [] none = refl
find-none p (x ∷ xs) none =
    let parts = and_parts (not (p x)) (list_all (λ y. not (p y)) xs) none in
    ap (λ t. cond t (Some x) (find p xs)) (not-true (p x) parts.0) ∙ find-none p xs parts.1

pub find-first : {X : Type 0} (p : X → Bool) (xs : List X) (i : ℕ) (f : First p xs i) → find p xs ≡ Some f.here.at
find-first p xs i f = ap (find p) f.here.is ∙ go f.here.before f.none
  where
    go : (ys : List _) → list_all (λ x. not (p x)) ys ≡ true → find p (ys ++ f.here.at ∷ f.here.behind) ≡ Some f.here.at
    go [] none = ap (λ t. cond t (Some f.here.at) (find p f.here.behind)) f.passes
    go (y ∷ ys) none =
        let parts = and_parts (not (p y)) (list_all (λ x. not (p x)) ys) none in
        ap (λ t. cond t (Some y) (find p (ys ++ f.here.at ∷ f.here.behind))) (not-true (p y) parts.0) ∙ go ys parts.1

pub find_there : {X : Type 0} (p : X → Bool) (xs : List X) (o : Option ℕ) → o ≡ position p xs → is_some o ≡ is_some (find p xs)
find_there p xs None h = sym (ap is_some (find-none p xs (none_of p xs (sym h))))
find_there p xs (Some i) h = sym (ap is_some (find-first p xs i (first_at p xs i (sym h))))

-- ---- a row of a version among rows of which no two are of one

-- each element against those around it
pub pairs-around : {X : Type 0} (r : X → X → Bool) (xs : List X) (x : X) (ys : List X) → all_pairs r (xs ++ x ∷ ys) ≡ true → (list_all (λ y. r y x) xs ≡ true)
    × (list_all (r x) ys ≡ true)
pairs-around r [] x ys all = (refl, (and_parts (list_all (r x) ys) (all_pairs r ys) all).0)
pairs-around r (z ∷ zs) x ys all =
    let parts = and_parts (list_all (r z) (zs ++ x ∷ ys)) (all_pairs r (zs ++ x ∷ ys)) all in
    let rest = pairs-around r zs x ys parts.1 in
    (and_from _ _ (reach zs parts.0) rest.0, rest.1)
  where
    reach : (us : List _) → list_all (r z) (us ++ x ∷ ys) ≡ true → r z x ≡ true
    reach [] h = (and_parts (r z x) (list_all (r z) ys) h).0
    reach (u ∷ us) h = reach us (and_parts (r z u) (list_all (r z) (us ++ x ∷ ys)) h).1

-- no row behind one is of its version
pub none_behind : {B : Type 0} (key : List ℕ) (id : VersionId) (rows : List (Row B)) (i : ℕ) (f : First (is_version key id) rows i)
    → has_each_once rows ≡ true → list_all (λ row. not (is_version key id row)) f.here.behind ≡ true
none_behind {B} key id rows i f once =
    go f.here.behind (pairs-around (λ row other. not (is_version row.key row.id other)) f.here.before f.here.at f.here.behind
    (sym (ap has_each_once f.here.is) ∙ once)).1
  where
    go : (ys : List (Row B)) → list_all (λ other. not (is_version f.here.at.key f.here.at.id other)) ys ≡ true
        → list_all (λ row. not (is_version key id row)) ys ≡ true
    go [] h = refl
    go (y ∷ ys) h =
        let parts = and_parts (not (is_version f.here.at.key f.here.at.id y)) (list_all (λ other. not (is_version f.here.at.key f.here.at.id other)) ys) h in
        and_from _ _ (ap not (sym (version_like key id f.here.at y f.passes)) ∙ parts.0) (go ys parts.1)

-- rows that aren't of a version stay as they are
pub on_none : {B : Type 0} (key : List ℕ) (id : VersionId) (f : Row B → Row B) (rows : List (Row B))
    → list_all (λ row. not (is_version key id row)) rows ≡ true → on_version key id f rows ≡ rows
on_none key id f [] none = refl
on_none key id f (x ∷ xs) none =
    let parts = and_parts (not (is_version key id x)) (list_all (λ row. not (is_version key id row)) xs) none in
    ap₂ (λ y ys. y ∷ ys) (ap (λ t. cond t (f x) x) (not-true (is_version key id x) parts.0)) (on_none key id f xs parts.1)

pub set-is : {B : Type 0} (key : List ℕ) (id : VersionId) (f : Row B → Row B) (rows : List (Row B)) (i : ℕ) (old new : Row B)
    → has_each_once rows ≡ true → position (is_version key id) rows ≡ Some i → old ≡ get_or rows i old → new ≡ f old → set rows i new ≡ on_version key id f rows
set-is {B} key id f rows i old new once at read made =
    let found = first_at (is_version key id) rows i at in
    let here = found.here in
    let same : old ≡ here.at = read ∙ around-get_or rows i here old in
    ap₂ (λ ys y. set ys i y) here.is (made ∙ ap f same)
    ∙ set_at here.before here.at here.behind (f here.at) i here.place
    ∙ sym (ap (on_version key id f) here.is
    ∙ map-append (if_version key id f) here.before (here.at ∷ here.behind)
    ∙ ap₂ (λ ys zs. ys ++ zs) (on_none key id f here.before found.none)
    (ap₂ (λ y ys. y ∷ ys) (ap (λ t. cond t (f here.at) here.at) found.passes) (on_none key id f here.behind (none_behind key id rows i found once))))

pub remove-is : {B : Type 0} (key : List ℕ) (id : VersionId) (rows : List (Row B)) (i : ℕ)
    → has_each_once rows ≡ true → position (is_version key id) rows ≡ Some i → remove rows i ≡ without_version key id rows
remove-is {B} key id rows i once at =
    let found = first_at (is_version key id) rows i at in
    let here = found.here in
    let p : Row B → Bool = λ row. not (is_version key id row) in
    around-remove rows i here
    ∙ sym (ap (filter p) here.is
    ∙ filter-append p here.before (here.at ∷ here.behind)
    ∙ ap₂ (λ ys zs. ys ++ zs) (filter_all p here.before found.none)
    (ap (λ t. cond (not t) (here.at ∷ filter p here.behind) (filter p here.behind)) found.passes
    ∙ filter_all p here.behind (none_behind key id rows i found once)))
