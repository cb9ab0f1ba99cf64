-- What holds of the ids that were removed.
use Rattle.std.proofs.Common.{◌≡◌, ℕ, zero, suc, ◌+◌, Bool, true, false, cond, not, ◌||◌, List, [], ◌∷◌, length, insert, position, Option, Some, None, unwrap_or, find, MatchOption, Contains, refl, sym, ap, ◌∙◌, true≢false, arith}
use Rattle.std.specs.List.{list_all, position_or_len}
use Rattle.std.proofs.lemmas.Bool.{and_parts, and_from, or_parts, false_from_ne_true}
use Rattle.s3r_names.specs.declared.version.VersionId.{VersionId}
use Rattle.s3r_versions.specs.Order.{is_id_before, is_rising}
use Rattle.s3r_versions.specs.Lookup.{id_eq}
use Rattle.s3r_versions.specs.Removed.{was_removed, with_id, is_id_above, removed_after}
use Rattle.s3r_versions.proofs.Orders.{less_trans, less_asym, less_irrefl, id_order, id_back}
use Rattle.s3r_versions.proofs.Versions.{id_is}
use Rattle.s3r_versions.proofs.Adding.{place-is}

all-with_id : (p : VersionId → Bool) (id : VersionId) (ids : List VersionId) → p id ≡ true → list_all p ids ≡ true → list_all p (with_id id ids) ≡ true
all-with_id p id [] here all = and_from _ _ here refl
all-with_id p id (x ∷ xs) here all = go (is_id_before x id) (id_eq x id) (all-with_id p id xs here parts.1)
  where
    parts : (p x ≡ true) × (list_all p xs ≡ true)
    parts = and_parts (p x) (list_all p xs) all

    go : (t u : Bool) → list_all p (with_id id xs) ≡ true → list_all p (cond t (x ∷ with_id id xs) (cond u (x ∷ xs) (id ∷ x ∷ xs))) ≡ true
    go true u ih = and_from _ _ parts.0 ih
    go false true ih = all
    go false false ih = and_from _ _ here all

-- what is after an id is after each before it
all_above : (id x : VersionId) (ids : List VersionId) → is_id_before id x ≡ true → list_all (is_id_before x) ids ≡ true → list_all (is_id_before id) ids ≡ true
all_above id x [] less all = refl
all_above id x (y ∷ ys) less all =
    let parts = and_parts (is_id_before x y) (list_all (is_id_before x) ys) all in
    and_from _ _ (less_trans id_order id x y less parts.0) (all_above id x ys less parts.1)

pub stays_rising : (id : VersionId) (ids : List VersionId) → is_rising ids ≡ true → is_rising (with_id id ids) ≡ true
stays_rising id [] up = refl
stays_rising id (x ∷ xs) up = go (is_id_before x id) (id_eq x id) refl refl (stays_rising id xs parts.1)
  where
    parts : (list_all (is_id_before x) xs ≡ true) × (is_rising xs ≡ true)
    parts = and_parts (list_all (is_id_before x) xs) (is_rising xs) up

    go : (t u : Bool) → is_id_before x id ≡ t → id_eq x id ≡ u → is_rising (with_id id xs) ≡ true
        → is_rising (cond t (x ∷ with_id id xs) (cond u (x ∷ xs) (id ∷ x ∷ xs))) ≡ true
    go true u h e ih = and_from _ _ (all-with_id (is_id_before x) id xs h parts.0) ih
    go false true h e ih = up
    go false false h e ih =
        let less = id_back x id e h in
        and_from _ _ (and_from _ _ less (all_above id x xs less parts.0)) up

pub keeps_id : (id other : VersionId) (ids : List VersionId) → was_removed other (with_id id ids) ≡ (id_eq id other || was_removed other ids)
keeps_id id other [] = refl
keeps_id id other (x ∷ xs) = go (is_id_before x id) (id_eq x id) refl (keeps_id id other xs)
  where
    swap : (a b c : Bool) → (a || (b || c)) ≡ (b || (a || c))
    swap true true c = refl
    swap true false c = refl
    swap false b c = refl

    twice : (a c : Bool) → (a || c) ≡ (a || (a || c))
    twice true c = refl
    twice false c = refl

    go : (t u : Bool) → id_eq x id ≡ u → was_removed other (with_id id xs) ≡ (id_eq id other || was_removed other xs)
        → was_removed other (cond t (x ∷ with_id id xs) (cond u (x ∷ xs) (id ∷ x ∷ xs))) ≡ (id_eq id other || (id_eq x other || was_removed other xs))
    go true u e ih = ap (λ t. id_eq x other || t) ih ∙ swap (id_eq x other) (id_eq id other) (was_removed other xs)
    go false true e ih =
        ap (λ y. id_eq y other || was_removed other xs) (id_is x id e)
        ∙ twice (id_eq id other) (was_removed other xs)
        ∙ ap (λ y. id_eq id other || (id_eq y other || was_removed other xs)) (sym (id_is x id e))
    go false false e ih = refl

-- an id is before one of those that it is before
before_those : (x id : VersionId) (ids : List VersionId) → list_all (is_id_before x) ids ≡ true → was_removed id ids ≡ true → is_id_before x id ≡ true
before_those x id [] all there = absurd (true≢false (sym there))
before_those x id (y ∷ ys) all there = go (id_eq y id) refl there (before_those x id ys parts.1)
  where
    parts : (is_id_before x y ≡ true) × (list_all (is_id_before x) ys ≡ true)
    parts = and_parts (is_id_before x y) (list_all (is_id_before x) ys) all

    go : (t : Bool) → id_eq y id ≡ t → (t || was_removed id ys) ≡ true → (was_removed id ys ≡ true → is_id_before x id ≡ true) → is_id_before x id ≡ true
    go true e h rest = ap (is_id_before x) (sym (id_is y id e)) ∙ parts.0
    go false e h rest = rest h

pub keeps_id_once : (id : VersionId) (ids : List VersionId) → is_rising ids ≡ true → was_removed id ids ≡ true → with_id id ids ≡ ids
keeps_id_once id [] up there = absurd (true≢false (sym there))
keeps_id_once id (x ∷ xs) up there = go (is_id_before x id) (id_eq x id) refl refl there (keeps_id_once id xs parts.1)
  where
    parts : (list_all (is_id_before x) xs ≡ true) × (is_rising xs ≡ true)
    parts = and_parts (list_all (is_id_before x) xs) (is_rising xs) up

    -- an id that is before another isn't that
    apart : is_id_before x id ≡ true → id_eq x id ≡ true → ⊥
    apart h e = true≢false (sym h ∙ ap (is_id_before x) (sym (id_is x id e)) ∙ less_irrefl id_order x)

    go : (t u : Bool) → is_id_before x id ≡ t → id_eq x id ≡ u → (u || was_removed id xs) ≡ true → (was_removed id xs ≡ true → with_id id xs ≡ xs)
        → cond t (x ∷ with_id id xs) (cond u (x ∷ xs) (id ∷ x ∷ xs)) ≡ x ∷ xs
    go true true h e w rest = absurd (apart h e)
    go true false h e w rest = ap (λ ys. x ∷ ys) (rest w)
    go false true h e w rest = refl
    go false false h e w rest = absurd (true≢false (sym (before_those x id xs parts.0 w) ∙ h))

-- an insert of an id that isn't there, at the first that isn't below it or at the end
insert-is : (id : VersionId) (ids : List VersionId) → was_removed id ids ≡ false
    → insert ids (position_or_len (λ other. not (is_id_before other id)) ids) id ≡ with_id id ids
insert-is id [] new = refl
insert-is id (x ∷ xs) new = go (is_id_before x id) (insert-is id xs news.1)
  where
    news : (id_eq x id ≡ false) × (was_removed id xs ≡ false)
    news = or_parts (id_eq x id) (was_removed id xs) new

    go : (t : Bool) → insert xs (position_or_len (λ other. not (is_id_before other id)) xs) id ≡ with_id id xs
        → insert (x ∷ xs) (cond (not (not t)) (1 + position_or_len (λ other. not (is_id_before other id)) xs) 0) id ≡ cond t (x ∷ with_id id xs)
        (cond (id_eq x id) (x ∷ xs) (id ∷ x ∷ xs))
    go true ih =
        let n = position_or_len (λ (other : VersionId). not (is_id_before other id)) xs in
        let one : 1 + n ≡ suc n = omega arith in
        ap (λ k. insert (x ∷ xs) k id) one ∙ ap (λ ys. x ∷ ys) ih
    go false ih = sym (ap (λ t. cond t (x ∷ xs) (id ∷ x ∷ xs)) news.0)

pub id_goes_to : (id : VersionId) (ids : List VersionId) (i : ℕ) → was_removed id ids ≡ false
    → i ≡ unwrap_or (position (λ other. not (is_id_before other id)) ids) (length ids) → insert ids i id ≡ with_id id ids
id_goes_to id ids i new h = ap (λ k. insert ids k id) (h ∙ place-is (λ other. not (is_id_before other id)) ids) ∙ insert-is id ids new

-- ---- the next of them

pub least_is_found : (id : Option VersionId) (ids : List VersionId) → is_rising ids ≡ true
    → MatchOption (removed_after id ids)
    ((other : VersionId) → Contains ids other → is_id_above id other ≡ false)
    (λ found. Contains ids found × (is_id_above id found ≡ true) × ((other : VersionId) → Contains ids other → is_id_above id other ≡ true
    → is_id_before other found ≡ false))
least_is_found id [] up = λ other inside. absurd (nothing other inside)
  where
    nothing : (other : VersionId) → Contains [] other → ⊥
    nothing other (k, lt, e) = omega arith
least_is_found id (x ∷ xs) up = go (is_id_above id x) refl (find (is_id_above id) xs) (least_is_found id xs parts.1)
  where
    parts : (list_all (is_id_before x) xs ≡ true) × (is_rising xs ≡ true)
    parts = and_parts (list_all (is_id_before x) xs) (is_rising xs) up

    not_below : (ys : List VersionId) → list_all (is_id_before x) ys ≡ true → (other : VersionId) → Contains ys other → is_id_before other x ≡ false
    not_below [] all other (k, lt, e) = absurd (omega arith)
    not_below (y ∷ ys) all other (zero, lt, e) =
        ap (λ z. is_id_before z x) (sym e) ∙ less_asym id_order x y (and_parts (is_id_before x y) (list_all (is_id_before x) ys) all).0
    not_below (y ∷ ys) all other (suc k, lt, e) = not_below ys (and_parts (is_id_before x y) (list_all (is_id_before x) ys) all).1 other (k, omega arith, e)

    first : (other : VersionId) → Contains (x ∷ xs) other → is_id_before other x ≡ false
    first other (zero, lt, e) = ap (λ z. is_id_before z x) (sym e) ∙ less_irrefl id_order x
    first other (suc k, lt, e) = not_below xs parts.0 other (k, omega arith, e)

    -- what holds of each of the rest that is above the id, where x isn't
    later : {P : VersionId → Type 0} → is_id_above id x ≡ false → ((other : VersionId) → Contains xs other → is_id_above id other ≡ true → P other)
        → (other : VersionId) → Contains (x ∷ xs) other → is_id_above id other ≡ true → P other
    later off each other (zero, lt, e) above = absurd (true≢false (sym above ∙ ap (is_id_above id) (sym e) ∙ off))
    later off each other (suc k, lt, e) above = each other (k, omega arith, e) above

    go : (t : Bool) → is_id_above id x ≡ t → (o : Option VersionId)
        → MatchOption o ((other : VersionId) → Contains xs other → is_id_above id other ≡ false)
        (λ found. Contains xs found × (is_id_above id found ≡ true) × ((other : VersionId) → Contains xs other → is_id_above id other ≡ true
        → is_id_before other found ≡ false))
        → MatchOption (cond t (Some x) o) ((other : VersionId) → Contains (x ∷ xs) other → is_id_above id other ≡ false)
        (λ found. Contains (x ∷ xs) found × (is_id_above id found ≡ true)
        × ((other : VersionId) → Contains (x ∷ xs) other → is_id_above id other ≡ true → is_id_before other found ≡ false))
    go true h o ih = ((zero, omega arith, refl), h, λ other inside above. first other inside)
    go false h None ih =
        λ other inside. false_from_ne_true (is_id_above id other) (λ above. later {P = λ _. ⊥} h
        (λ z there on. true≢false (sym on ∙ ih z there)) other inside above)
    go false h (Some found) ih =
        ((suc ih.0.0, omega arith, ih.0.2), ih.1, later h (λ z there on. ih.2 z there on))
