-- What is true of ids, stamps and the latest rows.
use Rattle.std.proofs.Common.{◌≡◌, ℕ, zero, suc, ◌+◌, ◌<◌, ◌≤◌, Bool, true, false, cond, not, ◌||◌, nat_le, List, [], ◌∷◌, Some, None, find, Contains, length, bytes_eq, refl, sym, ap, ◌∙◌, arith, leb-true, eq-eqb, lt-ltb}
use Rattle.std.specs.List.{list_all}
use Rattle.std.proofs.lemmas.Bool.{and_parts, and_from, or_left, not-true}
use Rattle.std.proofs.lemmas.Cmp.{nat_list_eq_equiv}
use Rattle.s3r_names.specs.declared.tags.Tag.{Tag}
use Rattle.s3r_names.specs.declared.version.VersionId.{VersionId}
use Rattle.s3r_record.specs.declared.command.Command.{Command}
use Rattle.s3r_record.specs.declared.command.Command.TheVariants as command
use Rattle.s3r_record.specs.declared.effect.Effect.TheVariants as effects
use Rattle.s3r_record.specs.Spelling.{IsEffect, IsCommand}
use Rattle.s3r_versions.specs.Order.{is_later, comes_before}
use Rattle.s3r_versions.specs.Lookup.{is_of_key, is_version, find_version}
use Rattle.s3r_versions.specs.Contents.{with_row, without_version}
use Rattle.s3r_versions.proofs.ListingOrder.{later_before}
use Rattle.s3r_versions.proofs.Latest.{first-is-latest}
use Rattle.s3r_history.specs.Words.{Name, History}
use Rattle.s3r_history.specs.Past.{Entry, Carried, Past, carried_n, clock, n_of}
use Rattle.s3r_history.specs.Judging.{is_ahead}
use Rattle.s3r_history.specs.Deeds.{deeds, deed, next_stamp, version, marker}
use Rattle.s3r_history.specs.Rows.{rows, row_at, latest}
use Rattle.s3r_history.specs.Accepts.{IsLawful}
use Rattle.s3r_history.proofs.LineSteps.{what_it_does}
use Rattle.s3r_history.proofs.Versions.{is_old, other_old, length-deeds, all-weaker}
use Rattle.s3r_history.proofs.HistoryRows.{none-found, rows_old, rows_listed, rows-put, rows-marker, rows-remove}

all_at : {X : Type 0} (p : X → Bool) (xs : List X) (y : X) → list_all p xs ≡ true → Contains xs y → p y ≡ true
all_at p [] y all (k, lt, e) = absurd (omega arith)
all_at p (x ∷ xs) y all (zero, lt, e) = ap p (sym e) ∙ (and_parts (p x) (list_all p xs) all).0
all_at p (x ∷ xs) y all (suc k, lt, e) = all_at p xs y (and_parts (p x) (list_all p xs) all).1 (k, omega arith, e)

pub ids_given : (r : ℕ) (h : History) (b : Name) (row : Entry) → Contains (rows (deeds r h) b) row → is_ahead r (length h) row.id ≡ false
ids_given r h b row there =
    let old = all_at (is_old r (length (deeds r h)) (clock (deeds r h))) (rows (deeds r h) b) row (rows_old r h b) there in
    ap (λ n. is_ahead r n row.id) (sym (length-deeds r h)) ∙ not-true _
    (and_parts (not (is_ahead r (length (deeds r h)) row.id)) (nat_le row.n (clock (deeds r h))) old).0

carried_fits : (e : Carried) → IsEffect e → carried_n e ≤ 18446744073709551615
carried_fits (effects.Replica from to key id n tags tags_stamp hold hold_stamp class body) is =
    let limits = is.5 in
    omega (arith, limits.1, limits.2.n, limits.3.n)
carried_fits (effects.Marker from to key id n) is = let limits = is.3 in omega (arith, limits.1)
carried_fits (effects.Tags from to key id tags stamp) is = let limits = is.4 in omega (arith, limits.1.n)
carried_fits (effects.Hold from to key id hold stamp) is = let limits = is.3 in omega (arith, limits.1.n)

n_fits : (r : ℕ) (past : Past) (c : Command) → IsCommand c → n_of c (next_stamp r past) ≤ 18446744073709551615
n_fits r past (command.Put bucket key tags hold class body) is = omega arith
n_fits r past (command.Marker bucket key) is = omega arith
n_fits r past (command.SetTags bucket key id tags) is = omega arith
n_fits r past (command.SetHold bucket key id hold) is = omega arith
n_fits r past (command.Receive from number effect) is = carried_fits effect is.1
n_fits r past _ is = omega arith

-- so is that of what it does
does_fits : (r : ℕ) (h : History) (c : Command) → IsCommand c → n_of (deed r h (deeds r h) c).does (next_stamp r (deeds r h)) ≤ 18446744073709551615
does_fits r h c is =
    what_it_does r h (λ (d : Command). n_of d (next_stamp r (deeds r h)) ≤ 18446744073709551615)
    (record { tags = λ name key row tags at told there. omega arith; hold = λ name key row hold at told there locked. omega arith }) c
    (n_fits r (deeds r h) c is)

-- the clock of a lawful history never passes 64 bits
pub clock_fits : (n r : ℕ) (h : History) → IsLawful n r h → clock (deeds r h) ≤ 18446744073709551615
clock_fits n r [] lawful = omega arith
clock_fits n r (c ∷ h) lawful = omega (arith, clock_fits n r h lawful.2, does_fits r h c lawful.0)

pub own_ahead : (r k : ℕ) (id : VersionId) → id.region ≡ r → id.index ≡ k + 1 → is_ahead r k id ≡ true
own_ahead r k id region index = and_from _ _ (eq-eqb id.region r region) (lt-ltb k id.index (omega arith))

-- the id that the next command gives isn't there
pub next_new : (r : ℕ) (h : History) (b key : Name) (id : VersionId) → id.region ≡ r → id.index ≡ (next_stamp r (deeds r h)).index
    → find_version key id (rows (deeds r h) b) ≡ None
next_new r h b key id region same =
    none-found key id (rows (deeds r h) b)
    (all-weaker (is_old r (length (deeds r h)) (clock (deeds r h))) (λ (v : Entry). not (is_version key id v))
    (λ v old. ap not (other_old r (length (deeds r h)) (clock (deeds r h)) key id v (own_ahead r (length (deeds r h)) id region same) old)) (rows (deeds r h) b)
    (rows_old r h b))

-- a removed version is gone
pub removed_gone : (r : ℕ) (h : History) (b key : Name) (id : VersionId) → row_at (deeds r (command.Remove b key id ∷ h)) b key id ≡ None
removed_gone r h b key id =
    ap (find_version key id) (rows-remove r h b b key id ∙ ap (λ t. cond t (without_version key id (rows (deeds r h) b)) (rows (deeds r h) b))
    (nat_list_eq_equiv.refl b))
    ∙ none (rows (deeds r h) b)
  where
    none : (rs : List Entry) → find_version key id (without_version key id rs) ≡ None
    none [] = refl
    none (row ∷ rs) = go (is_version key id row) refl (none rs)
      where
        go : (t : Bool) → is_version key id row ≡ t → find_version key id (without_version key id rs) ≡ None
            → find_version key id (cond (not t) (row ∷ without_version key id rs) (without_version key id rs)) ≡ None
        go true e ih = ih
        go false e ih = ap (λ t. cond t (Some row) (find_version key id (without_version key id rs))) e ∙ ih

other : (u : Bool) → (not u || false) ≡ true → u ≡ false
other true h = sym h
other false h = refl

-- a row that comes before all others of its key is the first of its key
first_found : (key : Name) (row : Entry) (xs : List Entry) → is_of_key key row ≡ true → list_all (λ x. not (is_of_key key x) || comes_before row x) xs ≡ true
    → find (is_of_key key) (with_row row xs) ≡ Some row
first_found key row [] same all = ap (λ t. cond t (Some row) None) same
first_found key row (x ∷ xs) same all = go (comes_before row x) parts.0 (first_found key row xs same parts.1)
  where
    parts : ((not (is_of_key key x) || comes_before row x) ≡ true) × (list_all (λ y. not (is_of_key key y) || comes_before row y) xs ≡ true)
    parts = and_parts (not (is_of_key key x) || comes_before row x) (list_all (λ y. not (is_of_key key y) || comes_before row y) xs) all

    go : (t : Bool) → (not (is_of_key key x) || t) ≡ true → find (is_of_key key) (with_row row xs) ≡ Some row
        → find (is_of_key key) (cond t (row ∷ x ∷ xs) (x ∷ with_row row xs)) ≡ Some row
    go true h ih = ap (λ t. cond t (Some row) (find (is_of_key key) (x ∷ xs))) same
    go false h ih = ap (λ t. cond t (Some x) (find (is_of_key key) (with_row row xs))) (other (is_of_key key x) h) ∙ ih

-- a row under a greater number is later
newer_later : (r k n : ℕ) (row x : Entry) → n < row.n → is_old r k n x ≡ true → is_later row x ≡ true
newer_later r k n row x number old =
    let le : x.n ≤ n = leb-true x.n n (and_parts (not (is_ahead r k x.id)) (nat_le x.n n) old).1 in
    or_left _ _ (lt-ltb x.n row.n (omega arith))

all_earlier : (r k n : ℕ) (key : Name) (row : Entry) (xs : List Entry) → is_of_key key row ≡ true → n < row.n → list_all (is_old r k n) xs ≡ true
    → list_all (λ x. not (is_of_key key x) || comes_before row x) xs ≡ true
all_earlier r k n key row [] same number all = refl
all_earlier r k n key row (x ∷ xs) same number all = and_from _ _ (go (is_of_key key x) refl) (all_earlier r k n key row xs same number parts.1)
  where
    parts : (is_old r k n x ≡ true) × (list_all (is_old r k n) xs ≡ true)
    parts = and_parts (is_old r k n x) (list_all (is_old r k n) xs) all

    go : (t : Bool) → is_of_key key x ≡ t → (not t || comes_before row x) ≡ true
    go true h = later_before key row x same h (newer_later r k n row x number parts.0)
    go false h = refl

-- a row under a greater number than all that were there is the latest of its key
added_latest : (r : ℕ) (h k : History) (b key : Name) (row : Entry) → rows (deeds r k) b ≡ with_row row (rows (deeds r h) b) → row.key ≡ key
    → clock (deeds r h) < row.n → latest (deeds r k) b key ≡ Some row
added_latest r h k b key row is same number =
    sym (first-is-latest key (rows (deeds r k) b) (rows_listed r k b))
    ∙ ap (find (is_of_key key)) is
    ∙ first_found key row (rows (deeds r h) b) (ap (λ n. bytes_eq n key) same ∙ nat_list_eq_equiv.refl key)
    (all_earlier r (length (deeds r h)) (clock (deeds r h)) key row (rows (deeds r h) b) (ap (λ n. bytes_eq n key) same ∙ nat_list_eq_equiv.refl key) number
    (rows_old r h b))

pub put_latest : (r : ℕ) (h : History) (b key : Name) (tags : List Tag) (hold : Bool) (class body : List ℕ) → clock (deeds r h) < 18446744073709551615
    → latest (deeds r (command.Put b key tags hold class body ∷ h)) b key ≡ Some (version (next_stamp r (deeds r h)) key tags hold class body)
put_latest r h b key tags hold class body runs =
    let row = version (next_stamp r (deeds r h)) key tags hold class body in
    added_latest r h (command.Put b key tags hold class body ∷ h) b key row
    (rows-put r h b b key tags hold class body ∙ ap (λ t. cond t (with_row row (rows (deeds r h) b)) (rows (deeds r h) b)) (nat_list_eq_equiv.refl b))
    refl (omega (arith, runs))

pub marker_latest : (r : ℕ) (h : History) (b key : Name) → clock (deeds r h) < 18446744073709551615
    → latest (deeds r (command.Marker b key ∷ h)) b key ≡ Some (marker (next_stamp r (deeds r h)) key)
marker_latest r h b key runs =
    let row = marker (next_stamp r (deeds r h)) key in
    added_latest r h (command.Marker b key ∷ h) b key row
    (rows-marker r h b b key ∙ ap (λ t. cond t (with_row row (rows (deeds r h) b)) (rows (deeds r h) b)) (nat_list_eq_equiv.refl b))
    refl (omega (arith, runs))
