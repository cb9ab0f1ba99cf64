-- The versions of a bucket, one command after another.
use Rattle.std.proofs.Common.{◌≡◌, ℕ, suc, ◌+◌, ◌≤◌, max, Bool, true, false, cond, not, ◌&&◌, ◌||◌, ◌==◌, nat_le, nat_lt, is_none, map, List, [], ◌∷◌, ◌++◌, Option, Some, None, length, filter, bytes_eq, refl, sym, ap, ◌∙◌, arith, leb-true, le-leb, eqb-true}
use Rattle.std.specs.Prelude.{IfSome}
use Rattle.std.specs.List.{list_all, list_any}
use Rattle.std.proofs.lemmas.Bool.{and_parts, and_from, and_right, not-true}
use Rattle.s3r_record.specs.declared.command.Command.{Command}
use Rattle.s3r_record.specs.declared.command.Command.TheVariants as command
use Rattle.s3r_names.specs.declared.version.VersionId.{VersionId}
use Rattle.s3r_versions.specs.Lookup.{id_eq, is_of_key, is_version, find_version, has_each_once}
use Rattle.std.proofs.lemmas.Bool.Decides.{nat_tests}
use Rattle.std.proofs.lemmas.Slice.Eq.{bytes_eq-Decides}
use Rattle.s3r_history.specs.Words.{Name, History}
use Rattle.s3r_history.specs.Buckets.{creates}
use Rattle.s3r_names.specs.declared.outcome.Outcome.{Outcome}
use Rattle.s3r_names.specs.declared.outcome.Outcome.TheVariants as outcomes
use Rattle.s3r_names.specs.declared.outcome.Reason.TheVariants as reasons
use Rattle.s3r_record.specs.declared.effect.Effect.TheVariants as effects
use Rattle.s3r_versions.specs.Contents.{with_row}
use Rattle.s3r_versions.specs.Removed.{was_removed}
use Rattle.s3r_versions.specs.Order.{comes_before}
use Rattle.s3r_history.specs.Past.{Entry, Carried, Added, Deed, Past, carried_n, clock, n_of}
use Rattle.s3r_history.specs.Carried.{target_of, key_of, id_of, is_change, has_hold, is_applied}
use Rattle.s3r_history.specs.BucketView.{BucketView, told_by}
use Rattle.s3r_history.specs.Judging.{is_ahead, judged, first_of_reasons}
use Rattle.s3r_history.specs.Deeds.{deeds, deed, next_stamp, version, marker, brought, judge}
use Rattle.s3r_history.specs.Rows.{removes, added_to, standing, life, versions, at_present, in_order, rows, row_at}

-- ---- lists

pub all-filter : {X : Type 0} (p q : X → Bool) (xs : List X) → list_all p xs ≡ true → list_all p (filter q xs) ≡ true
all-filter p q [] all = refl
all-filter p q (x ∷ xs) all = go (q x) (all-filter p q xs parts.1)
  where
    parts : (p x ≡ true) × (list_all p xs ≡ true)
    parts = and_parts (p x) (list_all p xs) all

    go : (t : Bool) → list_all p (filter q xs) ≡ true → list_all p (cond t (x ∷ filter q xs) (filter q xs)) ≡ true
    go true ih = and_from _ _ parts.0 ih
    go false ih = ih

pub all-weaker : {X : Type 0} (p q : X → Bool) → ((x : X) → p x ≡ true → q x ≡ true) → (xs : List X) → list_all p xs ≡ true → list_all q xs ≡ true
all-weaker p q more [] all = refl
all-weaker p q more (x ∷ xs) all =
    let parts = and_parts (p x) (list_all p xs) all in
    and_from _ _ (more x parts.0) (all-weaker p q more xs parts.1)

filter-append : {X : Type 0} (p : X → Bool) (xs ys : List X) → filter p (xs ++ ys) ≡ filter p xs ++ filter p ys
filter-append p [] ys = refl
filter-append p (x ∷ xs) ys = go (p x) (filter-append p xs ys)
  where
    go : (b : Bool) → filter p (xs ++ ys) ≡ filter p xs ++ filter p ys
        → cond b (x ∷ filter p (xs ++ ys)) (filter p (xs ++ ys)) ≡ cond b (x ∷ filter p xs) (filter p xs) ++ filter p ys
    go true e = ap (λ zs. x ∷ zs) e
    go false e = e

list_any-snoc : {X : Type 0} (p : X → Bool) (xs : List X) (x : X) → list_any p (xs ++ x ∷ []) ≡ (list_any p xs || p x)
list_any-snoc p [] x = grind arith
list_any-snoc p (y ∷ ys) x = grind (arith, list_any-snoc p ys x)

-- ---- one command more

-- what a command leaves of versions
abbrev pub kept_by : Name → Command → List Entry → List Entry
kept_by b c vs = filter (λ (v : Entry). not (removes b v.key v.id c)) vs

-- what is added to the bucket stands before the others
abbrev pub front : Name → Option Added → List Entry → List Entry
front b None vs = vs
front b (Some a) vs = cond (bytes_eq a.bucket b) (a.row ∷ vs) vs

added_to-snoc : (b : Name) (c : Command) (later : List Command) (adds : Option Added) → added_to b (later ++ c ∷ []) adds ≡ kept_by b c (added_to b later adds)
added_to-snoc b c later None = refl
added_to-snoc b c later (Some a) =
    ap (λ t. cond (bytes_eq a.bucket b && not t) (a.row ∷ []) []) (list_any-snoc (removes b a.row.key a.row.id) later c)
    ∙ go (bytes_eq a.bucket b) (list_any (removes b a.row.key a.row.id) later) (removes b a.row.key a.row.id c) refl
  where
    go : (x y z : Bool) → z ≡ removes b a.row.key a.row.id c → cond (x && not (y || z)) (a.row ∷ []) [] ≡ kept_by b c (cond (x && not y) (a.row ∷ []) [])
    go true true z e = refl
    go true false true e = ap (λ t. cond (not t) (a.row ∷ []) []) e
    go true false false e = ap (λ t. cond (not t) (a.row ∷ []) []) e
    go false y z e = refl

standing-snoc : (b : Name) (c : Command) (later : List Command) (past : Past) → standing b (later ++ c ∷ []) past ≡ kept_by b c (standing b later past)
standing-snoc b c later [] = refl
standing-snoc b c later (d ∷ past) =
    ap (λ vs. vs ++ standing b (d.command ∷ later ++ c ∷ []) past) (added_to-snoc b c later d.adds)
    ∙ ap (λ vs. kept_by b c (added_to b later d.adds) ++ vs) (standing-snoc b c (d.command ∷ later) past)
    ∙ sym (filter-append (λ (v : Entry). not (removes b v.key v.id c)) (added_to b later d.adds) (standing b (d.command ∷ later) past))

added-front : (b : Name) (adds : Option Added) (vs : List Entry) → added_to b [] adds ++ vs ≡ front b adds vs
added-front b None vs = refl
added-front b (Some a) vs = go (bytes_eq a.bucket b)
  where
    go : (t : Bool) → cond (t && true) (a.row ∷ []) [] ++ vs ≡ cond t (a.row ∷ vs) vs
    go true = refl
    go false = refl

-- the versions of the bucket after one deed more, which isn't its creation
pub versions-step : (b : Name) (d : Deed) (past : Past) → creates b d.command ≡ false
    → versions (d ∷ past) b ≡ front b d.adds (kept_by b d.command (versions past b))
versions-step b d past goes_on =
    ap (λ t. standing b [] (cond t [] (d ∷ life b past))) goes_on
    ∙ ap (λ vs. added_to b [] d.adds ++ vs) (standing-snoc b d.command [] (life b past))
    ∙ added-front b d.adds (kept_by b d.command (versions past b))

pub versions-birth : (b : Name) (d : Deed) (past : Past) → creates b d.command ≡ true → versions (d ∷ past) b ≡ []
versions-birth b d past begins = ap (λ t. standing b [] (cond t [] (d ∷ life b past))) begins

pub length-deeds : (r : ℕ) (h : History) → length (deeds r h) ≡ length h
length-deeds r [] = refl
length-deeds r (c ∷ h) = ap suc (length-deeds r h)

-- ---- each version is of a command that was there

-- a row whose id region r gives within its first k commands, or another region, under a number of at most n
abbrev pub is_old : ℕ → ℕ → ℕ → Entry → Bool
is_old r k n row = not (is_ahead r k row.id) && nat_le row.n n

pub ahead-less : (r k m : ℕ) (id : VersionId) → k ≤ m → is_ahead r k id ≡ false → is_ahead r m id ≡ false
ahead-less r k m id more h = grind (arith, nat_tests)

old-more : (r k m n l : ℕ) (row : Entry) → k ≤ m → n ≤ l → is_old r k n row ≡ true → is_old r m l row ≡ true
old-more r k m n l row more le old =
    let parts = and_parts (not (is_ahead r k row.id)) (nat_le row.n n) old in
    let number = leb-true row.n n parts.1 in
    and_from _ _ (ap not (ahead-less r k m row.id more (not-true _ parts.0))) (le-leb row.n l (omega arith))

-- the id that region r gives with its next command isn't ahead then
pub own-next : (r k m : ℕ) → m ≡ k + 1 → is_ahead r (suc k) (record { region = r; index = m }) ≡ false
own-next r k m e = grind (arith, nat_tests)

-- it is ahead before
pub own-ahead : (r k m : ℕ) → m ≡ k + 1 → is_ahead r k (record { region = r; index = m }) ≡ true
own-ahead r k m e = grind (arith, nat_tests)

abbrev rest_of : ℕ → ℕ → Carried → BucketView → Outcome
rest_of r n e at =
    first_of_reasons ((is_change e && is_none (find_version (key_of e) (id_of e) at.rows), reasons.NoSuchVersion)
    ∷ (has_hold e && not at.locked, reasons.DestinationNotLocked) ∷ [])

-- an effect that is applied carries an id that isn't ahead
pub reason-ahead : (r n : ℕ) (e : Carried) (at : Option BucketView) → is_applied (judged r n e at) ≡ true → is_ahead r n (id_of e) ≡ false
reason-ahead r n e None ok = absurd cc
reason-ahead r n e (Some at) ok = go (not at.enabled) (was_removed (id_of e) at.removed) (is_ahead r n (id_of e)) ok
  where
    go : (t u v : Bool) → is_applied (cond t (outcomes.Refused reasons.DestinationSuspended)
        (cond (u || v) (outcomes.Refused reasons.VersionRemoved) (rest_of r n e at))) ≡ true → v ≡ false
    go t u false ok = refl
    go true u true ok = absurd cc
    go false true true ok = absurd cc
    go false false true ok = absurd cc

brought-old : (r k n p s : ℕ) (e : Carried) → is_ahead r k (id_of e) ≡ false → carried_n e ≤ n
    → IfSome (brought p s e) (λ (a : Added). is_old r k n a.row ≡ true)
brought-old r k m p s (effects.Replica from to key id n tags tags_stamp hold hold_stamp class body) given le =
    and_from _ _ (ap not given) (le-leb n m (omega (arith, le)))
brought-old r k m p s (effects.Marker from to key id n) given le = and_from _ _ (ap not given) (le-leb n m (omega (arith, le)))
brought-old r k m p s (effects.Tags from to key id tags stamp) given le = tt
brought-old r k m p s (effects.Hold from to key id hold stamp) given le = tt

-- what a deed adds is of a command that is there then
pub new-deed : (r : ℕ) (h : History) (c : Command)
    → IfSome (deed r h (deeds r h) c).adds (λ (a : Added). is_old r (suc (length (deeds r h)))
    (max (n_of (deed r h (deeds r h) c).does (next_stamp r (deeds r h))) (clock (deeds r h))) a.row ≡ true)
new-deed r h (command.Put b key tags hold class body) =
    let past = deeds r h in
    let stamp = next_stamp r past in
    and_from _ _ (ap not (own-next r (length past) stamp.index refl)) (le-leb stamp.n (max stamp.n (clock past)) (omega arith))
new-deed r h (command.Marker b key) =
    let past = deeds r h in
    let stamp = next_stamp r past in
    and_from _ _ (ap not (own-next r (length past) stamp.index refl)) (le-leb stamp.n (max stamp.n (clock past)) (omega arith))
new-deed r h (command.Receive from number effect) =
    go (is_applied (judge r h effect)) refl (is_none (row_at past (target_of effect) (key_of effect) (id_of effect)))
  where
    past : Past
    past = deeds r h

    fits : is_applied (judge r h effect) ≡ true → is_ahead r (suc (length past)) (id_of effect) ≡ false
    fits ok =
        ahead-less r (length h) (suc (length past)) (id_of effect) (omega (arith, length-deeds r h))
        (reason-ahead r (length h) effect (told_by h past (target_of effect)) ok)

    go : (t : Bool) → is_applied (judge r h effect) ≡ t → (u : Bool)
        → IfSome (cond (t && u) (brought (length past + 1) from effect) None)
        (λ (a : Added). is_old r (suc (length past)) (max (carried_n effect) (clock past)) a.row ≡ true)
    go true ok true = brought-old r (suc (length past)) (max (carried_n effect) (clock past)) (length past + 1) from effect (fits ok) (omega arith)
    go true ok false = tt
    go false ok u = tt
new-deed r h _ = tt

old-front : (r k n : ℕ) (b : Name) (adds : Option Added) (vs : List Entry) → IfSome adds (λ (a : Added). is_old r k n a.row ≡ true)
    → list_all (is_old r k n) vs ≡ true → list_all (is_old r k n) (front b adds vs) ≡ true
old-front r k n b None vs new all = all
old-front r k n b (Some a) vs new all = go (bytes_eq a.bucket b)
  where
    go : (t : Bool) → list_all (is_old r k n) (cond t (a.row ∷ vs) vs) ≡ true
    go true = and_from _ _ new all
    go false = all

pub some_of : {A : Type 0} {P Q : A → Type 0} (o : Option A) → ((a : A) → P a → Q a) → IfSome o P → IfSome o Q
some_of None f p = tt
some_of (Some a) f p = f a p

-- each version is of a command that was there, or of another region
pub all_old : (r : ℕ) (h : History) (b : Name) → list_all (is_old r (length (deeds r h)) (clock (deeds r h))) (versions (deeds r h) b) ≡ true
all_old r [] b = refl
all_old r (c ∷ h) b = go (creates b c) refl (all_old r h b)
  where
    past : Past
    past = deeds r h

    old : Entry → Bool
    old = is_old r (suc (length (deeds r h))) (max (n_of (deed r h past c).does (next_stamp r (deeds r h))) (clock (deeds r h)))

    go : (t : Bool) → creates b c ≡ t → list_all (is_old r (length (deeds r h)) (clock (deeds r h))) (versions past b) ≡ true
        → list_all old (versions (deed r h past c ∷ past) b) ≡ true
    go true begins ih = ap (list_all old) (versions-birth b (deed r h past c) past begins)
    go false goes_on ih =
        ap (list_all old) (versions-step b (deed r h past c) past goes_on)
        ∙ old-front r (suc (length (deeds r h))) (max (n_of (deed r h past c).does (next_stamp r (deeds r h))) (clock (deeds r h))) b (deed r h past c).adds
        (kept_by b c (versions past b)) (new-deed r h c)
        (all-filter old (λ (v : Entry). not (removes b v.key v.id c)) (versions past b)
        (all-weaker (is_old r (length (deeds r h)) (clock (deeds r h))) old
        (λ v. old-more r (length (deeds r h)) (suc (length (deeds r h))) (clock (deeds r h))
        (max (n_of (deed r h past c).does (next_stamp r (deeds r h))) (clock (deeds r h))) v
        (omega arith) (omega arith)) (versions past b) ih))

-- ---- each version stands once

pub id-same : (id other : VersionId) → id_eq other id ≡ true → (r k : ℕ) → is_ahead r k other ≡ is_ahead r k id
id-same id other same r k =
    let parts = and_parts (other.region == id.region) (other.index == id.index) same in
    let region = eqb-true other.region id.region parts.0 in
    let index = eqb-true other.index id.index parts.1 in
    ap (λ x. (x == r) && nat_lt k other.index) region ∙ ap (λ x. (id.region == r) && nat_lt k x) index

-- a row that isn't ahead is another version than one that is
pub other_old : (r k n : ℕ) (key : Name) (id : VersionId) (v : Entry) → is_ahead r k id ≡ true → is_old r k n v ≡ true → is_version key id v ≡ false
other_old r k n key id v ahead old = go (id_eq v.id id) refl
  where
    given : is_ahead r k v.id ≡ false
    given = not-true _ (and_parts (not (is_ahead r k v.id)) (nat_le v.n n) old).0

    go : (t : Bool) → id_eq v.id id ≡ t → is_version key id v ≡ false
    go true e = absurd (let both : is_ahead r k v.id ≡ true = id-same id v.id e r k ∙ ahead in cc)
    go false e = and_right (is_of_key key v) _ e

once-filter : (p : Entry → Bool) (vs : List Entry) → has_each_once vs ≡ true → has_each_once (filter p vs) ≡ true
once-filter p [] once = refl
once-filter p (v ∷ vs) once = go (p v) (once-filter p vs parts.1)
  where
    parts : (list_all (λ (other : Entry). not (is_version v.key v.id other)) vs ≡ true) × (has_each_once vs ≡ true)
    parts = and_parts (list_all (λ (other : Entry). not (is_version v.key v.id other)) vs) (has_each_once vs) once

    go : (t : Bool) → has_each_once (filter p vs) ≡ true → has_each_once (cond t (v ∷ filter p vs) (filter p vs)) ≡ true
    go true ih = and_from _ _ (all-filter (λ (other : Entry). not (is_version v.key v.id other)) p vs parts.0) ih
    go false ih = ih

-- what is added to a bucket isn't among its versions
abbrev pub IsUnknown : Past → Name → Added → Type 0
IsUnknown past b a = bytes_eq a.bucket b ≡ true → list_all (λ (v : Entry). not (is_version a.row.key a.row.id v)) (versions past b) ≡ true

-- the rows of which none is found
pub all-with_row : (p : Entry → Bool) (row : Entry) (rs : List Entry) → list_all p (with_row row rs) ≡ true → (p row ≡ true) × (list_all p rs ≡ true)
all-with_row p row [] all = ((and_parts (p row) true all).0, refl)
all-with_row p row (x ∷ rs) all = go (comes_before row x) all (all-with_row p row rs)
  where
    go : (t : Bool) → list_all p (cond t (row ∷ x ∷ rs) (x ∷ with_row row rs)) ≡ true
        → (list_all p (with_row row rs) ≡ true → (p row ≡ true) × (list_all p rs ≡ true)) → (p row ≡ true) × ((p x && list_all p rs) ≡ true)
    go true all ih = and_parts (p row) (p x && list_all p rs) all
    go false all ih =
        let parts = and_parts (p x) (list_all p (with_row row rs)) all in
        let rest = ih parts.1 in
        (rest.0, and_from _ _ parts.0 rest.1)

all-unordered : (p : Entry → Bool) (vs : List Entry) → list_all p (in_order vs) ≡ true → list_all p vs ≡ true
all-unordered p [] all = refl
all-unordered p (v ∷ vs) all = let parts = all-with_row p v (in_order vs) all in and_from _ _ parts.0 (all-unordered p vs parts.1)

pub all-unmapped : (p : Entry → Bool) (f : Entry → Entry) → ((v : Entry) → p (f v) ≡ p v) → (vs : List Entry) → list_all p (map f vs) ≡ true
    → list_all p vs ≡ true
all-unmapped p f same [] all = refl
all-unmapped p f same (v ∷ vs) all =
    let parts = and_parts (p (f v)) (list_all p (map f vs)) all in and_from _ _ (sym (same v) ∙ parts.0) (all-unmapped p f same vs parts.1)

pub none-there : (key : Name) (id : VersionId) (vs : List Entry) → is_none (find_version key id vs) ≡ true
    → list_all (λ (v : Entry). not (is_version key id v)) vs ≡ true
none-there key id [] none = refl
none-there key id (v ∷ vs) none = go (is_version key id v) none (none-there key id vs)
  where
    go : (t : Bool) → is_none (cond t (Some v) (find_version key id vs)) ≡ true
        → (is_none (find_version key id vs) ≡ true → list_all (λ (w : Entry). not (is_version key id w)) vs ≡ true)
        → (not t && list_all (λ (w : Entry). not (is_version key id w)) vs) ≡ true
    go true none ih = absurd cc
    go false none ih = ih none

row-unknown : (past : Past) (b key : Name) (id : VersionId) → is_none (row_at past b key id) ≡ true
    → list_all (λ (v : Entry). not (is_version key id v)) (versions past b) ≡ true
row-unknown past b key id none =
    all-unmapped (λ (v : Entry). not (is_version key id v)) (at_present past b) (λ v. refl) (versions past b)
    (all-unordered (λ (v : Entry). not (is_version key id v)) (map (at_present past b) (versions past b)) (none-there key id (rows past b) none))

brought-unknown : (past : Past) (b : Name) (p s : ℕ) (e : Carried) → is_none (row_at past (target_of e) (key_of e) (id_of e)) ≡ true
    → IfSome (brought p s e) (IsUnknown past b)
brought-unknown past b p s (effects.Replica from to key id n tags tags_stamp hold hold_stamp class body) none = λ same.
    row-unknown past b key id (ap (λ x. is_none (row_at past x key id)) (sym ((bytes_eq-Decides to b).0 same)) ∙ none)
brought-unknown past b p s (effects.Marker from to key id n) none =
    λ same. row-unknown past b key id (ap (λ x. is_none (row_at past x key id)) (sym ((bytes_eq-Decides to b).0 same)) ∙ none)
brought-unknown past b p s (effects.Tags from to key id tags stamp) none = tt
brought-unknown past b p s (effects.Hold from to key id hold stamp) none = tt

own-unknown : (r : ℕ) (h : History) (b key : Name) (id : VersionId) → is_ahead r (length (deeds r h)) id ≡ true
    → list_all (λ (v : Entry). not (is_version key id v)) (versions (deeds r h) b) ≡ true
own-unknown r h b key id ahead =
    all-weaker (is_old r (length (deeds r h)) (clock (deeds r h))) (λ (v : Entry). not (is_version key id v))
    (λ v old. ap not (other_old r (length (deeds r h)) (clock (deeds r h)) key id v ahead old)) (versions (deeds r h) b) (all_old r h b)

pub unknown : (r : ℕ) (h : History) (b : Name) (c : Command) → IfSome (deed r h (deeds r h) c).adds (IsUnknown (deeds r h) b)
unknown r h b (command.Put bucket key tags hold class body) = λ same.
    own-unknown r h b key (version (next_stamp r (deeds r h)) key tags hold class body).id
    (own-ahead r (length (deeds r h)) (next_stamp r (deeds r h)).index refl)
unknown r h b (command.Marker bucket key) =
    λ same. own-unknown r h b key (marker (next_stamp r (deeds r h)) key).id (own-ahead r (length (deeds r h)) (next_stamp r (deeds r h)).index refl)
unknown r h b (command.Receive from number effect) =
    go (is_applied (judge r h effect)) (is_none (row_at (deeds r h) (target_of effect) (key_of effect) (id_of effect))) refl
  where
    go : (t u : Bool) → is_none (row_at (deeds r h) (target_of effect) (key_of effect) (id_of effect)) ≡ u
        → IfSome (cond (t && u) (brought (length (deeds r h) + 1) from effect) None) (IsUnknown (deeds r h) b)
    go true true none = brought-unknown (deeds r h) b (length (deeds r h) + 1) from effect none
    go true false none = tt
    go false u none = tt
unknown r h b _ = tt

once-front : (b : Name) (adds : Option Added) (vs : List Entry)
    → IfSome adds (λ (a : Added). bytes_eq a.bucket b ≡ true → list_all (λ (v : Entry). not (is_version a.row.key a.row.id v)) vs ≡ true)
    → has_each_once vs ≡ true → has_each_once (front b adds vs) ≡ true
once-front b None vs new once = once
once-front b (Some a) vs new once = go (bytes_eq a.bucket b) refl
  where
    go : (t : Bool) → bytes_eq a.bucket b ≡ t → has_each_once (cond t (a.row ∷ vs) vs) ≡ true
    go true e = and_from _ _ (new e) once
    go false e = once

pub once-versions : (r : ℕ) (h : History) (b : Name) → has_each_once (versions (deeds r h) b) ≡ true
once-versions r [] b = refl
once-versions r (c ∷ h) b = go (creates b c) refl (once-versions r h b)
  where
    past : Past
    past = deeds r h

    go : (t : Bool) → creates b c ≡ t → has_each_once (versions past b) ≡ true → has_each_once (versions (deed r h past c ∷ past) b) ≡ true
    go true begins ih = ap has_each_once (versions-birth b (deed r h past c) past begins)
    go false goes_on ih =
        ap has_each_once (versions-step b (deed r h past c) past goes_on)
        ∙ once-front b (deed r h past c).adds (kept_by b c (versions past b))
        (some_of (deed r h past c).adds (λ (a : Added) new same. all-filter (λ (v : Entry). not (is_version a.row.key a.row.id v))
        (λ (v : Entry). not (removes b v.key v.id c)) (versions past b) (new same)) (unknown r h b c))
        (once-filter (λ (v : Entry). not (removes b v.key v.id c)) (versions past b) ih)
