-- The rows of a bucket, one command after another.
use Rattle.std.proofs.Common.{◌≡◌, ℕ, Bool, true, false, cond, not, ◌&&◌, List, [], ◌∷◌, Option, Some, None, map, filter, length, bytes_eq, refl, sym, ap, ◌∙◌}
use Rattle.std.specs.List.{list_all}
use Rattle.std.proofs.lemmas.Bool.{and_parts, not-true}
use Rattle.s3r_names.specs.Stamp.{is_before}
use Rattle.s3r_names.specs.declared.outcome.Outcome.{Outcome}
use Rattle.s3r_names.specs.declared.stamp.Stamp.{Stamp}
use Rattle.s3r_names.specs.declared.tags.Tag.{Tag}
use Rattle.s3r_names.specs.declared.version.VersionId.{VersionId}
use Rattle.s3r_record.specs.declared.command.Command.{Command}
use Rattle.s3r_record.specs.declared.command.Command.TheVariants as command
use Rattle.s3r_rules.specs.declared.rule.Rule.{Rule}
use Rattle.s3r_versions.specs.Order.{is_listed}
use Rattle.s3r_versions.specs.Lookup.{is_version, find_version, has_each_once}
use Rattle.s3r_versions.specs.Contents.{with_row, without_version, if_version, on_version, with_tags, with_hold, KeepsPlace}
use Rattle.s3r_versions.proofs.Adding.{stays_listed, all-with_row}
use Rattle.s3r_versions.proofs.Changing.{adding_commutes_with_change as change_added}
use Rattle.s3r_versions.proofs.Choosing.{adding_commutes_with_choice as choice_added}
use Rattle.s3r_history.specs.Words.{Name, History}
use Rattle.s3r_history.specs.Buckets.{creates}
use Rattle.s3r_history.specs.Past.{Entry, Added, Deed, Past, clock}
use Rattle.s3r_history.specs.Deeds.{deeds, deed, next_stamp, version, marker}
use Rattle.s3r_history.specs.Rows.{removes, versions, tag_write, hold_write, set_to, at_present, in_order, rows}
use Rattle.s3r_history.proofs.Versions.{all-filter, kept_by, front, versions-step, versions-birth, is_old, all_old, once-versions, some_of, unknown}
use Rattle.s3r_history.proofs.Present.{newest_of, written, written-place, present-place, present-front}

-- ---- the listing order

pub all-in_order : (p : Entry → Bool) (vs : List Entry) → list_all p vs ≡ true → list_all p (in_order vs) ≡ true
all-in_order p [] all = refl
all-in_order p (v ∷ vs) all =
    let parts = and_parts (p v) (list_all p vs) all in
    all-with_row p v (in_order vs) parts.0 (all-in_order p vs parts.1)

pub none-found : (key : Name) (id : VersionId) (vs : List Entry) → list_all (λ (v : Entry). not (is_version key id v)) vs ≡ true → find_version key id vs ≡ None
none-found key id [] none = refl
none-found key id (v ∷ vs) none =
    let parts = and_parts (not (is_version key id v)) (list_all (λ (w : Entry). not (is_version key id w)) vs) none in
    ap (λ t. cond t (Some v) (find_version key id vs)) (not-true _ parts.0) ∙ none-found key id vs parts.1

-- versions of which each stands once are listed in their order
listed : (vs : List Entry) → has_each_once vs ≡ true → is_listed (in_order vs) ≡ true
listed [] once = refl
listed (v ∷ vs) once =
    let parts = and_parts (list_all (λ (w : Entry). not (is_version v.key v.id w)) vs) (has_each_once vs) once in
    stays_listed v (in_order vs) (listed vs parts.1) (none-found v.key v.id (in_order vs)
    (all-in_order (λ (w : Entry). not (is_version v.key v.id w)) vs parts.0))

changed : (f : Entry → Entry) (vs : List Entry) → KeepsPlace f → map f (in_order vs) ≡ in_order (map f vs)
changed f [] keeps = refl
changed f (v ∷ vs) keeps = change_added f v (in_order vs) keeps ∙ ap (with_row (f v)) (changed f vs keeps)

chosen : (p : Entry → Bool) (vs : List Entry) → has_each_once vs ≡ true → filter p (in_order vs) ≡ in_order (filter p vs)
chosen p [] once = refl
chosen p (v ∷ vs) once =
    choice_added p v (in_order vs) (listed vs parts.1)
    ∙ ap (λ xs. cond (p v) (with_row v xs) xs) (chosen p vs parts.1)
    ∙ go (p v)
  where
    parts : (list_all (λ (w : Entry). not (is_version v.key v.id w)) vs ≡ true) × (has_each_once vs ≡ true)
    parts = and_parts (list_all (λ (w : Entry). not (is_version v.key v.id w)) vs) (has_each_once vs) once

    go : (t : Bool) → cond t (with_row v (in_order (filter p vs))) (in_order (filter p vs)) ≡ in_order (cond t (v ∷ filter p vs) (filter p vs))
    go true = refl
    go false = refl

-- what keeps keys and ids keeps each once
once-map : (f : Entry → Entry) → KeepsPlace f → (vs : List Entry) → has_each_once (map f vs) ≡ has_each_once vs
once-map f keeps [] = refl
once-map f keeps (v ∷ vs) =
    ap (λ t. t && has_each_once (map f vs)) (one v vs) ∙ ap (λ t. list_all (λ (w : Entry). not (is_version v.key v.id w)) vs && t) (once-map f keeps vs)
  where
    same : (u w : Entry) → not (is_version (f u).key (f u).id (f w)) ≡ not (is_version u.key u.id w)
    same u w = rw (keeps.key u, keeps.id u, keeps.key w, keeps.id w) refl

    one : (u : Entry) (ws : List Entry) → list_all (λ (w : Entry). not (is_version (f u).key (f u).id w)) (map f ws)
        ≡ list_all (λ (w : Entry). not (is_version u.key u.id w)) ws
    one u [] = refl
    one u (w ∷ ws) =
        ap (λ t. t && list_all (λ (x : Entry). not (is_version (f u).key (f u).id x)) (map f ws)) (same u w)
        ∙ ap (λ t. not (is_version u.key u.id w) && t) (one u ws)

abbrev present : Past → Name → List Entry
present past b = map (at_present past b) (versions past b)

once-present : (r : ℕ) (h : History) (b : Name) → has_each_once (present (deeds r h) b) ≡ true
once-present r h b = once-map (at_present (deeds r h) b) (present-place (deeds r h) b) (versions (deeds r h) b) ∙ once-versions r h b

pub rows_listed : (r : ℕ) (h : History) (b : Name) → is_listed (rows (deeds r h) b) ≡ true
rows_listed r h b = listed (present (deeds r h) b) (once-present r h b)

pub all-map : (p : Entry → Bool) (f : Entry → Entry) → ((v : Entry) → p (f v) ≡ p v) → (vs : List Entry) → list_all p (map f vs) ≡ list_all p vs
all-map p f same [] = refl
all-map p f same (v ∷ vs) = ap (λ t. t && list_all p (map f vs)) (same v) ∙ ap (λ t. p v && t) (all-map p f same vs)

-- each row is of a command that was there, or of another region
pub rows_old : (r : ℕ) (h : History) (b : Name) → list_all (is_old r (length (deeds r h)) (clock (deeds r h))) (rows (deeds r h) b) ≡ true
rows_old r h b =
    all-in_order (is_old r (length (deeds r h)) (clock (deeds r h))) (present (deeds r h) b)
    (all-map (is_old r (length (deeds r h)) (clock (deeds r h))) (at_present (deeds r h) b) (λ v. refl) (versions (deeds r h) b) ∙ all_old r h b)

-- ---- one command more

abbrev pub added : Name → Option Added → List Entry → List Entry
added b None rs = rs
added b (Some a) rs = cond (bytes_eq a.bucket b) (with_row a.row rs) rs

order-front : (b : Name) (o : Option Added) (vs : List Entry) → in_order (front b o vs) ≡ added b o (in_order vs)
order-front b None vs = refl
order-front b (Some a) vs = go (bytes_eq a.bucket b)
  where
    go : (t : Bool) → in_order (cond t (a.row ∷ vs) vs) ≡ cond t (with_row a.row (in_order vs)) (in_order vs)
    go true = refl
    go false = refl

kept-map : (b : Name) (c : Command) (f : Entry → Entry) → KeepsPlace f → (vs : List Entry) → map f (kept_by b c vs) ≡ kept_by b c (map f vs)
kept-map b c f keeps [] = refl
kept-map b c f keeps (v ∷ vs) = go (not (removes b v.key v.id c)) (same v) (kept-map b c f keeps vs)
  where
    same : (u : Entry) → not (removes b (f u).key (f u).id c) ≡ not (removes b u.key u.id c)
    same u = rw (keeps.key u, keeps.id u) refl

    go : (t : Bool) → not (removes b (f v).key (f v).id c) ≡ t → map f (kept_by b c vs) ≡ kept_by b c (map f vs)
        → map f (cond t (v ∷ kept_by b c vs) (kept_by b c vs)) ≡ cond (not (removes b (f v).key (f v).id c)) (f v ∷ kept_by b c (map f vs))
        (kept_by b c (map f vs))
    go true e ih = ap (λ xs. f v ∷ xs) ih ∙ ap (λ t. cond t (f v ∷ kept_by b c (map f vs)) (kept_by b c (map f vs))) (sym e)
    go false e ih = ih ∙ ap (λ t. cond t (f v ∷ kept_by b c (map f vs)) (kept_by b c (map f vs))) (sym e)

-- A command that isn't the bucket's creation writes, removes and adds.
pub rows-step : (r : ℕ) (h : History) (b : Name) (c : Command) → creates b c ≡ false
    → rows (deeds r (c ∷ h)) b ≡ added b (deed r h (deeds r h) c).adds (map (written b (deed r h (deeds r h) c)) (kept_by b c (rows (deeds r h) b)))
rows-step r h b c goes_on =
    ap (λ vs. in_order (map (at_present (d ∷ past) b) vs)) (versions-step b d past goes_on)
    ∙ ap in_order (present-front d past b d.adds (kept_by b c (versions past b)) refl
    (some_of d.adds (λ (a : Added) new same. all-filter (λ (v : Entry). not (is_version a.row.key a.row.id v)) (λ (v : Entry). not (removes b v.key v.id c))
    (versions past b) (new same)) (unknown r h b c)))
    ∙ order-front b d.adds (map (written b d) (map (at_present past b) (kept_by b c (versions past b))))
    ∙ ap (added b d.adds)
    (ap (λ vs. in_order (map (written b d) vs)) (kept-map b c (at_present past b) (present-place past b) (versions past b))
    ∙ sym (changed (written b d) (kept_by b c (present past b)) (written-place b d))
    ∙ ap (map (written b d)) (sym (chosen (λ (v : Entry). not (removes b v.key v.id c)) (present past b) (once-present r h b))))
  where
    past : Past
    past = deeds r h

    d : Deed
    d = deed r h (deeds r h) c

-- the bucket's creation leaves none
pub rows-birth : (r : ℕ) (h : History) (b : Name) (c : Command) → creates b c ≡ true → rows (deeds r (c ∷ h)) b ≡ []
rows-birth r h b c begins = ap (λ vs. in_order (map (at_present (deeds r (c ∷ h)) b) vs)) (versions-birth b (deed r h (deeds r h) c) (deeds r h) begins)

-- ---- command by command

pub kept-all : (b : Name) (c : Command) → ((key : Name) (id : VersionId) → removes b key id c ≡ false) → (rs : List Entry) → kept_by b c rs ≡ rs
kept-all b c none [] = refl
kept-all b c none (row ∷ rs) = ap (λ t. cond (not t) (row ∷ kept_by b c rs) (kept_by b c rs)) (none row.key row.id) ∙ ap (λ xs. row ∷ xs) (kept-all b c none rs)

pub unwritten : (b : Name) (d : Deed) → ((key : Name) (id : VersionId) → tag_write b key id d ≡ None)
    → ((key : Name) (id : VersionId) → hold_write b key id d ≡ None)
    → (rs : List Entry) → map (written b d) rs ≡ rs
unwritten b d tags hold [] = refl
unwritten b d tags hold (row ∷ rs) =
    ap (λ o. set_to row (newest_of o (row.tags_stamp, row.tags)) (newest_of (hold_write b row.key row.id d) (row.hold_stamp, row.hold)) ∷ map (written b d) rs)
    (tags row.key row.id)
    ∙ ap (λ o. set_to row (row.tags_stamp, row.tags) (newest_of o (row.hold_stamp, row.hold)) ∷ map (written b d) rs) (hold row.key row.id)
    ∙ ap (λ xs. row ∷ xs) (unwritten b d tags hold rs)

pub rows-put : (r : ℕ) (h : History) (b bucket key : Name) (tags : List Tag) (hold : Bool) (class body : List ℕ)
    → rows (deeds r (command.Put bucket key tags hold class body ∷ h)) b
    ≡ cond (bytes_eq bucket b) (with_row (version (next_stamp r (deeds r h)) key tags hold class body) (rows (deeds r h) b)) (rows (deeds r h) b)
rows-put r h b bucket key tags hold class body =
    let c = command.Put bucket key tags hold class body in
    rows-step r h b c refl
    ∙ ap (λ rs. cond (bytes_eq bucket b) (with_row (version (next_stamp r (deeds r h)) key tags hold class body) rs) rs)
    (ap (map (written b (deed r h (deeds r h) c))) (kept-all b c (λ k i. refl) (rows (deeds r h) b))
    ∙ unwritten b (deed r h (deeds r h) c) (λ k i. refl) (λ k i. refl) (rows (deeds r h) b))

pub rows-marker : (r : ℕ) (h : History) (b bucket key : Name)
    → rows (deeds r (command.Marker bucket key ∷ h)) b ≡ cond (bytes_eq bucket b) (with_row (marker (next_stamp r (deeds r h)) key) (rows (deeds r h) b))
    (rows (deeds r h) b)
rows-marker r h b bucket key =
    let c = command.Marker bucket key in
    rows-step r h b c refl
    ∙ ap (λ rs. cond (bytes_eq bucket b) (with_row (marker (next_stamp r (deeds r h)) key) rs) rs)
    (ap (map (written b (deed r h (deeds r h) c))) (kept-all b c (λ k i. refl) (rows (deeds r h) b))
    ∙ unwritten b (deed r h (deeds r h) c) (λ k i. refl) (λ k i. refl) (rows (deeds r h) b))

pub rows-create : (r : ℕ) (h : History) (b name : Name) (locked : Bool)
    → rows (deeds r (command.CreateBucket name locked ∷ h)) b ≡ cond (bytes_eq name b) [] (rows (deeds r h) b)
rows-create r h b name locked = go (bytes_eq name b) refl
  where
    go : (t : Bool) → bytes_eq name b ≡ t → rows (deeds r (command.CreateBucket name locked ∷ h)) b ≡ cond t [] (rows (deeds r h) b)
    go true e = rows-birth r h b (command.CreateBucket name locked) e
    go false e =
        rows-step r h b (command.CreateBucket name locked) e
        ∙ ap (map (written b (deed r h (deeds r h) (command.CreateBucket name locked))))
        (kept-all b (command.CreateBucket name locked) (λ k i. refl) (rows (deeds r h) b))
        ∙ unwritten b (deed r h (deeds r h) (command.CreateBucket name locked)) (λ k i. refl) (λ k i. refl) (rows (deeds r h) b)

-- a command that writes no row, nor removes one, nor adds one
pub rows-same : (r : ℕ) (h : History) (b : Name) (c : Command) → creates b c ≡ false → (deed r h (deeds r h) c).adds ≡ None
    → ((key : Name) (id : VersionId) → removes b key id c ≡ false)
    → ((key : Name) (id : VersionId) → tag_write b key id (deed r h (deeds r h) c) ≡ None)
    → ((key : Name) (id : VersionId) → hold_write b key id (deed r h (deeds r h) c) ≡ None)
    → rows (deeds r (c ∷ h)) b ≡ rows (deeds r h) b
rows-same r h b c goes_on adds none tags hold =
    let d = deed r h (deeds r h) c in
    rows-step r h b c goes_on
    ∙ ap (λ o. added b o (map (written b d) (kept_by b c (rows (deeds r h) b)))) adds
    ∙ ap (map (written b d)) (kept-all b c none (rows (deeds r h) b))
    ∙ unwritten b d tags hold (rows (deeds r h) b)

pub rows-delete : (r : ℕ) (h : History) (b name : Name) → rows (deeds r (command.DeleteBucket name ∷ h)) b ≡ rows (deeds r h) b
rows-delete r h b name = rows-same r h b (command.DeleteBucket name) refl refl (λ k i. refl) (λ k i. refl) (λ k i. refl)

pub rows-switch : (r : ℕ) (h : History) (b name : Name) (enabled : Bool) → rows (deeds r (command.SetVersioning name enabled ∷ h)) b ≡ rows (deeds r h) b
rows-switch r h b name enabled = rows-same r h b (command.SetVersioning name enabled) refl refl (λ k i. refl) (λ k i. refl) (λ k i. refl)

pub rows-replicate : (r : ℕ) (h : History) (b name : Name) (config : List Rule) (regions : List ℕ)
    → rows (deeds r (command.SetReplication name config regions ∷ h)) b ≡ rows (deeds r h) b
rows-replicate r h b name config regions = rows-same r h b (command.SetReplication name config regions) refl refl (λ k i. refl) (λ k i. refl) (λ k i. refl)

pub rows-drop : (r : ℕ) (h : History) (b name : Name) → rows (deeds r (command.DropReplication name ∷ h)) b ≡ rows (deeds r h) b
rows-drop r h b name = rows-same r h b (command.DropReplication name) refl refl (λ k i. refl) (λ k i. refl) (λ k i. refl)

removes_those : (t : Bool) (key : Name) (id : VersionId) (rs : List Entry)
    → filter (λ (v : Entry). not (t && is_version key id v)) rs ≡ cond t (without_version key id rs) rs
removes_those true key id rs = refl
removes_those false key id [] = refl
removes_those false key id (row ∷ rs) = ap (λ xs. row ∷ xs) (removes_those false key id rs)

pub rows-remove : (r : ℕ) (h : History) (b bucket key : Name) (id : VersionId)
    → rows (deeds r (command.Remove bucket key id ∷ h)) b ≡ cond (bytes_eq bucket b) (without_version key id (rows (deeds r h) b)) (rows (deeds r h) b)
rows-remove r h b bucket key id =
    let c = command.Remove bucket key id in
    rows-step r h b c refl
    ∙ unwritten b (deed r h (deeds r h) c) (λ k i. refl) (λ k i. refl) (kept_by b c (rows (deeds r h) b))
    ∙ removes_those (bytes_eq bucket b) key id (rows (deeds r h) b)

-- a write with the newer stamp
pub tags_set : (stamp : Stamp) (tags : List Tag) (it : Bool) (row : Entry)
    → set_to row (newest_of (cond it (Some (stamp, tags)) None) (row.tags_stamp, row.tags)) (row.hold_stamp, row.hold) ≡ cond it (with_tags stamp tags row) row
tags_set stamp tags true row = go (is_before row.tags_stamp stamp)
  where
    go : (t : Bool) → set_to row (cond t (stamp, tags) (row.tags_stamp, row.tags)) (row.hold_stamp, row.hold)
        ≡ cond t (record row { tags = tags; tags_stamp = stamp }) row
    go true = refl
    go false = refl
tags_set stamp tags false row = refl

pub hold_set : (stamp : Stamp) (hold : Bool) (it : Bool) (row : Entry)
    → set_to row (row.tags_stamp, row.tags) (newest_of (cond it (Some (stamp, hold)) None) (row.hold_stamp, row.hold)) ≡ cond it (with_hold stamp hold row) row
hold_set stamp hold true row = go (is_before row.hold_stamp stamp)
  where
    go : (t : Bool) → set_to row (row.tags_stamp, row.tags) (cond t (stamp, hold) (row.hold_stamp, row.hold))
        ≡ cond t (record row { hold = hold; hold_stamp = stamp }) row
    go true = refl
    go false = refl
hold_set stamp hold false row = refl

abbrev pub sets_tags : Stamp → List Tag → Name → VersionId → Bool → Entry → Entry
sets_tags stamp tags key id t row =
    set_to row (newest_of (cond (t && is_version key id row) (Some (stamp, tags)) None) (row.tags_stamp, row.tags)) (row.hold_stamp, row.hold)

pub sets_those_tags : (stamp : Stamp) (tags : List Tag) (key : Name) (id : VersionId) (t : Bool) (rs : List Entry)
    → map (sets_tags stamp tags key id t) rs ≡ cond t (on_version key id (with_tags stamp tags) rs) rs
sets_those_tags stamp tags key id true [] = refl
sets_those_tags stamp tags key id true (row ∷ rs) =
    ap (λ x. x ∷ map (sets_tags stamp tags key id true) rs) (tags_set stamp tags (is_version key id row) row)
    ∙ ap (λ xs. if_version key id (with_tags stamp tags) row ∷ xs) (sets_those_tags stamp tags key id true rs)
sets_those_tags stamp tags key id false [] = refl
sets_those_tags stamp tags key id false (row ∷ rs) = ap (λ xs. row ∷ xs) (sets_those_tags stamp tags key id false rs)

pub rows-tags : (r : ℕ) (h : History) (b bucket key : Name) (id : VersionId) (tags : List Tag)
    → rows (deeds r (command.SetTags bucket key id tags ∷ h)) b ≡ cond (bytes_eq bucket b)
    (on_version key id (with_tags (next_stamp r (deeds r h)) tags) (rows (deeds r h) b)) (rows (deeds r h) b)
rows-tags r h b bucket key id tags =
    let c = command.SetTags bucket key id tags in
    rows-step r h b c refl
    ∙ ap (map (written b (deed r h (deeds r h) c))) (kept-all b c (λ k i. refl) (rows (deeds r h) b))
    ∙ sets_those_tags (next_stamp r (deeds r h)) tags key id (bytes_eq bucket b) (rows (deeds r h) b)

abbrev pub sets_hold : Stamp → Bool → Name → VersionId → Bool → Entry → Entry
sets_hold stamp hold key id t row =
    set_to row (row.tags_stamp, row.tags) (newest_of (cond (t && is_version key id row) (Some (stamp, hold)) None) (row.hold_stamp, row.hold))

pub sets_that_hold : (stamp : Stamp) (hold : Bool) (key : Name) (id : VersionId) (t : Bool) (rs : List Entry)
    → map (sets_hold stamp hold key id t) rs ≡ cond t (on_version key id (with_hold stamp hold) rs) rs
sets_that_hold stamp hold key id true [] = refl
sets_that_hold stamp hold key id true (row ∷ rs) =
    ap (λ x. x ∷ map (sets_hold stamp hold key id true) rs) (hold_set stamp hold (is_version key id row) row)
    ∙ ap (λ xs. if_version key id (with_hold stamp hold) row ∷ xs) (sets_that_hold stamp hold key id true rs)
sets_that_hold stamp hold key id false [] = refl
sets_that_hold stamp hold key id false (row ∷ rs) = ap (λ xs. row ∷ xs) (sets_that_hold stamp hold key id false rs)

pub rows-hold : (r : ℕ) (h : History) (b bucket key : Name) (id : VersionId) (hold : Bool)
    → rows (deeds r (command.SetHold bucket key id hold ∷ h)) b ≡ cond (bytes_eq bucket b)
    (on_version key id (with_hold (next_stamp r (deeds r h)) hold) (rows (deeds r h) b)) (rows (deeds r h) b)
rows-hold r h b bucket key id hold =
    let c = command.SetHold bucket key id hold in
    rows-step r h b c refl
    ∙ ap (map (written b (deed r h (deeds r h) c))) (kept-all b c (λ k i. refl) (rows (deeds r h) b))
    ∙ sets_that_hold (next_stamp r (deeds r h)) hold key id (bytes_eq bucket b) (rows (deeds r h) b)

pub rows-settle : (r : ℕ) (h : History) (b : Name) (to number : ℕ) (outcome : Outcome)
    → rows (deeds r (command.Settle to number outcome ∷ h)) b ≡ rows (deeds r h) b
rows-settle r h b to number outcome = rows-same r h b (command.Settle to number outcome) refl refl (λ k i. refl) (λ k i. refl) (λ k i. refl)

pub rows-attempt : (r : ℕ) (h : History) (b : Name) (to number : ℕ) → rows (deeds r (command.Attempt to number ∷ h)) b ≡ rows (deeds r h) b
rows-attempt r h b to number = rows-same r h b (command.Attempt to number) refl refl (λ k i. refl) (λ k i. refl) (λ k i. refl)
