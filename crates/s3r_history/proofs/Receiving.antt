-- The rows of a bucket after an effect was received.
use Rattle.std.proofs.Common.{◌≡◌, ℕ, Bool, true, false, cond, ◌&&◌, ◌+◌, length, is_none, List, [], ◌∷◌, Option, Some, None, map, bytes_eq, refl, sym, ap, ◌∙◌}
use Rattle.std.specs.Prelude.{option_map}
use Rattle.std.proofs.lemmas.Slice.Eq.{bytes_eq-Decides}
use Rattle.s3r_names.specs.Stamp.{is_before}
use Rattle.s3r_names.specs.declared.stamp.Stamp.{Stamp}
use Rattle.s3r_names.specs.declared.tags.Tag.{Tag}
use Rattle.s3r_names.specs.declared.outcome.Outcome.{Outcome}
use Rattle.s3r_record.specs.declared.command.Command.TheVariants as command
use Rattle.s3r_record.specs.declared.effect.Effect.TheVariants as effects
use Rattle.s3r_versions.specs.Lookup.{is_version, find_version}
use Rattle.s3r_versions.specs.Contents.{with_row, on_version, with_tags, with_hold}
use Rattle.s3r_history.specs.Words.{Name, History}
use Rattle.s3r_history.specs.Buckets.{Bucket, bucket}
use Rattle.s3r_history.specs.Past.{Entry, Carried, Added, Deed}
use Rattle.s3r_history.specs.Carried.{target_of, key_of, id_of, is_applied}
use Rattle.s3r_history.specs.Rows.{set_to, tags_brought, hold_brought, rows, removed, row_at}
use Rattle.s3r_history.specs.BucketView.{BucketView}
use Rattle.s3r_history.specs.Deeds.{deeds, deed, brought, judge}
use Rattle.s3r_history.specs.Told.{told}
use Rattle.s3r_history.proofs.Present.{newest_of, written}
use Rattle.s3r_history.proofs.HistoryRows.{added, rows-step, kept-all, unwritten, tags_set, hold_set, rows-settle, rows-attempt}
use Rattle.s3r_history.proofs.ToldSteps.{changed_at, shown}

-- what an effect changes of its version where that is there
abbrev pub change_of : Carried → Entry → Entry
change_of (effects.Replica from to key id n tags tags_stamp hold hold_stamp class body) row = with_hold hold_stamp hold (with_tags tags_stamp tags row)
change_of (effects.Marker from to key id n) row = row
change_of (effects.Tags from to key id tags stamp) row = with_tags stamp tags row
change_of (effects.Hold from to key id hold stamp) row = with_hold stamp hold row

abbrev pub joined : Option Added → List Entry → List Entry
joined None rs = rs
joined (Some a) rs = with_row a.row rs

-- the rows of its bucket, where it is applied: with its version, or with the one that is there changed
abbrev pub taken_in : ℕ → ℕ → Carried → List Entry → List Entry
taken_in p s e rs = joined (cond (is_none (find_version (key_of e) (id_of e) rs)) (brought p s e) None) (on_version (key_of e) (id_of e) (change_of e) rs)

-- ---- one row

both_set : (s : Stamp) (tags : List Tag) (t : Stamp) (hold : Bool) (it : Bool) (row : Entry)
    → set_to row (newest_of (cond it (Some (s, tags)) None) (row.tags_stamp, row.tags)) (newest_of (cond it (Some (t, hold)) None) (row.hold_stamp, row.hold))
    ≡ cond it (with_hold t hold (with_tags s tags row)) row
both_set s tags t hold true row = go (is_before row.tags_stamp s) (is_before row.hold_stamp t) refl
  where
    tagged : Bool → Entry
    tagged u = cond u (record row { tags = tags; tags_stamp = s }) row

    same : (u : Bool) → (tagged u).hold_stamp ≡ row.hold_stamp
    same true = refl
    same false = refl

    go : (u v : Bool) → is_before row.hold_stamp t ≡ v
        → set_to row (cond u (s, tags) (row.tags_stamp, row.tags)) (cond v (t, hold) (row.hold_stamp, row.hold))
        ≡ cond (is_before (tagged u).hold_stamp t) (record (tagged u) { hold = hold; hold_stamp = t }) (tagged u)
    go true true e = sym (ap (λ x. cond x (record (tagged true) { hold = hold; hold_stamp = t }) (tagged true)) e)
    go true false e = sym (ap (λ x. cond x (record (tagged true) { hold = hold; hold_stamp = t }) (tagged true)) e)
    go false true e = sym (ap (λ x. cond x (record row { hold = hold; hold_stamp = t }) row) e)
    go false false e = sym (ap (λ x. cond x (record row { hold = hold; hold_stamp = t }) row) e)
both_set s tags t hold false row = refl

-- what an effect brings to a row of the bucket b
abbrev brings : Name → Carried → Entry → Entry
brings b e row =
    set_to row (newest_of (tags_brought b row.key row.id e) (row.tags_stamp, row.tags)) (newest_of (hold_brought b row.key row.id e) (row.hold_stamp, row.hold))

brings-is : (b : Name) (e : Carried) (row : Entry) → brings b e row
    ≡ cond (bytes_eq (target_of e) b && is_version (key_of e) (id_of e) row) (change_of e row) row
brings-is b (effects.Replica from to key id n tags tags_stamp hold hold_stamp class body) row =
    both_set tags_stamp tags hold_stamp hold (bytes_eq to b && is_version key id row) row
brings-is b (effects.Marker from to key id n) row = go (bytes_eq to b && is_version key id row)
  where
    go : (t : Bool) → row ≡ cond t row row
    go true = refl
    go false = refl
brings-is b (effects.Tags from to key id tags stamp) row = tags_set stamp tags (bytes_eq to b && is_version key id row) row
brings-is b (effects.Hold from to key id hold stamp) row = hold_set stamp hold (bytes_eq to b && is_version key id row) row

all-brought : (b : Name) (e : Carried) (rs : List Entry) → map (brings b e) rs
    ≡ cond (bytes_eq (target_of e) b) (on_version (key_of e) (id_of e) (change_of e) rs) rs
all-brought b e rs = one rs ∙ go (bytes_eq (target_of e) b) rs
  where
    one : (xs : List Entry) → map (brings b e) xs ≡ map (λ (row : Entry). cond (bytes_eq (target_of e) b && is_version (key_of e) (id_of e) row)
        (change_of e row) row) xs
    one [] = refl
    one (x ∷ xs) =
        ap (λ y. y ∷ map (brings b e) xs) (brings-is b e x)
        ∙ ap (λ ys. cond (bytes_eq (target_of e) b && is_version (key_of e) (id_of e) x) (change_of e x) x ∷ ys) (one xs)

    go : (t : Bool) (xs : List Entry) → map (λ (row : Entry). cond (t && is_version (key_of e) (id_of e) row) (change_of e row) row) xs
        ≡ cond t (on_version (key_of e) (id_of e) (change_of e) xs) xs
    go true xs = refl
    go false [] = refl
    go false (x ∷ xs) = ap (λ ys. x ∷ ys) (go false xs)

-- ---- the rows of a bucket

added-joined : (p s : ℕ) (b : Name) (e : Carried) (u : Bool) (rs : List Entry)
    → added b (cond u (brought p s e) None) rs ≡ cond (bytes_eq (target_of e) b) (joined (cond u (brought p s e) None) rs) rs
added-joined p s b (effects.Replica from to key id n tags tags_stamp hold hold_stamp class body) true rs = refl
added-joined p s b (effects.Marker from to key id n) true rs = refl
added-joined p s b (effects.Tags from to key id tags stamp) true rs = same (bytes_eq to b)
  where
    same : (t : Bool) → rs ≡ cond t rs rs
    same true = refl
    same false = refl
added-joined p s b (effects.Hold from to key id hold stamp) true rs = same (bytes_eq to b)
  where
    same : (t : Bool) → rs ≡ cond t rs rs
    same true = refl
    same false = refl
added-joined p s b e false rs = same (bytes_eq (target_of e) b)
  where
    same : (t : Bool) → rs ≡ cond t rs rs
    same true = refl
    same false = refl

pub rows-receive : (r : ℕ) (h : History) (b : Name) (s n : ℕ) (e : Carried)
    → rows (deeds r (command.Receive s n e ∷ h)) b ≡ cond (is_applied (judge r h e))
    (cond (bytes_eq (target_of e) b) (taken_in (length (deeds r h) + 1) s e (rows (deeds r h) b)) (rows (deeds r h) b)) (rows (deeds r h) b)
rows-receive r h b s n e =
    rows-step r h b (command.Receive s n e) refl
    ∙ ap (λ xs. added b (adds (is_applied (judge r h e))) (map (written b d) xs)) (kept-all b (command.Receive s n e) (λ k i. refl) rs)
    ∙ go (is_applied (judge r h e)) refl
  where
    p : ℕ
    p = length (deeds r h) + 1

    rs : List Entry
    rs = rows (deeds r h) b

    d : Deed
    d = deed r h (deeds r h) (command.Receive s n e)

    none : Bool
    none = is_none (row_at (deeds r h) (target_of e) (key_of e) (id_of e))

    adds : Bool → Option Added
    adds t = cond (t && none) (brought p s e) None

    here : (t : Bool) → bytes_eq (target_of e) b ≡ t
        → added b (cond none (brought p s e) None) (cond t (on_version (key_of e) (id_of e) (change_of e) rs) rs) ≡ cond t (taken_in p s e rs) rs
    here true same =
        added-joined p s b e none (on_version (key_of e) (id_of e) (change_of e) rs)
        ∙ ap (λ t. cond t (joined (cond none (brought p s e) None) (on_version (key_of e) (id_of e) (change_of e) rs))
        (on_version (key_of e) (id_of e) (change_of e) rs)) same
        ∙ ap (λ (x : Name). joined (cond (is_none (row_at (deeds r h) x (key_of e) (id_of e))) (brought p s e) None)
        (on_version (key_of e) (id_of e) (change_of e) rs)) ((bytes_eq-Decides (target_of e) b).0 same)
    here false other = added-joined p s b e none rs ∙ ap (λ t. cond t (joined (cond none (brought p s e) None) rs) rs) other

    go : (t : Bool) → is_applied (judge r h e) ≡ t → added b (adds t) (map (written b d) rs)
        ≡ cond t (cond (bytes_eq (target_of e) b) (taken_in p s e rs) rs) rs
    go false e' = unwritten b d (λ k i. ap (λ t. cond t (tags_brought b k i e) None) e') (λ k i. ap (λ t. cond t (hold_brought b k i e) None) e') rs
    go true e' =
        ap (added b (cond none (brought p s e) None)) (writes rs ∙ all-brought b e rs)
        ∙ here (bytes_eq (target_of e) b) refl
      where
        writes : (xs : List Entry) → map (written b d) xs ≡ map (brings b e) xs
        writes [] = refl
        writes (x ∷ xs) =
            ap (λ t. set_to x (newest_of (cond t (tags_brought b x.key x.id e) None) (x.tags_stamp, x.tags))
            (newest_of (cond t (hold_brought b x.key x.id e) None) (x.hold_stamp, x.hold)) ∷ map (written b d) xs) e'
            ∙ ap (λ ys. brings b e x ∷ ys) (writes xs)

-- ---- what is told of its bucket

abbrev pub take_in : ℕ → ℕ → Carried → BucketView → BucketView
take_in p s e t = record t { rows = taken_in p s e t.rows }

pub told-receive : (r : ℕ) (h : History) (s n : ℕ) (e : Carried) (b : Name)
    → told r (command.Receive s n e ∷ h) b ≡ cond (is_applied (judge r h e)) (changed_at (target_of e) (take_in (length (deeds r h) + 1) s e) (told r h) b)
    (told r h b)
told-receive r h s n e b =
    ap (λ rs. shown (bucket h b) rs (removed (deeds r h) b)) (rows-receive r h b s n e) ∙ go (is_applied (judge r h e)) (bytes_eq (target_of e) b) (bucket h b)
  where
    p : ℕ
    p = length (deeds r h) + 1

    go : (t u : Bool) (at : Option Bucket)
        → shown at (cond t (cond u (taken_in p s e (rows (deeds r h) b)) (rows (deeds r h) b)) (rows (deeds r h) b)) (removed (deeds r h) b)
        ≡ cond t (cond u (option_map (take_in p s e) (shown at (rows (deeds r h) b) (removed (deeds r h) b)))
        (shown at (rows (deeds r h) b) (removed (deeds r h) b))) (shown at (rows (deeds r h) b) (removed (deeds r h) b))
    go true true None = refl
    go true true (Some a) = refl
    go true false at = refl
    go false u at = refl

-- ---- tasks of its own leave what is told

pub told-settle : (r : ℕ) (h : History) (to number : ℕ) (outcome : Outcome) (b : Name) → told r (command.Settle to number outcome ∷ h) b ≡ told r h b
told-settle r h to number outcome b = ap (λ rs. shown (bucket h b) rs (removed (deeds r h) b)) (rows-settle r h b to number outcome)

pub told-attempt : (r : ℕ) (h : History) (to number : ℕ) (b : Name) → told r (command.Attempt to number ∷ h) b ≡ told r h b
told-attempt r h to number b = ap (λ rs. shown (bucket h b) rs (removed (deeds r h) b)) (rows-attempt r h b to number)
