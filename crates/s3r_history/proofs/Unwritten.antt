-- Nothing is written of a version before it is there.
use Rattle.std.proofs.Common.{◌≡◌, ℕ, suc, ◌+◌, ◌≤◌, Bool, true, false, cond, not, ◌&&◌, ◌||◌, is_none, List, [], ◌∷◌, Option, Some, None}
use Rattle.std.proofs.Common.{map, length, bytes_eq, refl, sym, ap, ap₂, ◌∙◌, arith, true≢false}
use Rattle.std.specs.Prelude.{IfSome, option_map}
use Rattle.std.specs.List.{list_all, cons_option, filter_map}
use Rattle.std.proofs.lemmas.Bool.{and_parts, and_from, and_right, not-true, or_parts, false_from_ne_true}
use Rattle.std.proofs.lemmas.Slice.Eq.{bytes_eq-Decides}
use Rattle.s3r_names.specs.declared.outcome.Outcome.{Outcome}
use Rattle.s3r_names.specs.declared.outcome.Outcome.TheVariants as outcomes
use Rattle.s3r_names.specs.declared.outcome.Reason.TheVariants as reasons
use Rattle.s3r_names.specs.declared.stamp.Stamp.{Stamp}
use Rattle.s3r_names.specs.declared.tags.Tag.{Tag}
use Rattle.s3r_names.specs.declared.version.VersionId.{VersionId}
use Rattle.s3r_record.specs.declared.command.Command.{Command}
use Rattle.s3r_record.specs.declared.command.Command.TheVariants as command
use Rattle.s3r_record.specs.declared.effect.Effect.TheVariants as effects
use Rattle.s3r_versions.specs.Contents.{with_row}
use Rattle.s3r_versions.specs.Lookup.{id_eq, is_version, find_version}
use Rattle.s3r_versions.specs.Removed.{was_removed}
use Rattle.s3r_versions.proofs.Versions.{id_is, id_itself, names_are, names_itself}
use Rattle.s3r_versions.proofs.RemovedIds.{keeps_id}
use Rattle.s3r_history.specs.declared.refusal.Refusal.{Refusal}
use Rattle.s3r_history.specs.declared.refusal.Refusal.TheVariants as refusals
use Rattle.s3r_history.specs.Words.{Name, History, newer_than}
use Rattle.s3r_history.specs.Buckets.{Bucket, bucket, creates}
use Rattle.s3r_history.specs.Past.{Entry, Carried, Added, Deed, Past, clock}
use Rattle.s3r_history.specs.Carried.{target_of, key_of, id_of, is_change, has_hold, is_applied}
use Rattle.s3r_history.specs.Rows.{names_it, removes, removed_id, with_removed, ids_removed, adds_it, tags_brought, hold_brought, tag_write, hold_write}
use Rattle.s3r_history.specs.Rows.{life, rows, row_at, removed, tags_changed, hold_changed}
use Rattle.s3r_history.specs.BucketView.{BucketView, told_as}
use Rattle.s3r_history.specs.Judging.{is_ahead, judged, first_of_reasons}
use Rattle.s3r_history.specs.Deeds.{deeds, deed, next_stamp, brought, judge}
use Rattle.s3r_history.specs.Told.{told}
use Rattle.s3r_history.specs.Writes.{tags_received, hold_received, tags_given, hold_given, tags_by, hold_by, tags_written, hold_written}
use Rattle.s3r_history.specs.Accepts.{Cause, first_of_causes, in_bucket, in_version, of_a_marker, of_tags, of_hold, refusal, IsLawful}
use Rattle.s3r_history.proofs.LineSteps.{IsThere, told-rows, what_a_line_does}
use Rattle.s3r_history.proofs.Versions.{all-weaker, kept_by, is_old, other_old, length-deeds, ahead-less, id-same, all-with_row, all-unmapped, none-there, new-deed}
use Rattle.s3r_history.proofs.Present.{written}
use Rattle.s3r_history.proofs.HistoryRows.{none-found, rows_old, added, rows-step}

-- what a command does after a history
abbrev pub done : ℕ → History → Command → Deed
done r h c = deed r h (deeds r h) c

-- ---- a command that doesn't add a version writes what it changes of it

received_tags : (b k : Name) (i : VersionId) (adds : Option Added) (e : Carried) → adds_it b k i adds ≡ false
    → tags_received b k i adds e ≡ tags_brought b k i e
received_tags b k i adds (effects.Replica from to key id n tags tags_stamp hold hold_stamp class body) other = refl
received_tags b k i adds (effects.Marker from to key id n) other =
    ap (λ t. cond t (Some (record { n = n; region = id.region; index = id.index }, [])) None) other
received_tags b k i adds (effects.Tags from to key id tags stamp) other = refl
received_tags b k i adds (effects.Hold from to key id hold stamp) other = refl

received_hold : (b k : Name) (i : VersionId) (adds : Option Added) (e : Carried) → adds_it b k i adds ≡ false
    → hold_received b k i adds e ≡ hold_brought b k i e
received_hold b k i adds (effects.Replica from to key id n tags tags_stamp hold hold_stamp class body) other = refl
received_hold b k i adds (effects.Marker from to key id n) other =
    ap (λ t. cond t (Some (record { n = n; region = id.region; index = id.index }, false)) None) other
received_hold b k i adds (effects.Tags from to key id tags stamp) other = refl
received_hold b k i adds (effects.Hold from to key id hold stamp) other = refl

pub tags_given_as_changed : (r : ℕ) (h : History) (c : Command) (b k : Name) (i : VersionId) → adds_it b k i (done r h c).adds ≡ false
    → tags_by b k i (done r h c) ≡ tag_write b k i (done r h c)
tags_given_as_changed r h (command.Put name key tags hold class body) b k i other = ap (λ t. cond t (Some (next_stamp r (deeds r h), tags)) None) other
tags_given_as_changed r h (command.Marker name key) b k i other = ap (λ t. cond t (Some (next_stamp r (deeds r h), [])) None) other
tags_given_as_changed r h (command.Receive from number effect) b k i other =
    ap (λ o. cond (is_applied (judge r h effect)) o None) (received_tags b k i (done r h (command.Receive from number effect)).adds effect other)
tags_given_as_changed r h (command.Line job line) b k i other =
    let d = done r h (command.Line job line) in
    what_a_line_does r h (λ (c : Command). tags_given b k i d.stamp d.outcome None c ≡ tags_changed b k i d.stamp d.outcome c) job line
    (record { tags = λ name key row tags at told there. refl; hold = λ name key row hold at told there locked. refl }) refl
tags_given_as_changed r h _ b k i other = refl

pub hold_given_as_changed : (r : ℕ) (h : History) (c : Command) (b k : Name) (i : VersionId) → adds_it b k i (done r h c).adds ≡ false
    → hold_by b k i (done r h c) ≡ hold_write b k i (done r h c)
hold_given_as_changed r h (command.Put name key tags hold class body) b k i other = ap (λ t. cond t (Some (next_stamp r (deeds r h), hold)) None) other
hold_given_as_changed r h (command.Marker name key) b k i other = ap (λ t. cond t (Some (next_stamp r (deeds r h), false)) None) other
hold_given_as_changed r h (command.Receive from number effect) b k i other =
    ap (λ o. cond (is_applied (judge r h effect)) o None) (received_hold b k i (done r h (command.Receive from number effect)).adds effect other)
hold_given_as_changed r h (command.Line job line) b k i other =
    let d = done r h (command.Line job line) in
    what_a_line_does r h (λ (c : Command). hold_given b k i d.stamp d.outcome None c ≡ hold_changed b k i d.stamp d.outcome c) job line
    (record { tags = λ name key row tags at told there. refl; hold = λ name key row hold at told there locked. refl }) refl
hold_given_as_changed r h _ b k i other = refl

-- ---- what is changed is there

-- the causes behind one that doesn't hold
behind : (b : Bool) (x : Refusal) (o : Option Refusal) → cond b (Some x) o ≡ None → o ≡ None
behind true x o e = absurd cc
behind false x o e = e

-- the last of the causes is that the version isn't there, or is a marker
abbrev EndsWithVersion : Name → VersionId → (BucketView → List Cause) → Type 0
EndsWithVersion key id more = (at : BucketView) → first_of_causes (more at) ≡ None
    → first_of_causes (in_version of_a_marker (find_version key id at.rows)) ≡ None

-- what asks for a version that isn't there is refused
unknown_refused : (r : ℕ) (h : History) (name key : Name) (id : VersionId) (more : BucketView → List Cause) → EndsWithVersion key id more
    → row_at (deeds r h) name key id ≡ None → first_of_causes (in_bucket more (told r h name)) ≡ None → ⊥
unknown_refused r h name key id more ends none = go (bucket h name)
  where
    go : (at : Option Bucket) → first_of_causes (in_bucket more (option_map (told_as (deeds r h) name) at)) ≡ None → ⊥
    go None e = cc
    go (Some at) e =
        let unmet : first_of_causes (in_version of_a_marker None) ≡ None =
        sym (ap (λ (o : Option Entry). first_of_causes (in_version of_a_marker o)) none) ∙ ends (told_as (deeds r h) name at) e in
        cc

-- a change of a version that isn't there isn't applied
unknown_unapplied : (r : ℕ) (h : History) (e : Carried) → is_change e ≡ true → row_at (deeds r h) (target_of e) (key_of e) (id_of e) ≡ None
    → is_applied (judge r h e) ≡ false
unknown_unapplied r h e change none = go (bucket h (target_of e))
  where
    asked : (t u v : Bool) (rest : Outcome) → v ≡ true → is_applied (cond t (outcomes.Refused reasons.DestinationSuspended)
        (cond u (outcomes.Refused reasons.VersionRemoved) (cond v (outcomes.Refused reasons.NoSuchVersion) rest))) ≡ false
    asked true u v rest e = refl
    asked false true v rest e = refl
    asked false false true rest e = refl
    asked false false false rest e = absurd (true≢false (sym e))

    go : (at : Option Bucket) → is_applied (judged r (length h) e (option_map (told_as (deeds r h) (target_of e)) at)) ≡ false
    go None = refl
    go (Some at) =
        asked (not at.enabled) (was_removed (id_of e) (removed (deeds r h) (target_of e)) || is_ahead r (length h) (id_of e))
        (is_change e && is_none (row_at (deeds r h) (target_of e) (key_of e) (id_of e)))
        (first_of_reasons ((has_hold e && not at.locked, reasons.DestinationNotLocked) ∷ []))
        (and_from _ _ change (ap is_none none))

-- nor is what was removed
pub applied_unremoved : (r : ℕ) (h : History) (e : Carried) → is_applied (judge r h e) ≡ true
    → was_removed (id_of e) (removed (deeds r h) (target_of e)) ≡ false
applied_unremoved r h e ok = go (bucket h (target_of e)) ok
  where
    asked : (t u v : Bool) (rest : Outcome) → is_applied (cond t (outcomes.Refused reasons.DestinationSuspended)
        (cond (u || v) (outcomes.Refused reasons.VersionRemoved) rest)) ≡ true → u ≡ false
    asked true u v rest ok = absurd (true≢false (sym ok))
    asked false true v rest ok = absurd (true≢false (sym ok))
    asked false false v rest ok = refl

    go : (at : Option Bucket) → is_applied (judged r (length h) e (option_map (told_as (deeds r h) (target_of e)) at)) ≡ true
        → was_removed (id_of e) (removed (deeds r h) (target_of e)) ≡ false
    go None ok = absurd (true≢false (sym ok))
    go (Some at) ok =
        asked (not at.enabled) (was_removed (id_of e) (removed (deeds r h) (target_of e))) (is_ahead r (length h) (id_of e))
        (first_of_reasons ((is_change e && is_none (row_at (deeds r h) (target_of e) (key_of e) (id_of e)), reasons.NoSuchVersion)
        ∷ (has_hold e && not at.locked, reasons.DestinationNotLocked) ∷ [])) ok

-- a version that is asked for by its names is the one that isn't there
none_named : (r : ℕ) (h : History) (b k : Name) (i : VersionId) (name key : Name) (id : VersionId) → names_it name key id b k i ≡ true
    → row_at (deeds r h) b k i ≡ None → row_at (deeds r h) name key id ≡ None
none_named r h b k i name key id same none =
    let parts = and_parts (bytes_eq name b) (bytes_eq k key && id_eq i id) same in
    let names = names_are k key i id parts.1 in
    ap (λ (x : Name). row_at (deeds r h) x key id) ((bytes_eq-Decides name b).0 parts.0)
    ∙ ap₂ (λ (x : Name) (y : VersionId). row_at (deeds r h) b x y) (sym names.0) (sym names.1)
    ∙ none

-- what is written where the test holds isn't written where that can't be
unless : {X : Type 0} (t : Bool) (x : X) → (t ≡ true → ⊥) → cond t (Some x) None ≡ None
unless true x not_so = absurd (not_so refl)
unless false x not_so = refl

-- an accepted change is of a version that is there
set_unless : {X : Type 0} (r : ℕ) (h : History) (b k : Name) (i : VersionId) (name key : Name) (id : VersionId) (more : BucketView → List Cause) (x : X)
    → EndsWithVersion key id more → first_of_causes (in_bucket more (told r h name)) ≡ None → row_at (deeds r h) b k i ≡ None
    → cond (names_it name key id b k i) (Some x) None ≡ None
set_unless r h b k i name key id more x ends accepted none =
    unless (names_it name key id b k i) x (λ same. unknown_refused r h name key id more ends (none_named r h b k i name key id same none) accepted)

-- a received effect that is applied adds its version, or changes one that is there
received_unless : {X : Type 0} (t : Bool) (o : Option X) → (t ≡ true → o ≡ None) → cond t o None ≡ None
received_unless true o none = none refl
received_unless false o none = refl

change_unless : {X : Type 0} (r : ℕ) (h : History) (b k : Name) (i : VersionId) (e : Carried) (x : X) → is_change e ≡ true → is_applied (judge r h e) ≡ true
    → row_at (deeds r h) b k i ≡ None → cond (names_it (target_of e) (key_of e) (id_of e) b k i) (Some x) None ≡ None
change_unless r h b k i e x change ok none =
    unless (names_it (target_of e) (key_of e) (id_of e) b k i) x (λ same. true≢false (sym ok ∙ unknown_unapplied r h e change
    (none_named r h b k i (target_of e) (key_of e) (id_of e) same none)))

-- a replica of a version that isn't there adds it
replica_adds : (p s : ℕ) (o : Option Added) (t : Bool) (row : Option Entry) → row ≡ None → t ≡ true → cond (t && is_none row) o None ≡ o
replica_adds p s o t row none ok = ap₂ (λ x y. cond (x && is_none y) o None) ok none

replica_unless : {X : Type 0} (r : ℕ) (h : History) (b k : Name) (i : VersionId) (from number : ℕ) (e : Carried) (x : X)
    → ((p s : ℕ) → adds_it b k i (brought p s e) ≡ names_it (target_of e) (key_of e) (id_of e) b k i) → is_applied (judge r h e) ≡ true
    → row_at (deeds r h) b k i ≡ None → adds_it b k i (done r h (command.Receive from number e)).adds ≡ false
    → cond (names_it (target_of e) (key_of e) (id_of e) b k i) (Some x) None ≡ None
replica_unless r h b k i from number e x brings ok none other =
    unless (names_it (target_of e) (key_of e) (id_of e) b k i) x (λ same.
    let there = none_named r h b k i (target_of e) (key_of e) (id_of e) same none in
    let place = length (deeds r h) + 1 in
    true≢false (sym same ∙ sym (brings place from) ∙ sym (ap (adds_it b k i) (replica_adds place from (brought place from e) (is_applied (judge r h e))
    (row_at (deeds r h) (target_of e) (key_of e) (id_of e)) there ok)) ∙ other))

-- a line changes a row that is there
line_unless : {X : Type 0} (r : ℕ) (h : History) (b k : Name) (i : VersionId) (name key : Name) (row : Entry) (x : X) (at : BucketView)
    → told r h name ≡ Some at → IsThere at key row → row_at (deeds r h) b k i ≡ None → cond (names_it name key row.id b k i) (Some x) None ≡ None
line_unless r h b k i name key row x at is there none =
    unless (names_it name key row.id b k i) x (λ same.
    let missing : Some row ≡ None =
    sym there.found ∙ ap (find_version key row.id) (told-rows r h name at is) ∙ none_named r h b k i name key row.id same none in
    cc)

-- Of a version that isn't there and isn't added nothing is changed by a command that is accepted.
none_tagged : (n r : ℕ) (h : History) (c : Command) (b k : Name) (i : VersionId) → refusal n r h c ≡ None → row_at (deeds r h) b k i ≡ None
    → adds_it b k i (done r h c).adds ≡ false → tag_write b k i (done r h c) ≡ None
none_tagged n r h (command.SetTags name key id tags) b k i accepted none other =
    set_unless r h b k i name key id (of_tags key id) (next_stamp r (deeds r h), tags) (λ at e. e) accepted none
none_tagged n r h (command.Receive from number effect) b k i accepted none other =
    received_unless (is_applied (judge r h effect)) (tags_brought b k i effect) (λ ok. one effect ok other)
  where
    one : (e : Carried) → is_applied (judge r h e) ≡ true → adds_it b k i (done r h (command.Receive from number e)).adds ≡ false
        → tags_brought b k i e ≡ None
    one (effects.Replica s t key id m tags tags_stamp hold hold_stamp class body) ok other =
        replica_unless r h b k i from number (effects.Replica s t key id m tags tags_stamp hold hold_stamp class body) (tags_stamp, tags)
        (λ p q. refl) ok none other
    one (effects.Marker s t key id m) ok other = refl
    one (effects.Tags s t key id tags stamp) ok other =
        change_unless r h b k i (effects.Tags s t key id tags stamp) (stamp, tags) refl ok none
    one (effects.Hold s t key id hold stamp) ok other = refl
none_tagged n r h (command.Line job line) b k i accepted none other =
    let d = done r h (command.Line job line) in
    what_a_line_does r h (λ (c : Command). tags_changed b k i d.stamp d.outcome c ≡ None) job line
    (record {
      tags = λ name key row tags at is there. line_unless r h b k i name key row (d.stamp, tags) at is there none;
      hold = λ name key row hold at is there locked. refl;
    }) refl
none_tagged n r h _ b k i accepted none other = refl

none_held : (n r : ℕ) (h : History) (c : Command) (b k : Name) (i : VersionId) → refusal n r h c ≡ None → row_at (deeds r h) b k i ≡ None
    → adds_it b k i (done r h c).adds ≡ false → hold_write b k i (done r h c) ≡ None
none_held n r h (command.SetHold name key id hold) b k i accepted none other =
    set_unless r h b k i name key id (of_hold key id) (next_stamp r (deeds r h), hold)
    (λ at e. behind (not at.locked) refusals.LockNeeded _ e) accepted none
none_held n r h (command.Receive from number effect) b k i accepted none other =
    received_unless (is_applied (judge r h effect)) (hold_brought b k i effect) (λ ok. one effect ok other)
  where
    one : (e : Carried) → is_applied (judge r h e) ≡ true → adds_it b k i (done r h (command.Receive from number e)).adds ≡ false
        → hold_brought b k i e ≡ None
    one (effects.Replica s t key id m tags tags_stamp hold hold_stamp class body) ok other =
        replica_unless r h b k i from number (effects.Replica s t key id m tags tags_stamp hold hold_stamp class body) (hold_stamp, hold)
        (λ p q. refl) ok none other
    one (effects.Marker s t key id m) ok other = refl
    one (effects.Tags s t key id tags stamp) ok other = refl
    one (effects.Hold s t key id hold stamp) ok other =
        change_unless r h b k i (effects.Hold s t key id hold stamp) (stamp, hold) refl ok none
none_held n r h (command.Line job line) b k i accepted none other =
    let d = done r h (command.Line job line) in
    what_a_line_does r h (λ (c : Command). hold_changed b k i d.stamp d.outcome c ≡ None) job line
    (record {
      tags = λ name key row tags at is there. refl;
      hold = λ name key row hold at is there locked. line_unless r h b k i name key row (d.stamp, hold) at is there none;
    }) refl
none_held n r h _ b k i accepted none other = refl

-- nothing is written of a version
pub record IsUnwritten (past : Past) (b k : Name) (i : VersionId) : Type 0 where
  pub tags : tags_written past b k i ≡ []
  pub hold : hold_written past b k i ≡ []

-- nor is it after a command that is accepted, where the version isn't there and isn't added
still_unwritten : (n r : ℕ) (h : History) (c : Command) (ws : Past) (b k : Name) (i : VersionId) → refusal n r h c ≡ None
    → row_at (deeds r h) b k i ≡ None → adds_it b k i (done r h c).adds ≡ false → IsUnwritten ws b k i → IsUnwritten (done r h c ∷ ws) b k i
still_unwritten n r h c ws b k i accepted none other before = record {
  tags = ap (λ (o : Option (Stamp × List Tag)). cons_option o (tags_written ws b k i))
      (tags_given_as_changed r h c b k i other ∙ none_tagged n r h c b k i accepted none other) ∙ before.tags;
  hold = ap (λ (o : Option (Stamp × Bool)). cons_option o (hold_written ws b k i))
      (hold_given_as_changed r h c b k i other ∙ none_held n r h c b k i accepted none other) ∙ before.hold;
}

-- ---- an id that the region hasn't given yet

ahead_unknown : (r : ℕ) (h : History) (b k : Name) (i : VersionId) → is_ahead r (length h) i ≡ true → row_at (deeds r h) b k i ≡ None
ahead_unknown r h b k i ahead =
    none-found k i (rows (deeds r h) b)
    (all-weaker (is_old r (length (deeds r h)) (clock (deeds r h))) (λ (v : Entry). not (is_version k i v))
    (λ v old. ap not (other_old r (length (deeds r h)) (clock (deeds r h)) k i v (ap (λ m. is_ahead r m i) (length-deeds r h) ∙ ahead) old))
    (rows (deeds r h) b) (rows_old r h b))

-- what is added is none of them
ahead_other : (r m l : ℕ) (b k : Name) (i : VersionId) (adds : Option Added) → is_ahead r m i ≡ true
    → IfSome adds (λ (a : Added). is_old r m l a.row ≡ true) → adds_it b k i adds ≡ false
ahead_other r m l b k i None ahead old = refl
ahead_other r m l b k i (Some a) ahead old = go (id_eq i a.row.id) refl
  where
    given : is_ahead r m a.row.id ≡ false
    given = not-true _ (and_parts (not (is_ahead r m a.row.id)) _ old).0

    go : (t : Bool) → id_eq i a.row.id ≡ t → (bytes_eq a.bucket b && (bytes_eq k a.row.key && t)) ≡ false
    go true e = absurd (true≢false (sym ahead ∙ id-same a.row.id i e r m ∙ given))
    go false e = and_right (bytes_eq a.bucket b) _ (and_right (bytes_eq k a.row.key) false refl)

less_ahead : (r m l : ℕ) (i : VersionId) → m ≤ l → is_ahead r l i ≡ true → is_ahead r m i ≡ true
less_ahead r m l i le ahead = go (is_ahead r m i) refl
  where
    go : (t : Bool) → is_ahead r m i ≡ t → t ≡ true
    go true e = refl
    go false e = absurd (true≢false (sym ahead ∙ ahead-less r m l i le e))

-- nothing was ever written of a version with such an id
pub ahead_unwritten : (n r : ℕ) (h : History) → IsLawful n r h → (b k : Name) (i : VersionId) → is_ahead r (length h) i ≡ true
    → IsUnwritten (deeds r h) b k i
ahead_unwritten n r [] lawful b k i ahead = record { tags = refl; hold = refl }
ahead_unwritten n r (c ∷ h) lawful b k i ahead =
    let before = less_ahead r (length h) (suc (length h)) i (omega arith) ahead in
    still_unwritten n r h c (deeds r h) b k i lawful.1 (ahead_unknown r h b k i before)
    (ahead_other r (suc (length (deeds r h))) _ b k i (done r h c).adds (ap (λ m. is_ahead r (suc m) i) (length-deeds r h) ∙ ahead) (new-deed r h c))
    (ahead_unwritten n r h lawful.2 b k i before)

-- ---- a version that wasn't there since the bucket's creation

none_newer : {X : Type 0} (f : Deed → Option X) (stop : Deed → Bool) (past : Past) → filter_map f past ≡ [] → filter_map f (newer_than stop past) ≡ []
none_newer f stop [] none = refl
none_newer {X} f stop (d ∷ past) none = go (stop d) (f d) refl none (none_newer f stop past)
  where
    go : (t : Bool) (o : Option X) → f d ≡ o → cons_option o (filter_map f past) ≡ [] → (filter_map f past ≡ [] → filter_map f (newer_than stop past) ≡ [])
        → filter_map f (cond t [] (d ∷ newer_than stop past)) ≡ []
    go true o e none ih = refl
    go false None e none ih = ap (λ x. cons_option x (filter_map f (newer_than stop past))) e ∙ ih none
    go false (Some x) e none ih = absurd cc

pub unwritten_since : (past : Past) (b k : Name) (i : VersionId) → IsUnwritten past b k i → IsUnwritten (life b past) b k i
unwritten_since past b k i is = record {
  tags = none_newer (tags_by b k i) (λ (d : Deed). creates b d.command) past is.tags;
  hold = none_newer (hold_by b k i) (λ (d : Deed). creates b d.command) past is.hold;
}

-- a row that isn't the version
abbrev is_unlike : Name → VersionId → Entry → Bool
is_unlike k i v = not (is_version k i v)

other_names : (k : Name) (i : VersionId) (row : Entry) → is_unlike k i row ≡ true → (bytes_eq k row.key && id_eq i row.id) ≡ false
other_names k i row unlike = go (bytes_eq k row.key && id_eq i row.id) refl
  where
    go : (t : Bool) → (bytes_eq k row.key && id_eq i row.id) ≡ t → t ≡ false
    go false e = refl
    go true e =
        let names = names_are k row.key i row.id e in
        absurd (true≢false (sym (ap₂ (λ x y. bytes_eq row.key x && id_eq row.id y) names.0 names.1 ∙ names_itself row.key row.id) ∙ not-true _ unlike))

before_added : (b k : Name) (i : VersionId) (adds : Option Added) (rs : List Entry) → list_all (is_unlike k i) (added b adds rs) ≡ true
    → (adds_it b k i adds ≡ false) × (list_all (is_unlike k i) rs ≡ true)
before_added b k i None rs all = (refl, all)
before_added b k i (Some a) rs all = go (bytes_eq a.bucket b) all
  where
    go : (t : Bool) → list_all (is_unlike k i) (cond t (with_row a.row rs) rs) ≡ true
        → ((t && (bytes_eq k a.row.key && id_eq i a.row.id)) ≡ false) × (list_all (is_unlike k i) rs ≡ true)
    go true all = let parts = all-with_row (is_unlike k i) a.row rs all in (other_names k i a.row parts.0, parts.1)
    go false all = (refl, all)

before_kept : (b : Name) (c : Command) (k : Name) (i : VersionId) → removes b k i c ≡ false → (rs : List Entry)
    → list_all (is_unlike k i) (kept_by b c rs) ≡ true → list_all (is_unlike k i) rs ≡ true
before_kept b c k i stays [] all = refl
before_kept b c k i stays (v ∷ rs) all = go (removes b v.key v.id c) refl all (before_kept b c k i stays rs)
  where
    gone : removes b v.key v.id c ≡ true → is_version k i v ≡ false
    gone e = false_from_ne_true (is_version k i v) (λ it.
        let names = names_are v.key k v.id i it in
        true≢false (sym e ∙ ap₂ (λ x y. removes b x y c) names.0 names.1 ∙ stays))

    go : (t : Bool) → removes b v.key v.id c ≡ t → list_all (is_unlike k i) (cond (not t) (v ∷ kept_by b c rs) (kept_by b c rs)) ≡ true
        → (list_all (is_unlike k i) (kept_by b c rs) ≡ true → list_all (is_unlike k i) rs ≡ true) → (is_unlike k i v && list_all (is_unlike k i) rs) ≡ true
    go true e all ih = and_from _ _ (ap not (gone e)) (ih all)
    go false e all ih =
        let parts = and_parts (is_unlike k i v) (list_all (is_unlike k i) (kept_by b c rs)) all in
        and_from _ _ parts.0 (ih parts.1)

-- Where a version isn't there after a command that neither creates its bucket nor removes it, it wasn't there before.
pub not_before : (r : ℕ) (h : History) (c : Command) (b k : Name) (i : VersionId) → creates b c ≡ false → removes b k i c ≡ false
    → row_at (deeds r (c ∷ h)) b k i ≡ None → (row_at (deeds r h) b k i ≡ None) × (adds_it b k i (done r h c).adds ≡ false)
not_before r h c b k i goes_on stays none =
    let rs = kept_by b c (rows (deeds r h) b) in
    let after : list_all (is_unlike k i) (added b (done r h c).adds (map (written b (done r h c)) rs)) ≡ true =
    ap (list_all (is_unlike k i)) (sym (rows-step r h b c goes_on)) ∙ none-there k i (rows (deeds r (c ∷ h)) b) (ap is_none none) in
    let parts = before_added b k i (done r h c).adds (map (written b (done r h c)) rs) after in
    let kept = all-unmapped (is_unlike k i) (written b (done r h c)) (λ v. refl) rs parts.1 in
    (none-found k i (rows (deeds r h) b) (before_kept b c k i stays (rows (deeds r h) b) kept), parts.0)

-- an id that isn't among the removed ones wasn't before, and isn't removed
removed_before : (b k : Name) (i : VersionId) (c : Command) (ids : List VersionId) → was_removed i (with_removed (removed_id b c) ids) ≡ false
    → (removes b k i c ≡ false) × (was_removed i ids ≡ false)
removed_before b k i (command.Remove name key id) ids not_so = go (bytes_eq name b) not_so
  where
    go : (t : Bool) → was_removed i (with_removed (cond t (Some id) None) ids) ≡ false
        → ((t && (bytes_eq k key && id_eq i id)) ≡ false) × (was_removed i ids ≡ false)
    go true not_so =
        let parts = or_parts (id_eq id i) (was_removed i ids) (sym (keeps_id id i ids) ∙ not_so) in
        let other : id_eq i id ≡ false = false_from_ne_true (id_eq i id) (λ it.
        true≢false (sym (ap (λ x. id_eq id x) (id_is i id it) ∙ id_itself id) ∙ parts.0)) in
        (and_right (bytes_eq k key) _ other, parts.1)
    go false not_so = (refl, not_so)
removed_before b k i _ ids not_so = (refl, not_so)

-- Nothing was written since the bucket's creation of a version that isn't there and wasn't removed.
pub unknown_unwritten : (n r : ℕ) (h : History) → IsLawful n r h → (b k : Name) (i : VersionId) → row_at (deeds r h) b k i ≡ None
    → was_removed i (removed (deeds r h) b) ≡ false → IsUnwritten (life b (deeds r h)) b k i
unknown_unwritten n r [] lawful b k i none not_so = record { tags = refl; hold = refl }
unknown_unwritten n r (c ∷ h) lawful b k i none not_so = go (creates b c) refl not_so (unknown_unwritten n r h lawful.2 b k i)
  where
    go : (t : Bool) → creates b c ≡ t → was_removed i (ids_removed b (cond t [] (done r h c ∷ life b (deeds r h)))) ≡ false
        → (row_at (deeds r h) b k i ≡ None → was_removed i (removed (deeds r h) b) ≡ false → IsUnwritten (life b (deeds r h)) b k i)
        → IsUnwritten (cond t [] (done r h c ∷ life b (deeds r h))) b k i
    go true begins not_so ih = record { tags = refl; hold = refl }
    go false goes_on not_so ih =
        let past = removed_before b k i c (removed (deeds r h) b) not_so in
        let before = not_before r h c b k i goes_on past.0 none in
        still_unwritten n r h c (life b (deeds r h)) b k i lawful.1 before.0 before.1 (ih before.0 past.1)
