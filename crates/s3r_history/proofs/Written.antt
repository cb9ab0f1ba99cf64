-- A row's tags and its hold are those that were first written under the greatest stamp.
use Rattle.std.proofs.Common.{◌≡◌, ℕ, ◌+◌, Bool, true, false, cond, not, ◌&&◌, is_none, List, [], ◌∷◌, ◌++◌, Option, Some, None}
use Rattle.std.proofs.Common.{Contains, map, filter, length, bytes_eq, refl, sym, ap, ap₂, subst, ◌∙◌, arith}
use Rattle.std.specs.Prelude.{IfSome, option_map}
use Rattle.std.specs.List.{AllByRecursion as Each, list_all, cons_option}
use Rattle.std.proofs.lemmas.Bool.{and_parts, not-true}
use Rattle.std.proofs.lemmas.List.Elements.{All-contains, All-from_recursion}
use Rattle.std.proofs.lemmas.Slice.Eq.{bytes_eq-Decides}
use Rattle.s3r_names.specs.declared.outcome.Outcome.{Outcome}
use Rattle.s3r_names.specs.declared.stamp.Stamp.{Stamp}
use Rattle.s3r_names.specs.declared.tags.Tag.{Tag}
use Rattle.s3r_names.specs.declared.version.VersionId.{VersionId}
use Rattle.s3r_record.specs.declared.command.Command.{Command}
use Rattle.s3r_record.specs.declared.command.Command.TheVariants as command
use Rattle.s3r_record.specs.declared.effect.Effect.TheVariants as effects
use Rattle.s3r_versions.specs.Lookup.{is_version}
use Rattle.s3r_versions.specs.Order.{comes_before}
use Rattle.s3r_versions.specs.Contents.{with_row}
use Rattle.s3r_versions.specs.Removed.{was_removed}
use Rattle.s3r_history.specs.Words.{Name, History}
use Rattle.s3r_history.specs.Buckets.{Bucket, bucket, creates}
use Rattle.s3r_history.specs.Past.{Entry, Carried, Added, Deed, Past}
use Rattle.s3r_history.specs.Carried.{target_of, key_of, id_of, is_applied}
use Rattle.s3r_history.specs.Rows.{removes, life, versions, adds_it, tag_write, hold_write, writes, tags_of, hold_of, at_present, in_order}
use Rattle.s3r_history.specs.Rows.{rows, row_at, removed}
use Rattle.s3r_history.specs.BucketView.{BucketView, told_as}
use Rattle.s3r_history.specs.Deeds.{deeds, next_stamp, version, marker, brought, added_by, judge}
use Rattle.s3r_history.specs.Told.{told}
use Rattle.s3r_history.specs.Writes.{id_under, tags_given, hold_given, tags_by, hold_by, tags_written, hold_written, IsFirstGreatest}
use Rattle.s3r_history.specs.Accepts.{IsLawful}
use Rattle.s3r_history.specs.Laws.{RowsAreWritten, PutRowsAreWritten}
use Rattle.s3r_history.proofs.LineSteps.{adds-does}
use Rattle.s3r_history.proofs.Versions.{all-filter, some_of, kept_by, front, versions-step, versions-birth, length-deeds, IsUnknown, unknown, own-ahead}
use Rattle.s3r_history.proofs.Present.{adds-itself, others}
use Rattle.s3r_history.proofs.HistoryRows.{none-found, all-in_order, all-map}
use Rattle.s3r_history.proofs.FirstGreatest.{first_greatest}
use Rattle.s3r_history.proofs.Unwritten.{done, tags_given_as_changed, hold_given_as_changed, applied_unremoved, IsUnwritten, ahead_unwritten, unwritten_since, unknown_unwritten}

-- what was changed of a version since it was added
abbrev tags_since : Past → Name → Entry → List (Stamp × List Tag)
tags_since past b v = writes (tag_write b v.key v.id) (adds_it b v.key v.id) past

abbrev hold_since : Past → Name → Entry → List (Stamp × Bool)
hold_since past b v = writes (hold_write b v.key v.id) (adds_it b v.key v.id) past

-- ---- all that some deeds wrote of a version is what it was added with, and what was changed since

record IsWritten (ws past : Past) (b : Name) (v : Entry) : Type 0 where
  pub tags : tags_written ws b v.key v.id ≡ tags_since past b v ++ (v.tags_stamp, v.tags) ∷ []
  pub hold : hold_written ws b v.key v.id ≡ hold_since past b v ++ (v.hold_stamp, v.hold) ∷ []

-- one write more of a version that was there
more_written : {X : Type 0} (by set : Option X) (before since : List X) (first : X) (adds : Bool) → by ≡ set → before ≡ since ++ first ∷ [] → adds ≡ false
    → cons_option by before ≡ cond adds [] (cons_option set since) ++ first ∷ []
more_written by None before since first adds same is other = ap (λ o. cons_option o before) same ∙ is ∙ sym (ap (λ t. cond t [] since ++ first ∷ []) other)
more_written by (Some x) before since first adds same is other =
    ap (λ o. cons_option o before) same ∙ ap (λ xs. x ∷ xs) is ∙ sym (ap (λ t. cond t [] (x ∷ since) ++ first ∷ []) other)

written_old : (r : ℕ) (h : History) (c : Command) (ws : Past) (b : Name) (v : Entry) → adds_it b v.key v.id (done r h c).adds ≡ false
    → IsWritten ws (deeds r h) b v → IsWritten (done r h c ∷ ws) (deeds r (c ∷ h)) b v
written_old r h c ws b v other is = record {
  tags = more_written (tags_by b v.key v.id (done r h c)) (tag_write b v.key v.id (done r h c)) (tags_written ws b v.key v.id) (tags_since (deeds r h) b v)
      (v.tags_stamp, v.tags) (adds_it b v.key v.id (done r h c).adds) (tags_given_as_changed r h c b v.key v.id other) is.tags other;
  hold = more_written (hold_by b v.key v.id (done r h c)) (hold_write b v.key v.id (done r h c)) (hold_written ws b v.key v.id) (hold_since (deeds r h) b v)
      (v.hold_stamp, v.hold) (adds_it b v.key v.id (done r h c).adds) (hold_given_as_changed r h c b v.key v.id other) is.hold other;
}

-- the first write of a version that is added
first_written : {X : Type 0} (by : Option X) (first : X) (before since : List X) (adds : Bool) → by ≡ Some first → before ≡ [] → adds ≡ true
    → cons_option by before ≡ cond adds [] since ++ first ∷ []
first_written by first before since adds is none new =
    ap₂ (λ o xs. cons_option o xs) is none ∙ sym (ap (λ t. cond t [] since ++ first ∷ []) new)

-- a command that adds a version writes what it adds it with
record IsFirst (b : Name) (stamp : Stamp) (came_to : Outcome) (c : Command) (a : Added) : Type 0 where
  pub tags : tags_given b a.row.key a.row.id stamp came_to (Some a) c ≡ Some (a.row.tags_stamp, a.row.tags)
  pub hold : hold_given b a.row.key a.row.id stamp came_to (Some a) c ≡ Some (a.row.hold_stamp, a.row.hold)

first_put : (b name key : Name) (stamp : Stamp) (came_to : Outcome) (tags : List Tag) (hold : Bool) (class body : List ℕ)
    → let a : Added = record { bucket = name; row = version stamp key tags hold class body } in
    bytes_eq name b ≡ true → IsFirst b stamp came_to (command.Put name key tags hold class body) a
first_put b name key stamp came_to tags hold class body = λ same.
    let it = adds-itself b (record { bucket = name; row = version stamp key tags hold class body }) same in
    record { tags = ap (λ t. cond t (Some (stamp, tags)) None) it; hold = ap (λ t. cond t (Some (stamp, hold)) None) it }

first_marker : (b name key : Name) (stamp : Stamp) (came_to : Outcome)
    → let a : Added = record { bucket = name; row = marker stamp key } in bytes_eq name b ≡ true → IsFirst b stamp came_to (command.Marker name key) a
first_marker b name key stamp came_to = λ same.
    let it = adds-itself b (record { bucket = name; row = marker stamp key }) same in
    record { tags = ap (λ t. cond t (Some (stamp, [])) None) it; hold = ap (λ t. cond t (Some (stamp, false)) None) it }

first_brought : (b : Name) (stamp : Stamp) (came_to : Outcome) (p from number : ℕ) (e : Carried) → is_applied came_to ≡ true
    → IfSome (brought p from e) (λ (a : Added). bytes_eq a.bucket b ≡ true → IsFirst b stamp came_to (command.Receive from number e) a)
first_brought b stamp came_to p from number (effects.Replica s t key id n tags tags_stamp hold hold_stamp class body) ok = λ same.
    let it = adds-itself b (record {
      bucket = t;
      row = record (version
          (record { n = n; region = id.region; index = id.index }) key tags hold class body) { place = p };
    }) same in
    record {
      tags = ap₂ (λ x y. cond x (cond y (Some (tags_stamp, tags)) None) None) ok it;
      hold = ap₂ (λ x y. cond x (cond y (Some (hold_stamp, hold)) None) None) ok it;
    }
first_brought b stamp came_to p from number (effects.Marker s t key id n) ok = λ same.
    let it = adds-itself b (record { bucket = t; row = marker (record { n = n; region = id.region; index = id.index }) key }) same in
    record {
      tags = ap₂ (λ x y. cond x (cond y (Some (record { n = n; region = id.region; index = id.index }, [])) None) None) ok it;
      hold = ap₂ (λ x y. cond x (cond y (Some (record { n = n; region = id.region; index = id.index }, false)) None) None) ok it;
    }
first_brought b stamp came_to p from number (effects.Tags s t key id tags stamp') ok = tt
first_brought b stamp came_to p from number (effects.Hold s t key id hold stamp') ok = tt

first_of_added : (past : Past) (b : Name) (stamp : Stamp) (came_to : Outcome) (c : Command)
    → IfSome (added_by past stamp came_to c) (λ (a : Added). bytes_eq a.bucket b ≡ true → IsFirst b stamp came_to c a)
first_of_added past b stamp came_to (command.Put name key tags hold class body) = first_put b name key stamp came_to tags hold class body
first_of_added past b stamp came_to (command.Marker name key) = first_marker b name key stamp came_to
first_of_added past b stamp came_to (command.Receive from number effect) =
    go (is_applied came_to) refl (is_none (row_at past (target_of effect) (key_of effect) (id_of effect)))
  where
    go : (t : Bool) → is_applied came_to ≡ t → (u : Bool) → IfSome (cond (t && u) (brought stamp.index from effect) None)
        (λ (a : Added). bytes_eq a.bucket b ≡ true → IsFirst b stamp came_to (command.Receive from number effect) a)
    go true ok true = first_brought b stamp came_to stamp.index from number effect ok
    go true ok false = tt
    go false ok u = tt
first_of_added past b stamp came_to _ = tt

-- what is asked of an answer that is there
pub of_some : {A : Type 0} (P : A → Type 0) (o : Option A) (x : A) → o ≡ Some x → IfSome o P → P x
of_some P None x e p = absurd cc
of_some P (Some y) x e p = let same : y ≡ x = cc in subst P same p

pub if_some : {A : Type 0} (P : A → Type 0) (o : Option A) → ((x : A) → o ≡ Some x → P x) → IfSome o P
if_some P None f = tt
if_some P (Some x) f = f x refl

written_new : (r : ℕ) (h : History) (c : Command) (ws : Past) (b : Name) (a : Added) → (done r h c).adds ≡ Some a → bytes_eq a.bucket b ≡ true
    → IsUnwritten ws b a.row.key a.row.id → IsWritten (done r h c ∷ ws) (deeds r (c ∷ h)) b a.row
written_new r h c ws b a is same none = record {
  tags = first_written (tags_by b a.row.key a.row.id d) (a.row.tags_stamp, a.row.tags) (tags_written ws b a.row.key a.row.id)
      (cons_option (tag_write b a.row.key a.row.id d) (tags_since (deeds r h) b a.row)) (adds_it b a.row.key a.row.id d.adds)
      (ap₂ (λ adds does. tags_given b a.row.key a.row.id d.stamp d.outcome adds does) is (adds-does r h c a is) ∙ first.tags) none.tags it;
  hold = first_written (hold_by b a.row.key a.row.id d) (a.row.hold_stamp, a.row.hold) (hold_written ws b a.row.key a.row.id)
      (cons_option (hold_write b a.row.key a.row.id d) (hold_since (deeds r h) b a.row)) (adds_it b a.row.key a.row.id d.adds)
      (ap₂ (λ adds does. hold_given b a.row.key a.row.id d.stamp d.outcome adds does) is (adds-does r h c a is) ∙ first.hold) none.hold it;
}
  where
    d : Deed
    d = done r h c

    it : adds_it b a.row.key a.row.id (done r h c).adds ≡ true
    it = ap (adds_it b a.row.key a.row.id) is ∙ adds-itself b a same

    first : IsFirst b (done r h c).stamp (done r h c).outcome c a
    first = of_some (λ (x : Added). bytes_eq x.bucket b ≡ true → IsFirst b (done r h c).stamp (done r h c).outcome c x) (done r h c).adds a is
        (first_of_added (deeds r h) b (done r h c).stamp (done r h c).outcome c) same

-- ---- what is added was never written before, or not since the bucket's creation

-- the id that the next command gives
abbrev own_id : ℕ → History → VersionId
own_id r h = id_under (next_stamp r (deeds r h))

own_unwritten : (n r : ℕ) (h : History) → IsLawful n r h → (b key : Name) → IsUnwritten (deeds r h) b key (own_id r h)
own_unwritten n r h lawful b key =
    ahead_unwritten n r h lawful b key (own_id r h)
    (own-ahead r (length h) (next_stamp r (deeds r h)).index (omega (arith, length-deeds r h)))

-- what is added to a bucket isn't among its rows
pub unknown_row : (r : ℕ) (h : History) (c : Command) (b : Name) (a : Added) → (done r h c).adds ≡ Some a → bytes_eq a.bucket b ≡ true
    → row_at (deeds r h) b a.row.key a.row.id ≡ None
unknown_row r h c b a is same =
    none-found a.row.key a.row.id (rows (deeds r h) b)
    (all-in_order (λ (v : Entry). not (is_version a.row.key a.row.id v)) (map (at_present (deeds r h) b) (versions (deeds r h) b))
    (all-map (λ (v : Entry). not (is_version a.row.key a.row.id v)) (at_present (deeds r h) b) (λ v. refl) (versions (deeds r h) b)
    ∙ of_some (IsUnknown (deeds r h) b) (done r h c).adds a is (unknown r h b c) same))

-- nor was it removed from there
abbrev IsUnremoved : ℕ → History → Name → Added → Type 0
IsUnremoved r h b a = bytes_eq a.bucket b ≡ true → was_removed a.row.id (removed (deeds r h) b) ≡ false

brought_unremoved : (r : ℕ) (h : History) (b : Name) (p s : ℕ) (e : Carried) → is_applied (judge r h e) ≡ true
    → IfSome (brought p s e) (IsUnremoved r h b)
brought_unremoved r h b p s (effects.Replica from to key id n tags tags_stamp hold hold_stamp class body) ok = λ same.
    ap (λ (x : Name). was_removed id (removed (deeds r h) x)) (sym ((bytes_eq-Decides to b).0 same))
    ∙ applied_unremoved r h (effects.Replica from to key id n tags tags_stamp hold hold_stamp class body) ok
brought_unremoved r h b p s (effects.Marker from to key id n) ok = λ same.
    ap (λ (x : Name). was_removed id (removed (deeds r h) x)) (sym ((bytes_eq-Decides to b).0 same))
    ∙ applied_unremoved r h (effects.Marker from to key id n) ok
brought_unremoved r h b p s (effects.Tags from to key id tags stamp) ok = tt
brought_unremoved r h b p s (effects.Hold from to key id hold stamp) ok = tt

received_unremoved : (r : ℕ) (h : History) (b : Name) (from number : ℕ) (e : Carried)
    → IfSome (done r h (command.Receive from number e)).adds (IsUnremoved r h b)
received_unremoved r h b from number e = go (is_applied (judge r h e)) refl (is_none (row_at (deeds r h) (target_of e) (key_of e) (id_of e)))
  where
    go : (t : Bool) → is_applied (judge r h e) ≡ t → (u : Bool) → IfSome (cond (t && u) (brought (length (deeds r h) + 1) from e) None)
        (IsUnremoved r h b)
    go true ok true = brought_unremoved r h b (length (deeds r h) + 1) from e ok
    go true ok false = tt
    go false ok u = tt

abbrev UnwrittenIn : Past → Name → Added → Type 0
UnwrittenIn ws b a = IsUnwritten ws b a.row.key a.row.id

new_since : (n r : ℕ) (h : History) (c : Command) (b : Name) (a : Added) → IsLawful n r h → (done r h c).adds ≡ Some a → bytes_eq a.bucket b ≡ true
    → UnwrittenIn (life b (deeds r h)) b a
new_since n r h (command.Put name key tags hold class body) b a lawful is same =
    of_some (UnwrittenIn (life b (deeds r h)) b) (done r h (command.Put name key tags hold class body)).adds a is
    (unwritten_since (deeds r h) b key (own_id r h) (own_unwritten n r h lawful b key))
new_since n r h (command.Marker name key) b a lawful is same =
    of_some (UnwrittenIn (life b (deeds r h)) b) (done r h (command.Marker name key)).adds a is
    (unwritten_since (deeds r h) b key (own_id r h) (own_unwritten n r h lawful b key))
new_since n r h (command.Receive from number e) b a lawful is same =
    unknown_unwritten n r h lawful b a.row.key a.row.id (unknown_row r h (command.Receive from number e) b a is same)
    (of_some (IsUnremoved r h b) (done r h (command.Receive from number e)).adds a is (received_unremoved r h b from number e) same)
new_since n r h _ b a lawful is same = absurd cc

-- what was received has an origin
abbrev HasOrigin : Added → Type 0
HasOrigin a = a.row.origin ≡ None → ⊥

brought_origin : (p s : ℕ) (e : Carried) → IfSome (brought p s e) HasOrigin
brought_origin p s (effects.Replica from to key id n tags tags_stamp hold hold_stamp class body) = λ none. cc
brought_origin p s (effects.Marker from to key id n) = λ none. cc
brought_origin p s (effects.Tags from to key id tags stamp) = tt
brought_origin p s (effects.Hold from to key id hold stamp) = tt

received_origin : (r : ℕ) (h : History) (from number : ℕ) (e : Carried) → IfSome (done r h (command.Receive from number e)).adds HasOrigin
received_origin r h from number e = go (is_applied (judge r h e) && is_none (row_at (deeds r h) (target_of e) (key_of e) (id_of e)))
  where
    go : (t : Bool) → IfSome (cond t (brought (length (deeds r h) + 1) from e) None) HasOrigin
    go true = brought_origin (length (deeds r h) + 1) from e
    go false = tt

new_ever : (n r : ℕ) (h : History) (c : Command) (b : Name) (a : Added) → IsLawful n r h → (done r h c).adds ≡ Some a → a.row.origin ≡ None
    → UnwrittenIn (deeds r h) b a
new_ever n r h (command.Put name key tags hold class body) b a lawful is own =
    of_some (UnwrittenIn (deeds r h) b) (done r h (command.Put name key tags hold class body)).adds a is (own_unwritten n r h lawful b key)
new_ever n r h (command.Marker name key) b a lawful is own =
    of_some (UnwrittenIn (deeds r h) b) (done r h (command.Marker name key)).adds a is (own_unwritten n r h lawful b key)
new_ever n r h (command.Receive from number e) b a lawful is own =
    absurd (of_some HasOrigin (done r h (command.Receive from number e)).adds a is (received_origin r h from number e) own)
new_ever n r h _ b a lawful is own = absurd cc

-- ---- each version of a bucket

each-filter : {X : Type 0} (P : X → Type 0) (p : X → Bool) (xs : List X) → Each P xs → Each P (filter p xs)
each-filter P p [] each = tt
each-filter P p (x ∷ xs) each = go (p x) (each-filter P p xs each.1)
  where
    go : (t : Bool) → Each P (filter p xs) → Each P (cond t (x ∷ filter p xs) (filter p xs))
    go true ih = (each.0, ih)
    go false ih = ih

each-map : {X Y : Type 0} (P : X → Type 0) (Q : Y → Type 0) (f : X → Y) → ((x : X) → P x → Q (f x)) → (xs : List X) → Each P xs → Each Q (map f xs)
each-map P Q f to [] each = tt
each-map P Q f to (x ∷ xs) each = (to x each.0, each-map P Q f to xs each.1)

each-front : (P : Entry → Type 0) (b : Name) (adds : Option Added) (vs : List Entry) → IfSome adds (λ (a : Added). bytes_eq a.bucket b ≡ true → P a.row)
    → Each P vs → Each P (front b adds vs)
each-front P b None vs new each = each
each-front P b (Some a) vs new each = go (bytes_eq a.bucket b) refl
  where
    go : (t : Bool) → bytes_eq a.bucket b ≡ t → Each P (cond t (a.row ∷ vs) vs)
    go true e = (new e, each)
    go false e = each

each-with_row : (P : Entry → Type 0) (row : Entry) (rows : List Entry) → P row → Each P rows → Each P (with_row row rows)
each-with_row P row [] is each = (is, tt)
each-with_row P row (other ∷ rows) is each = go (comes_before row other) (each-with_row P row rows is each.1)
  where
    go : (t : Bool) → Each P (with_row row rows) → Each P (cond t (row ∷ other ∷ rows) (other ∷ with_row row rows))
    go true ih = (is, each)
    go false ih = (each.0, ih)

each-in_order : (P : Entry → Type 0) (vs : List Entry) → Each P vs → Each P (in_order vs)
each-in_order P [] each = tt
each-in_order P (v ∷ vs) each = each-with_row P v (in_order vs) each.0 (each-in_order P vs each.1)

-- What is true of each version that a command adds, and stays so of those that it leaves, is true of each version.
pub record IsKept (n r : ℕ) (b : Name) (P : History → Entry → Type 0) : Type 0 where
  pub new : (h : History) (c : Command) (a : Added) → IsLawful n r h → creates b c ≡ false → (done r h c).adds ≡ Some a → bytes_eq a.bucket b ≡ true
      → P (c ∷ h) a.row
  pub old : (h : History) (c : Command) (v : Entry) → creates b c ≡ false → adds_it b v.key v.id (done r h c).adds ≡ false → P h v → P (c ∷ h) v

-- what stays of a bucket's versions, and what is none of those that a command adds
abbrev stays : Name → Command → Entry → Bool
stays b c v = not (removes b v.key v.id c)

abbrev is_unlike : Added → Entry → Bool
is_unlike a v = not (is_version a.row.key a.row.id v)

abbrev is_other : Name → Option Added → Entry → Bool
is_other b adds v = not (adds_it b v.key v.id adds)

-- the versions that were there, after a command that adds another
each_old : (n r : ℕ) (b : Name) (P : History → Entry → Type 0) → IsKept n r b P → (h : History) (c : Command) → creates b c ≡ false → (vs : List Entry)
    → list_all (is_other b (done r h c).adds) vs ≡ true → Each (P h) vs → Each (P (c ∷ h)) vs
each_old n r b P keeps h c goes_on [] other each = tt
each_old n r b P keeps h c goes_on (v ∷ vs) other each =
    let parts = and_parts (is_other b (done r h c).adds v) (list_all (is_other b (done r h c).adds) vs) other in
    (keeps.old h c v goes_on (not-true _ parts.0) each.0, each_old n r b P keeps h c goes_on vs parts.1 each.1)

pub each_version : (n r : ℕ) (b : Name) (P : History → Entry → Type 0) → IsKept n r b P → (h : History) → IsLawful n r h
    → Each (P h) (versions (deeds r h) b)
each_version n r b P keeps [] lawful = tt
each_version n r b P keeps (c ∷ h) lawful = go (creates b c) refl (each_version n r b P keeps h lawful.2)
  where
    kept : List Entry
    kept = kept_by b c (versions (deeds r h) b)

    unlike : IfSome (done r h c).adds (λ (a : Added). bytes_eq a.bucket b ≡ true → list_all (is_unlike a) (kept_by b c (versions (deeds r h) b)) ≡ true)
    unlike = some_of (done r h c).adds
        (λ (a : Added) new same. all-filter (is_unlike a) (stays b c) (versions (deeds r h) b) (new same)) (unknown r h b c)

    go : (t : Bool) → creates b c ≡ t → Each (P h) (versions (deeds r h) b) → Each (P (c ∷ h)) (versions (deeds r (c ∷ h)) b)
    go true begins ih = subst (Each (P (c ∷ h))) (sym (versions-birth b (done r h c) (deeds r h) begins)) tt
    go false goes_on ih =
        subst (Each (P (c ∷ h))) (sym (versions-step b (done r h c) (deeds r h) goes_on))
        (each-front (P (c ∷ h)) b (done r h c).adds kept
        (if_some (λ (a : Added). bytes_eq a.bucket b ≡ true → P (c ∷ h) a.row) (done r h c).adds (λ a is same. keeps.new h c a lawful.2 goes_on is same))
        (each_old n r b P keeps h c goes_on kept (others b (done r h c).adds kept unlike)
        (each-filter (P h) (stays b c) (versions (deeds r h) b) ih)))

-- since the bucket's creation, and of what was put here ever
abbrev Since : ℕ → Name → History → Entry → Type 0
Since r b h v = IsWritten (life b (deeds r h)) (deeds r h) b v

abbrev Ever : ℕ → Name → History → Entry → Type 0
Ever r b h v = v.origin ≡ None → IsWritten (deeds r h) (deeds r h) b v

-- a command that doesn't create the bucket goes on with its life
on_life : (r : ℕ) (h : History) (c : Command) (b : Name) (v : Entry) → creates b c ≡ false
    → IsWritten (done r h c ∷ life b (deeds r h)) (deeds r (c ∷ h)) b v → Since r b (c ∷ h) v
on_life r h c b v goes_on is =
    subst (λ (t : Bool). IsWritten (cond t [] (done r h c ∷ life b (deeds r h))) (deeds r (c ∷ h)) b v) (sym goes_on) is

since_kept : (n r : ℕ) (b : Name) → IsKept n r b (Since r b)
since_kept n r b = record {
  new = λ h c a lawful goes_on is same.
      on_life r h c b a.row goes_on (written_new r h c (life b (deeds r h)) b a is same (new_since n r h c b a lawful is same));
  old = λ h c v goes_on other was. on_life r h c b v goes_on (written_old r h c (life b (deeds r h)) b v other was);
}

ever_kept : (n r : ℕ) (b : Name) → IsKept n r b (Ever r b)
ever_kept n r b = record {
  new = λ h c a lawful goes_on is same own. written_new r h c (deeds r h) b a is same (new_ever n r h c b a lawful is own);
  old = λ h c v goes_on other was own. written_old r h c (deeds r h) b v other (was own);
}

-- ---- each row

abbrev IsOfFirst : Past → Name → Entry → Type 0
IsOfFirst ws b row = IsFirstGreatest (tags_written ws b row.key row.id) (row.tags_stamp, row.tags)
    × IsFirstGreatest (hold_written ws b row.key row.id) (row.hold_stamp, row.hold)

present_first : (ws past : Past) (b : Name) (v : Entry) → IsWritten ws past b v → IsOfFirst ws b (at_present past b v)
present_first ws past b v is = (
  subst (λ (xs : List (Stamp × List Tag)). IsFirstGreatest xs (tags_of past b v)) (sym is.tags)
      (first_greatest (v.tags_stamp, v.tags) (tags_since past b v)),
  subst (λ (xs : List (Stamp × Bool)). IsFirstGreatest xs (hold_of past b v)) (sym is.hold)
      (first_greatest (v.hold_stamp, v.hold) (hold_since past b v)),
)

pub rows_told : (r : ℕ) (h : History) (b : Name) (at : BucketView) (o : Option Bucket) → option_map (told_as (deeds r h) b) o ≡ Some at
    → rows (deeds r h) b ≡ at.rows
rows_told r h b at None e = absurd cc
rows_told r h b at (Some x) e = let same : told_as (deeds r h) b x ≡ at = cc in ap (λ (t : BucketView). t.rows) same

-- what is true of each version with its present tags and hold is true of each row that is told
pub each_row : (r : ℕ) (h : History) (b : Name) (at : BucketView) (row : Entry) (P Q : Entry → Type 0)
    → ((v : Entry) → P v → Q (at_present (deeds r h) b v)) → Each P (versions (deeds r h) b) → told r h b ≡ Some at → Contains at.rows row → Q row
each_row r h b at row P Q to each is there =
    let vs = map (at_present (deeds r h) b) (versions (deeds r h) b) in
    let all : Each Q (rows (deeds r h) b) = each-in_order Q vs (each-map P Q (at_present (deeds r h) b) to (versions (deeds r h) b) each) in
    All-contains Q (rows (deeds r h) b) row (All-from_recursion Q (rows (deeds r h) b) all)
    (subst (λ (xs : List Entry). Contains xs row) (sym (rows_told r h b at (bucket h b) is)) there)

pub rows_written : RowsAreWritten
rows_written n r h b at row lawful is there =
    each_row r h b at row (Since r b h) (IsOfFirst (life b (deeds r h)) b) (present_first (life b (deeds r h)) (deeds r h) b)
    (each_version n r b (Since r b) (since_kept n r b) h lawful) is there

pub put_rows_written : PutRowsAreWritten
put_rows_written n r h b at row lawful is there own =
    each_row r h b at row (Ever r b h) (λ (v : Entry). v.origin ≡ None → IsOfFirst (deeds r h) b v)
    (λ v was own. present_first (deeds r h) (deeds r h) b v (was own)) (each_version n r b (Ever r b) (ever_kept n r b) h lawful) is there own
