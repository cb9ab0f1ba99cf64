-- What a lawful history prescribed meets the limits of a record.
use Rattle.std.proofs.Common.{◌≡◌, ℕ, zero, suc, ◌+◌, ◌<◌, ◌≤◌, ◌^◌, Bool, true, false, cond, not, ◌==◌, ◌&&◌, nat_le, nat_lt, is_none, List, [], ◌∷◌, ◌++◌, Option, Some, None}
use Rattle.std.proofs.Common.{map, length, bytes_eq, refl, sym, ap, subst, ◌∙◌, arith, eqb-true, leb-true, ltb-true, le-leb, lt-ltb}
use Rattle.std.specs.Prelude.{IfSome, option_map, slice_get}
use Rattle.std.specs.List.{AllByRecursion, list_all, filter_map, cons_option}
use Rattle.std.specs.Option.{option_and_then}
use Rattle.std.proofs.lemmas.Bool.{and_parts, and_from}
use Rattle.s3r_names.specs.declared.stamp.Stamp.{Stamp}
use Rattle.s3r_names.specs.declared.version.VersionId.{VersionId}
use Rattle.s3r_names.specs.Version.{IsVersionId}
use Rattle.s3r_names.specs.declared.tags.Tag.{Tag}
use Rattle.s3r_rules.specs.declared.rule.Rule.{Rule}
use Rattle.s3r_rules.specs.Choice.{choice_put, choice_marker}
use Rattle.s3r_rules.specs.Destinations.{destinations}
use Rattle.s3r_versions.specs.Lookup.{id_eq, is_of_key, is_version, find_version}
use Rattle.s3r_record.specs.Spelling.{IsStamp, IsEffect, EffectMeetsLimits, IsCommand}
use Rattle.s3r_record.specs.declared.command.Command.{Command}
use Rattle.s3r_record.specs.declared.command.Command.TheVariants as command
use Rattle.s3r_record.specs.declared.effect.Effect.TheVariants as effects
use Rattle.s3r_history.specs.declared.replication.Replication.{Replication}
use Rattle.s3r_history.specs.declared.sent.Sent.{Sent}
use Rattle.s3r_history.specs.Words.{Name, History}
use Rattle.s3r_history.specs.Past.{Entry, Carried, Added, Deed, Past}
use Rattle.s3r_history.specs.Buckets.{Bucket, bucket, creates}
use Rattle.s3r_history.specs.Carried.{target_of, key_of, id_of, is_applied}
use Rattle.s3r_history.specs.Rows.{removes, versions, at_present, rows, row_at}
use Rattle.s3r_history.specs.Placed.{sends_to, prescribed}
use Rattle.s3r_history.specs.BucketView.{BucketView, told_as, told_by}
use Rattle.s3r_history.specs.Sending.{region_of, Destination, to_region, to_each, replica_by, replica_to, marker_by, marker_to, is_told, tags_to, hold_to, of_bucket, of_row, sends_by}
use Rattle.s3r_history.specs.Deeds.{deeds, deed, next_stamp, version, marker, first_stamp, brought, judge, effects_after}
use Rattle.s3r_history.specs.Told.{told}
use Rattle.s3r_history.specs.Accepts.{IsLawful}
use Rattle.s3r_history.specs.SentLaws.{SentIsShort}
use Rattle.s3r_history.proofs.LineSteps.{find-all, what_a_line_does}
use Rattle.s3r_history.proofs.Versions.{length-deeds, all-filter, kept_by, front, versions-step, versions-birth}
use Rattle.s3r_history.proofs.HistoryRows.{all-in_order, all-map}

abbrev AreShort : List Sent → Type 0
AreShort sends = AllByRecursion (λ (s : Sent). EffectMeetsLimits s.effect) sends

-- what a destination is given, if anything, is short
abbrev GivesShort : (List Rule → Destination → Option Carried) → Type 0
GivesShort give = (rules : List Rule) (to : Destination) → IfSome (give rules to) EffectMeetsLimits

-- a row that goes into a record as it is
record IsShortRow (row : Entry) : Type 0 where
  id : IsVersionId row.id
  n : row.n < 2 ^ 64
  tags : IsStamp row.tags_stamp
  hold : IsStamp row.hold_stamp
  body : length row.body ≤ 15582912

-- ---- to each destination

each-short : (config : Replication) (give : List Rule → Destination → Option Carried) (names : List Name) → GivesShort give
    → AreShort (filter_map (λ to. let at = region_of to config.config config.regions in option_map (to_region at)
    (give config.config (record { bucket = to; region = at }))) names)
each-short config give [] short = tt
each-short config give (to ∷ names) short = go (give config.config here) (short config.config here) (each-short config give names short)
  where
    here : Destination
    here = record { bucket = to; region = region_of to config.config config.regions }

    rest : List Sent
    rest =
        filter_map (λ name. let at = region_of name config.config config.regions in option_map (to_region at)
        (give config.config (record { bucket = name; region = at }))) names

    go : (o : Option Carried) → IfSome o EffectMeetsLimits → AreShort rest → AreShort (cons_option (option_map (to_region here.region) o) rest)
    go None one ih = ih
    go (Some e) one ih = (one, ih)

to_each-short : (give : List Rule → Destination → Option Carried) (config : Option Replication) → GivesShort give → AreShort (to_each give config)
to_each-short give None short = tt
to_each-short give (Some config) short = each-short config give (destinations config.config) short

replica-short : (b : Name) (row : Entry) → IsShortRow row → GivesShort (replica_to b row)
replica-short b row short rules to = go (choice_put rules row.key row.tags to.bucket)
  where
    go : (o : Option Rule) → IfSome (option_map (replica_by b row to.bucket) o) EffectMeetsLimits
    go None = tt
    go (Some rule) = (short.id, short.n, short.tags, short.hold, short.body)

marker-short : (b : Name) (row : Entry) → IsShortRow row → GivesShort (marker_to b row)
marker-short b row short rules to = go (choice_marker rules row.key to.bucket)
  where
    given : (t : Bool) → IfSome (cond t (Some (effects.Marker b to.bucket row.key row.id row.n)) None) EffectMeetsLimits
    given true = (short.id, short.n)
    given false = tt

    go : (o : Option Rule) → IfSome (option_and_then (marker_by b row to.bucket) o) EffectMeetsLimits
    go None = tt
    go (Some rule) = given rule.markers

tags-short : (past : Past) (b : Name) (stamp : Stamp) (tags : List Tag) (row : Entry) → IsStamp stamp → IsVersionId row.id
    → GivesShort (tags_to past b stamp tags row)
tags-short past b stamp tags row at id rules to = go (is_told past b row rules to)
  where
    go : (t : Bool) → IfSome (cond t (Some (effects.Tags b to.bucket row.key row.id tags stamp)) None) EffectMeetsLimits
    go true = (id, at)
    go false = tt

hold-short : (past : Past) (b : Name) (stamp : Stamp) (hold : Bool) (row : Entry) → IsStamp stamp → IsVersionId row.id
    → GivesShort (hold_to past b stamp hold row)
hold-short past b stamp hold row at id rules to = go (is_told past b row rules to)
  where
    go : (t : Bool) → IfSome (cond t (Some (effects.Hold b to.bucket row.key row.id hold stamp)) None) EffectMeetsLimits
    go true = (id, at)
    go false = tt

-- ---- of a bucket and its row

bucket-short : (f : BucketView → List Sent) (o : Option BucketView) → ((at : BucketView) → AreShort (f at)) → AreShort (of_bucket f o)
bucket-short f None all = tt
bucket-short f (Some at) all = all at

row-short : (f : Entry → List Sent) (o : Option Entry) → IfSome o (λ (row : Entry). IsVersionId row.id)
    → ((row : Entry) → IsVersionId row.id → AreShort (f row)) → AreShort (of_row f o)
row-short f None has all = tt
row-short f (Some row) has all = all row has

-- the row of an id has that id
find-id : (key : Name) (id : VersionId) (rows : List Entry) → IsVersionId id → IfSome (find_version key id rows) (λ (row : Entry). IsVersionId row.id)
find-id key id [] is = tt
find-id key id (row ∷ rows) is = go (is_version key id row) refl (find-id key id rows is)
  where
    go : (t : Bool) → is_version key id row ≡ t → IfSome (find_version key id rows) (λ (r : Entry). IsVersionId r.id)
        → IfSome (cond t (Some row) (find_version key id rows)) (λ (r : Entry). IsVersionId r.id)
    go true e ih =
        let same = and_parts (row.id.region == id.region) (row.id.index == id.index) (and_parts (is_of_key key row) (id_eq row.id id) e).1 in
        let region = eqb-true row.id.region id.region same.0 in
        let index = eqb-true row.id.index id.index same.1 in
        record { region = omega (arith, is.region, region); above = omega (arith, is.above, index); below = omega (arith, is.below, index) }
    go false e ih = ih

-- ---- command by command

stamp-short : (r : ℕ) (h : History) → r ≤ 7 → length h + 1 < 2 ^ 64 → IsStamp (next_stamp r (deeds r h))
stamp-short r h region few = record {
  n = omega arith;
  region = region;
  above = omega arith;
  below = omega (arith, few, length-deeds r h);
}

new-short : (stamp : Stamp) (key : Name) (tags : List Tag) (hold : Bool) (class body : List ℕ) → IsStamp stamp → length body ≤ 4194304
    → IsShortRow (version stamp key tags hold class body)
new-short stamp key tags hold class body at short = record {
  id = record { region = at.region; above = at.above; below = at.below };
  n = at.n;
  tags = at;
  hold = at;
  body = omega (arith, short);
}

marker-row-short : (stamp : Stamp) (key : Name) → IsStamp stamp → IsShortRow (marker stamp key)
marker-row-short stamp key at = record {
  id = record { region = at.region; above = at.above; below = at.below };
  n = at.n;
  tags = at;
  hold = at;
  body = omega arith;
}

-- such an id a version may have
abbrev has_id : Entry → Bool
has_id row = nat_le row.id.region 7 && (nat_le 1 row.id.index && nat_lt row.id.index 18446744073709551616)

id-of : (row : Entry) → has_id row ≡ true → IsVersionId row.id
id-of row has =
    let parts = and_parts (nat_le row.id.region 7) _ has in
    let index = and_parts (nat_le 1 row.id.index) _ parts.1 in
    record { region = leb-true row.id.region 7 parts.0; above = leb-true 1 row.id.index index.0; below = ltb-true row.id.index 18446744073709551616 index.1 }

has-id : (row : Entry) → IsVersionId row.id → has_id row ≡ true
has-id row is = and_from _ _ (le-leb row.id.region 7 is.region) (and_from _ _ (le-leb 1 row.id.index is.above)
    (lt-ltb row.id.index 18446744073709551616 is.below))

brought-id : (place s : ℕ) (e : Carried) → EffectMeetsLimits e → IfSome (brought place s e) (λ (a : Added). has_id a.row ≡ true)
brought-id place s (effects.Replica from to key id n tags tags_stamp hold hold_stamp class body) is =
    has-id (version (first_stamp id n) key tags hold class body) is.0
brought-id place s (effects.Marker from to key id n) is = has-id (marker (first_stamp id n) key) is.0
brought-id place s (effects.Tags from to key id tags stamp) is = tt
brought-id place s (effects.Hold from to key id hold stamp) is = tt

effect-limits : (e : Carried) → IsEffect e → EffectMeetsLimits e
effect-limits (effects.Replica from to key id n tags tags_stamp hold hold_stamp class body) is = is.5
effect-limits (effects.Marker from to key id n) is = is.3
effect-limits (effects.Tags from to key id tags stamp) is = is.4
effect-limits (effects.Hold from to key id hold stamp) is = is.3

-- what a command adds has an id
added-id : (r : ℕ) (h : History) (c : Command) → r ≤ 7 → length h + 1 < 2 ^ 64 → IsCommand c
    → IfSome (deed r h (deeds r h) c).adds (λ (a : Added). has_id a.row ≡ true)
added-id r h (command.Put b key tags hold class body) region few fits =
    has-id (version (next_stamp r (deeds r h)) key tags hold class body)
    (new-short (next_stamp r (deeds r h)) key tags hold class body (stamp-short r h region few) fits.4).id
added-id r h (command.Marker b key) region few fits =
    has-id (marker (next_stamp r (deeds r h)) key) (marker-row-short (next_stamp r (deeds r h)) key (stamp-short r h region few)).id
added-id r h (command.Receive from number effect) region few fits = go (is_applied (judge r h effect) && is_none there)
  where
    there : Option Entry
    there = row_at (deeds r h) (target_of effect) (key_of effect) (id_of effect)

    go : (t : Bool) → IfSome (cond t (brought (length (deeds r h) + 1) from effect) None) (λ (a : Added). has_id a.row ≡ true)
    go true = brought-id (length (deeds r h) + 1) from effect (effect-limits effect fits.1)
    go false = tt
added-id r h _ region few fits = tt

ids-front : (b : Name) (adds : Option Added) (vs : List Entry) → IfSome adds (λ (a : Added). has_id a.row ≡ true) → list_all has_id vs ≡ true
    → list_all has_id (front b adds vs) ≡ true
ids-front b None vs new all = all
ids-front b (Some a) vs new all = go (bytes_eq a.bucket b)
  where
    go : (t : Bool) → list_all has_id (cond t (a.row ∷ vs) vs) ≡ true
    go true = and_from _ _ new all
    go false = all

-- Each version of a lawful history has an id.
ids-are : (n r : ℕ) (h : History) → r ≤ 7 → length h < 2 ^ 64 → IsLawful n r h → (b : Name) → list_all has_id (versions (deeds r h) b) ≡ true
ids-are n r [] region few lawful b = refl
ids-are n r (c ∷ h) region few lawful b = go (creates b c) refl (ids-are n r h region (omega (arith, few)) lawful.2 b)
  where
    d : Deed
    d = deed r h (deeds r h) c

    go : (t : Bool) → creates b c ≡ t → list_all has_id (versions (deeds r h) b) ≡ true → list_all has_id (versions (d ∷ deeds r h) b) ≡ true
    go true begins ih = ap (list_all has_id) (versions-birth b d (deeds r h) begins)
    go false goes_on ih =
        ap (list_all has_id) (versions-step b d (deeds r h) goes_on)
        ∙ ids-front b d.adds (kept_by b c (versions (deeds r h) b)) (added-id r h c region (omega (arith, few)) lawful.0)
        (all-filter has_id (λ (v : Entry). not (removes b v.key v.id c)) (versions (deeds r h) b) ih)

told-ids : (n r : ℕ) (h : History) → r ≤ 7 → length h < 2 ^ 64 → IsLawful n r h → (b : Name) (at : BucketView) → told r h b ≡ Some at
    → list_all has_id at.rows ≡ true
told-ids n r h region few lawful b at is = go (bucket h b) is
  where
    all : list_all has_id (rows (deeds r h) b) ≡ true
    all = all-in_order has_id (map (at_present (deeds r h) b) (versions (deeds r h) b))
        (all-map has_id (at_present (deeds r h) b) (λ v. refl) (versions (deeds r h) b) ∙ ids-are n r h region few lawful b)

    go : (o : Option Bucket) → option_map (told_as (deeds r h) b) o ≡ Some at → list_all has_id at.rows ≡ true
    go None is = absurd cc
    go (Some x) is = let same : told_as (deeds r h) b x ≡ at = cc in sym (ap (λ (t : BucketView). list_all has_id t.rows) same) ∙ all

-- what a write of tags sends, and one of a hold
tags-sent-short : (r : ℕ) (h : History) (b key : Name) (id : VersionId) (tags : List Tag) → r ≤ 7 → length h + 1 < 2 ^ 64 → IsVersionId id
    → AreShort (sends_by h (deeds r h) (next_stamp r (deeds r h)) None (command.SetTags b key id tags))
tags-sent-short r h b key id tags region few has_id =
    let past = deeds r h in
    let stamp = next_stamp r past in
    bucket-short (λ (at : BucketView). of_row (λ (row : Entry). to_each (tags_to past b stamp tags row) at.config) (find_version key id at.rows))
    (told_by h past b)
    (λ at. row-short (λ (row : Entry). to_each (tags_to past b stamp tags row) at.config) (find_version key id at.rows) (find-id key id at.rows has_id)
    (λ row has. to_each-short (tags_to past b stamp tags row) at.config (tags-short past b stamp tags row (stamp-short r h region few) has)))

hold-sent-short : (r : ℕ) (h : History) (b key : Name) (id : VersionId) (hold : Bool) → r ≤ 7 → length h + 1 < 2 ^ 64 → IsVersionId id
    → AreShort (sends_by h (deeds r h) (next_stamp r (deeds r h)) None (command.SetHold b key id hold))
hold-sent-short r h b key id hold region few has_id =
    let past = deeds r h in
    let stamp = next_stamp r past in
    bucket-short (λ (at : BucketView). of_row (λ (row : Entry). to_each (hold_to past b stamp hold row) at.config) (find_version key id at.rows))
    (told_by h past b)
    (λ at. row-short (λ (row : Entry). to_each (hold_to past b stamp hold row) at.config) (find_version key id at.rows) (find-id key id at.rows has_id)
    (λ row has. to_each-short (hold_to past b stamp hold row) at.config (hold-short past b stamp hold row (stamp-short r h region few) has)))

-- All that a command sends is short.
sends-short : (n r : ℕ) (h : History) (c : Command) → r ≤ 7 → length h + 1 < 2 ^ 64 → IsLawful n r h → IsCommand c → AreShort (effects_after r h c)
sends-short n r h (command.Put b key tags hold class body) region few lawful fits =
    let stamp = next_stamp r (deeds r h) in
    let row = version stamp key tags hold class body in
    bucket-short (λ (at : BucketView). to_each (replica_to b row) at.config) (told_by h (deeds r h) b)
    (λ at. to_each-short (replica_to b row) at.config
    (replica-short b row (new-short stamp key tags hold class body (stamp-short r h region few) fits.4)))
sends-short n r h (command.Marker b key) region few lawful fits =
    let stamp = next_stamp r (deeds r h) in
    bucket-short (λ (at : BucketView). to_each (marker_to b (marker stamp key)) at.config) (told_by h (deeds r h) b)
    (λ at. to_each-short (marker_to b (marker stamp key)) at.config
    (marker-short b (marker stamp key) (marker-row-short stamp key (stamp-short r h region few))))
sends-short n r h (command.SetTags b key id tags) region few lawful fits = tags-sent-short r h b key id tags region few fits.2
sends-short n r h (command.SetHold b key id hold) region few lawful fits = hold-sent-short r h b key id hold region few fits.2
sends-short n r h (command.Line job line) region few lawful fits =
    what_a_line_does r h (λ (c : Command). AreShort (sends_by h (deeds r h) (next_stamp r (deeds r h)) None c)) job line
    (record {
      tags = λ name key row tags at is there. tags-sent-short r h name key row.id tags region few
          (id-of row (find-all (is_version key row.id) has_id at.rows row (told-ids n r h region (omega (arith, few)) lawful name at is) there.found));
      hold = λ name key row hold at is there locked. hold-sent-short r h name key row.id hold region few
          (id-of row (find-all (is_version key row.id) has_id at.rows row (told-ids n r h region (omega (arith, few)) lawful name at is) there.found));
    }) tt
sends-short n r h _ region few lawful fits = tt

-- ---- all that was prescribed

to-short : (d : ℕ) (sends : List Sent) → AreShort sends → AllByRecursion EffectMeetsLimits (sends_to d sends)
to-short d [] all = tt
to-short d (s ∷ sends) all = go (s.region == d) (to-short d sends all.1)
  where
    go : (t : Bool) → AllByRecursion EffectMeetsLimits (sends_to d sends)
        → AllByRecursion EffectMeetsLimits (cond t (s.effect ∷ sends_to d sends) (sends_to d sends))
    go true ih = (all.0, ih)
    go false ih = ih

all-append : {X : Type 0} (P : X → Type 0) (xs ys : List X) → AllByRecursion P xs → AllByRecursion P ys → AllByRecursion P (xs ++ ys)
all-append P [] ys first second = second
all-append P (x ∷ xs) ys first second = (first.0, all-append P xs ys first.1 second)

at-place : {X : Type 0} (P : X → Type 0) (xs : List X) (i : ℕ) (x : X) → AllByRecursion P xs → slice_get xs i ≡ Some x → P x
at-place P [] i x all is = absurd cc
at-place P (y ∷ xs) zero x all is = let same : y ≡ x = cc in subst P same all.0
at-place P (y ∷ xs) (suc i) x all is = at-place P xs i x all.1 is

prescribed-short : (n r : ℕ) (h : History) → r ≤ 7 → length h < 2 ^ 64 → IsLawful n r h → (d : ℕ)
    → AllByRecursion EffectMeetsLimits (prescribed (deeds r h) d)
prescribed-short n r [] region few lawful d = tt
prescribed-short n r (c ∷ h) region few lawful d =
    all-append EffectMeetsLimits (prescribed (deeds r h) d) (sends_to d (effects_after r h c))
    (prescribed-short n r h region (omega (arith, few)) lawful.2 d)
    (to-short d (effects_after r h c) (sends-short n r h c region (omega (arith, few)) lawful.2 lawful.0))

pub sent_short : SentIsShort
sent_short n r h region few lawful d i e is =
    at-place EffectMeetsLimits (prescribed (deeds r h) d) i e (prescribed-short n r h region few lawful d) is
