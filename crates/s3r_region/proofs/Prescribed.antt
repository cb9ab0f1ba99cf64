-- What a command sends by the state is what its history prescribes.
use Rattle.std.proofs.Common.{◌≡◌, ℕ, ◌≤◌, Bool, true, false, cond, ◌&&◌, ◌||◌, nat_lt, nat_le, is_none, List, [], ◌∷◌, Option, Some, None, suc, refl, sym, ap, ◌∙◌, arith, ltb-true}
use Rattle.std.specs.Prelude.{option_map}
use Rattle.std.specs.Option.{option_and_then}
use Rattle.std.proofs.lemmas.Bool.Decides.{nat_tests}
use Rattle.std.proofs.lemmas.List.{get_or_past}
use Rattle.s3r_names.specs.declared.stamp.Stamp.{Stamp}
use Rattle.s3r_names.specs.declared.tags.Tag.{Tag}
use Rattle.s3r_names.specs.declared.version.VersionId.{VersionId}
use Rattle.s3r_queue.specs.declared.task.Task.{Task}
use Rattle.s3r_queue.specs.Queues as queue
use Rattle.s3r_record.specs.declared.command.Command.TheVariants as command
use Rattle.s3r_record.specs.declared.effect.Effect.TheVariants as effects
use Rattle.s3r_rules.specs.Choice.{fits, choice, choice_put, choice_marker, choice_meta}
use Rattle.s3r_rules.specs.Choice as rules
use Rattle.s3r_rules.specs.declared.rule.Rule.{Rule}
use Rattle.s3r_versions.specs.Lookup.{find_version}
use Rattle.s3r_history.specs.declared.replication.Replication.{Replication}
use Rattle.s3r_history.specs.declared.sent.Prescribed.{Prescribed}
use Rattle.s3r_history.specs.Words.{Name, History}
use Rattle.s3r_history.specs.Past.{Entry, Carried}
use Rattle.s3r_history.specs.Placed.{placed}
use Rattle.s3r_history.specs.Tasks.{tasks_from}
use Rattle.s3r_history.specs.Deeds.{deeds, version, marker, effects_after}
use Rattle.s3r_history.specs.Deeds as history
use Rattle.s3r_history.specs.BucketView.{BucketView}
use Rattle.s3r_history.specs.Told.{told}
use Rattle.s3r_history.specs.Sending.{Destination, to_each, replica_by, replica_to, marker_to, copies, was_sent, came_from, lets_change, tags_to, hold_to, of_bucket, of_row}
use Rattle.s3r_region.specs.Contents.{Contents}
use Rattle.s3r_region.specs.After.{seen, IsAfter}
use Rattle.s3r_region.specs.Changes.{next_stamp}
use Rattle.s3r_region.specs.Prescribing.{Written, was_prescribed, goes_on, effect_by, sends_by_config, sends_at, sends_of_change, sends_of_tags, sends_of_hold}
use Rattle.s3r_region.specs.Prescribing as said
use Rattle.s3r_region.proofs.Sends.{Gives, sends-each}
use Rattle.s3r_region.proofs.Steps.{stamp-is}

-- ---- what was prescribed before

any-tasks : (h : History) (d n : ℕ) (b : Name) (row : Entry) (to : Destination) (es : List Prescribed)
    → was_prescribed b row to (tasks_from h d n es) ≡ was_sent b row to es
any-tasks h d n b row to [] = refl
any-tasks h d n b row to (p ∷ es) = ap (λ t. (nat_le row.place p.place && copies b row to p.effect) || t) (any-tasks h d (suc n) b row to es)

prescribed-is : (s : Contents) (h : History) → IsAfter s h → (b : Name) (row : Entry) (to : Destination)
    → was_prescribed b row to (queue.to_region s.outbox to.region) ≡ was_sent b row to (placed (deeds s.region h) to.region)
prescribed-is s h a b row to = go (nat_lt to.region s.regions) refl
  where
    go : (t : Bool) → nat_lt to.region s.regions ≡ t
        → was_prescribed b row to (queue.to_region s.outbox to.region) ≡ was_sent b row to (placed (deeds s.region h) to.region)
    go true e =
        ap (was_prescribed b row to) (a.queues.tasks to.region (ltb-true to.region s.regions e))
        ∙ any-tasks h to.region 1 b row to (placed (deeds s.region h) to.region)
    go false e =
        let le : s.regions ≤ to.region = grind (arith, e, nat_tests) in
        ap (was_prescribed b row to) (get_or_past s.outbox to.region [] (omega (arith, a.queues.boxes)))
        ∙ sym (ap (was_sent b row to) (a.beyond to.region le))

-- ---- what goes to one destination

gives-replica : (outbox : List (List (Task Prescribed))) (b : Name) (row : Entry) (config : Replication)
    → Gives outbox b (said.version row) config (replica_to b row)
gives-replica outbox b row config = record { same = λ to. go to (choice (fits to.bucket (rules.put row.key row.tags)) config.config) }
  where
    go : (to : Destination) (o : Option Rule) → option_and_then (effect_by outbox b (said.version row) to) o ≡ option_map (replica_by b row to.bucket) o
    go to None = refl
    go to (Some rule) = refl

gives-marker : (outbox : List (List (Task Prescribed))) (b : Name) (row : Entry) (config : Replication)
    → Gives outbox b (said.marker row) config (marker_to b row)
gives-marker outbox b row config = record { same = λ to. refl }

-- a change goes to the destination of a rule that is chosen
change-goes : (s : Contents) (h : History) → IsAfter s h → (b : Name) (row : Entry) (to : Destination) (e : Carried) (o : Option Rule)
    → option_and_then (λ (rule : Rule). cond (goes_on s.outbox b row to rule) (Some e) None) o
    ≡ cond ((came_from to row.origin || was_sent b row to (placed (deeds s.region h) to.region)) && lets_change row o) (Some e) None
change-goes s h a b row to e None = go (came_from to row.origin || was_sent b row to (placed (deeds s.region h) to.region))
  where
    go : (t : Bool) → None ≡ cond (t && false) (Some e) None
    go true = refl
    go false = refl
change-goes s h a b row to e (Some rule) =
    ap (λ t. cond ((came_from to row.origin || t) && (is_none row.origin || rule.replica_modifications)) (Some e) None) (prescribed-is s h a b row to)

gives-tags : (s : Contents) (h : History) → IsAfter s h → (b : Name) (row : Entry) (tags : List Tag) (stamp : Stamp) (config : Replication)
    → Gives s.outbox b (said.tags row tags stamp) config (tags_to (deeds s.region h) b stamp tags row)
gives-tags s h a b row tags stamp config = record {
  same = λ to. change-goes s h a b row to (effects.Tags b to.bucket row.key row.id tags stamp) (choice (fits to.bucket (rules.meta row.key)) config.config);
}

gives-hold : (s : Contents) (h : History) → IsAfter s h → (b : Name) (row : Entry) (hold : Bool) (stamp : Stamp) (config : Replication)
    → Gives s.outbox b (said.hold row hold stamp) config (hold_to (deeds s.region h) b stamp hold row)
gives-hold s h a b row hold stamp config = record {
  same = λ to. change-goes s h a b row to (effects.Hold b to.bucket row.key row.id hold stamp) (choice (fits to.bucket (rules.meta row.key)) config.config);
}

-- ---- what a command sends

row-sends : (outbox : List (List (Task Prescribed))) (b : Name) (w : Written) (give : List Rule → Destination → Option Carried)
    → ((config : Replication) → Gives outbox b w config give) → (at : Option BucketView)
    → sends_at outbox b w at ≡ of_bucket (λ (t : BucketView). to_each give t.config) at
row-sends outbox b w give gives None = refl
row-sends outbox b w give gives (Some at) = sends-each outbox b w give gives at.config

change-sends : (outbox : List (List (Task Prescribed))) (b : Name) (w : Entry → Written) (give : Entry → List Rule → Destination → Option Carried)
    → ((row : Entry) (config : Replication) → Gives outbox b (w row) config (give row)) → (config : Option Replication) (o : Option Entry)
    → sends_of_change outbox b w config o ≡ of_row (λ (row : Entry). to_each (give row) config) o
change-sends outbox b w give gives config None = refl
change-sends outbox b w give gives config (Some row) = sends-each outbox b (w row) (give row) (gives row) config

pub put-sends : (s : Contents) (h : History) → IsAfter s h → (b key : Name) (tags : List Tag) (hold : Bool) (class body : List ℕ)
    → sends_at s.outbox b (said.version (version (next_stamp s) key tags hold class body)) (seen s b)
    ≡ effects_after s.region h (command.Put b key tags hold class body)
put-sends s h a b key tags hold class body =
    ap (λ (stamp : Stamp). sends_at s.outbox b (said.version (version stamp key tags hold class body)) (seen s b)) (stamp-is s h a)
    ∙ ap (sends_at s.outbox b (said.version row)) (a.buckets b)
    ∙ row-sends s.outbox b (said.version row) (replica_to b row) (gives-replica s.outbox b row) (told s.region h b)
  where
    row : Entry
    row = version (history.next_stamp s.region (deeds s.region h)) key tags hold class body

pub marker-sends : (s : Contents) (h : History) → IsAfter s h → (b key : Name)
    → sends_at s.outbox b (said.marker (marker (next_stamp s) key)) (seen s b) ≡ effects_after s.region h (command.Marker b key)
marker-sends s h a b key =
    ap (λ (stamp : Stamp). sends_at s.outbox b (said.marker (marker stamp key)) (seen s b)) (stamp-is s h a)
    ∙ ap (sends_at s.outbox b (said.marker row)) (a.buckets b)
    ∙ row-sends s.outbox b (said.marker row) (marker_to b row) (gives-marker s.outbox b row) (told s.region h b)
  where
    row : Entry
    row = marker (history.next_stamp s.region (deeds s.region h)) key

pub tags-sends : (s : Contents) (h : History) → IsAfter s h → (b key : Name) (id : VersionId) (tags : List Tag)
    → sends_of_tags s.outbox b key id tags (next_stamp s) (seen s b) ≡ effects_after s.region h (command.SetTags b key id tags)
tags-sends s h a b key id tags =
    ap (λ (stamp : Stamp). sends_of_tags s.outbox b key id tags stamp (seen s b)) (stamp-is s h a)
    ∙ ap (sends_of_tags s.outbox b key id tags stamp) (a.buckets b)
    ∙ go (told s.region h b)
  where
    stamp : Stamp
    stamp = history.next_stamp s.region (deeds s.region h)

    go : (at : Option BucketView) → sends_of_tags s.outbox b key id tags stamp at
        ≡ of_bucket (λ (t : BucketView). of_row (λ (row : Entry). to_each (tags_to (deeds s.region h) b stamp tags row) t.config)
        (find_version key id t.rows)) at
    go None = refl
    go (Some at) =
        change-sends s.outbox b (λ row. said.tags row tags stamp) (λ row. tags_to (deeds s.region h) b stamp tags row)
        (λ row config. gives-tags s h a b row tags stamp config) at.config (find_version key id at.rows)

pub hold-sends : (s : Contents) (h : History) → IsAfter s h → (b key : Name) (id : VersionId) (hold : Bool)
    → sends_of_hold s.outbox b key id hold (next_stamp s) (seen s b) ≡ effects_after s.region h (command.SetHold b key id hold)
hold-sends s h a b key id hold =
    ap (λ (stamp : Stamp). sends_of_hold s.outbox b key id hold stamp (seen s b)) (stamp-is s h a)
    ∙ ap (sends_of_hold s.outbox b key id hold stamp) (a.buckets b)
    ∙ go (told s.region h b)
  where
    stamp : Stamp
    stamp = history.next_stamp s.region (deeds s.region h)

    go : (at : Option BucketView) → sends_of_hold s.outbox b key id hold stamp at
        ≡ of_bucket (λ (t : BucketView). of_row (λ (row : Entry). to_each (hold_to (deeds s.region h) b stamp hold row) t.config)
        (find_version key id t.rows)) at
    go None = refl
    go (Some at) =
        change-sends s.outbox b (λ row. said.hold row hold stamp) (λ row. hold_to (deeds s.region h) b stamp hold row)
        (λ row config. gives-hold s h a b row hold stamp config) at.config (find_version key id at.rows)
