-- Effects that are prescribed, carried and received.
use Rattle.std.proofs.Common.{◌≡◌, ℕ, zero, suc, ◌-◌, true, false, Bool, codes, List, [], ◌∷◌, Option, Some, None, length, map, refl}
use Rattle.std.specs.Prelude.{option_map, slice_get}
use Rattle.s3r_names.specs.declared.outcome.Outcome.TheVariants as outcomes
use Rattle.s3r_names.specs.declared.outcome.Reason.TheVariants as reasons
use Rattle.s3r_names.specs.declared.outcome.Status.{Status}
use Rattle.s3r_names.specs.declared.outcome.Status.TheVariants as status
use Rattle.s3r_names.specs.declared.stamp.Stamp.{Stamp}
use Rattle.s3r_names.specs.declared.tags.Tag.{Tag}
use Rattle.s3r_names.specs.declared.version.VersionId.{VersionId}
use Rattle.s3r_rules.specs.declared.rule.Rule.{Rule}
use Rattle.s3r_record.specs.declared.command.Command.{Command}
use Rattle.s3r_record.specs.declared.command.Command.TheVariants as command
use Rattle.s3r_record.specs.declared.effect.Effect.TheVariants as effects
use Rattle.s3r_queue.specs.declared.task.TaskState.TheVariants as states
use Rattle.s3r_history.specs.declared.refusal.Refusal.TheVariants as refusals
use Rattle.s3r_history.specs.Words.{Name, History}
use Rattle.s3r_history.specs.Past.{Entry, Carried, clock}
use Rattle.s3r_history.specs.Rows.{life, rows, latest}
use Rattle.s3r_history.specs.Deeds.{deeds, judge}
use Rattle.s3r_history.specs.Placed.{prescribed}
use Rattle.s3r_history.specs.Tasks.{first, next_task, task_state}
use Rattle.s3r_history.specs.Statuses as statuses
use Rattle.s3r_history.specs.Writes.{tags_written, hold_written}
use Rattle.s3r_history.specs.RegionView.{view}
use Rattle.s3r_history.specs.Accepts.{refusal}

abbrev rule : ℕ → List Tag → Bool → Name → Option (List ℕ) → Bool → Rule
rule priority tags markers to class modifications = record {
  id = codes "rule-1";
  priority = priority;
  enabled = true;
  prefix = [];
  tags = tags;
  markers = markers;
  bucket = to;
  class = class;
  replica_modifications = modifications;
}

abbrev plain : ℕ → Name → Rule
plain priority to = rule priority [] false to None false

-- to one bucket, for versions that have the tags, with a class for the copy
abbrev of_class : ℕ → List Tag → List ℕ → Rule
of_class priority tags class = rule priority tags false (codes "dst") (Some class) false

abbrev id_at : ℕ → ℕ → VersionId
id_at region index = record { region = region; index = index }

abbrev stamp_at : ℕ → ℕ → ℕ → Stamp
stamp_at n region index = record { n = n; region = region; index = index }

abbrev create : Name → Command
create b = command.CreateBucket b false

abbrev put : Name → Name → List Tag → List ℕ → Command
put b key tags body = command.Put b key tags false (codes "STANDARD") body

-- a source with rules, and a destination
abbrev source : List Rule → List ℕ → History
source rules regions = command.SetReplication (codes "src") rules regions ∷ create (codes "src") ∷ []

abbrev destination : History
destination = create (codes "dst") ∷ []

-- the histories of a region that sends and of one that receives
pub record Pair : Type 0 where
  pub from : History
  pub to : History

-- the first pending task of region 0 to region 1 is received there, and settled as it came to
abbrev carried_at : ℕ → Option Carried → Pair → Pair
carried_at n None p = p
carried_at n (Some e) p = record { from = command.Settle 1 n (judge 1 p.to e) ∷ p.from; to = command.Receive 0 n e ∷ p.to }

abbrev carry : Pair → Pair
carry p = let n = first p.from (deeds 0 p.from) 1 in carried_at n (slice_get (prescribed (deeds 0 p.from) 1) (n - 1)) p

abbrev statuses_of : ℕ → History → Name → List Status
statuses_of r h b = map (λ (row : Entry). statuses.status h (deeds r h) b row) (rows (deeds r h) b)

-- id, class and body of each row
abbrev shown : ℕ → History → Name → List (VersionId × List ℕ × List ℕ)
shown r h b = map (λ (row : Entry). (row.id, row.class, row.body)) (rows (deeds r h) b)

-- ---- of two rules to one bucket the one of greater priority gives the class

abbrev two_rules : Pair
two_rules = record {
  from = put (codes "src") (codes "k") [] (codes "x") ∷ source (of_class 1 [] (codes "STANDARD_IA") ∷ of_class 9 [] (codes "GLACIER") ∷ []) (1 ∷ 1 ∷ []);
  to = destination;
}

pending_at_first : statuses_of 0 two_rules.from (codes "src") ≡ status.Pending ∷ []
pending_at_first = refl

copied : shown 1 (carry two_rules).to (codes "dst") ≡ (id_at 0 3, codes "GLACIER", codes "x") ∷ []
copied = refl

is_replica : statuses_of 1 (carry two_rules).to (codes "dst") ≡ status.Replica ∷ []
is_replica = refl

completed : statuses_of 0 (carry two_rules).from (codes "src") ≡ status.Completed ∷ []
completed = refl

-- ---- a rule with a tag counts for versions that have the tag

abbrev tag_a : Tag
tag_a = record { key = codes "a"; value = codes "1" }

abbrev tagged : List Tag → Pair
tagged tags = record {
  from = put (codes "src") (codes "k") tags (codes "x")
      ∷ source (of_class 1 [] (codes "STANDARD_IA") ∷ of_class 9 (tag_a ∷ []) (codes "GLACIER") ∷ []) (1 ∷ 1 ∷ []);
  to = destination;
}

without_tag : shown 1 (carry (tagged [])).to (codes "dst") ≡ (id_at 0 3, codes "STANDARD_IA", codes "x") ∷ []
without_tag = refl

with_tag : shown 1 (carry (tagged (tag_a ∷ []))).to (codes "dst") ≡ (id_at 0 3, codes "GLACIER", codes "x") ∷ []
with_tag = refl

-- ---- of two destinations one is Suspended

abbrev suspended : Pair
suspended = record {
  from = put (codes "src") (codes "k") [] (codes "x") ∷ source (plain 1 (codes "dst2") ∷ plain 1 (codes "dst") ∷ []) (1 ∷ 1 ∷ []);
  to = command.SetVersioning (codes "dst2") false ∷ create (codes "dst2") ∷ destination;
}

first_applied : task_state (carry suspended).from 1 1 ≡ states.Completed
first_applied = refl

second_refused : task_state (carry (carry suspended)).from 1 2 ≡ states.Failed reasons.DestinationSuspended
second_refused = refl

failed : statuses_of 0 (carry (carry suspended)).from (codes "src") ≡ status.Failed ∷ []
failed = refl

at_suspended : rows (deeds 1 (carry (carry suspended)).to) (codes "dst2") ≡ []
at_suspended = refl

-- ---- a marker is sent only where the rule says so

abbrev once_copied : Bool → Pair
once_copied markers = carry (record {
  from = put (codes "src") (codes "k") [] (codes "x") ∷ source (rule 1 [] markers (codes "dst") None false ∷ []) (1 ∷ []);
  to = destination;
})

abbrev then_marked : Bool → Pair
then_marked markers = record (once_copied markers) { from = command.Marker (codes "src") (codes "k") ∷ (once_copied markers).from }

marker_id : option_map (λ (row : Entry). row.id) (latest (deeds 0 (then_marked false).from) (codes "src") (codes "k")) ≡ Some (id_at 0 5)
marker_id = refl

marker_stays : length (prescribed (deeds 0 (then_marked false).from) 1) ≡ 1
marker_stays = refl

marker_arrives : option_map (λ (row : Entry). row.marker) (latest (deeds 1 (carry (then_marked true)).to) (codes "dst") (codes "k")) ≡ Some true
marker_arrives = refl

-- ---- a removal isn't replicated, and what was removed at the destination doesn't come back

removal_stays : length (prescribed (deeds 0 (command.Remove (codes "src") (codes "k") (id_at 0 3) ∷ (once_copied true).from)) 1) ≡ 1
removal_stays = refl

abbrev replica_of_source : Carried
replica_of_source =
    effects.Replica (codes "src") (codes "dst") (codes "k") (id_at 0 3) 1 [] (stamp_at 1 0 3) false (stamp_at 1 0 3) (codes "STANDARD") (codes "x")

-- ---- a replica isn't replicated live again

abbrev chain : Pair
chain = carry (record {
  from = put (codes "aaa") (codes "k") [] (codes "x") ∷ command.SetReplication (codes "aaa") (plain 1 (codes "bbb") ∷ []) (1 ∷ []) ∷ create (codes "aaa") ∷ [];
  to = command.SetReplication (codes "bbb") (plain 1 (codes "ccc") ∷ []) (2 ∷ []) ∷ create (codes "bbb") ∷ [];
})

arrives_at_bbb : length (rows (deeds 1 chain.to) (codes "bbb")) ≡ 1
arrives_at_bbb = refl

stops_at_bbb : prescribed (deeds 1 chain.to) 2 ≡ []
stops_at_bbb = refl

-- ---- the rules at the write count, whatever replaced them

abbrev replaced : Pair
replaced = record {
  from = command.SetReplication (codes "src") (record (plain 1 (codes "dst")) { enabled = false } ∷ []) (1 ∷ [])
      ∷ put (codes "src") (codes "k") [] (codes "x")
      ∷ source (plain 1 (codes "dst") ∷ []) (1 ∷ []);
  to = destination;
}

still_applied : task_state (carry replaced).from 1 1 ≡ states.Completed
still_applied = refl

next_has_none : statuses_of 0 (put (codes "src") (codes "l") [] (codes "y") ∷ (carry replaced).from) (codes "src") ≡ status.Completed ∷ status.NoTask ∷ []
next_has_none = refl

-- ---- tags and hold

-- a change of tags goes where the version was sent, and back from there only where the rule says so
abbrev both_ways : Bool → Pair
both_ways modifications = carry (record {
  from = put (codes "src") (codes "k") [] (codes "x") ∷ source (rule 1 [] false (codes "dst") None modifications ∷ []) (1 ∷ []);
  to = command.SetReplication (codes "dst") (rule 1 [] false (codes "src") None modifications ∷ []) (0 ∷ []) ∷ destination;
})

abbrev set_tags : Name → Command
set_tags b = command.SetTags b (codes "k") (id_at 0 3) (tag_a ∷ [])

tags_follow : prescribed (deeds 0 (set_tags (codes "src") ∷ (both_ways false).from)) 1
    ≡ replica_of_source ∷ effects.Tags (codes "src") (codes "dst") (codes "k") (id_at 0 3) (tag_a ∷ []) (stamp_at 2 0 5) ∷ []
tags_follow = refl

-- the last task about a version to a bucket says how far its replication is
pending_again : statuses_of 0 (set_tags (codes "src") ∷ (both_ways false).from) (codes "src") ≡ status.Pending ∷ []
pending_again = refl

settled_again : statuses_of 0 (carry (record (both_ways false) { from = set_tags (codes "src") ∷ (both_ways false).from })).from (codes "src")
    ≡ status.Completed ∷ []
settled_again = refl

tags_return : prescribed (deeds 1 (set_tags (codes "dst") ∷ (both_ways true).to)) 0
    ≡ effects.Tags (codes "dst") (codes "src") (codes "k") (id_at 0 3) (tag_a ∷ []) (stamp_at 2 1 4) ∷ []
tags_return = refl

tags_stay : prescribed (deeds 1 (set_tags (codes "dst") ∷ (both_ways false).to)) 0 ≡ []
tags_stay = refl

-- the clock counts the numbers that a refused effect carries too
refused_counts : clock (deeds 1 (command.Receive 0 1 (effects.Marker (codes "src") (codes "none") (codes "k") (id_at 0 3) 77) ∷ [])) ≡ 77
refused_counts = refl

-- an id of this region that it hasn't given yet is taken as removed
not_given : judge 1 destination (effects.Marker (codes "src") (codes "dst") (codes "k") (id_at 1 2) 1) ≡ outcomes.Refused reasons.VersionRemoved
not_given = refl

given : judge 1 destination (effects.Marker (codes "src") (codes "dst") (codes "k") (id_at 1 1) 1) ≡ outcomes.Applied
given = refl

abbrev removed_at_dst : History
removed_at_dst = command.Remove (codes "dst") (codes "k") (id_at 0 3) ∷ (once_copied true).to

removed_there : judge 1 removed_at_dst replica_of_source ≡ outcomes.Refused reasons.VersionRemoved
removed_there = refl

-- the other reasons
no_destination : judge 1 [] replica_of_source ≡ outcomes.Refused reasons.NoSuchDestination
no_destination = refl

no_version : judge 1 destination (effects.Tags (codes "src") (codes "dst") (codes "k") (id_at 0 3) [] (stamp_at 1 0 3)) ≡ outcomes.Refused reasons.NoSuchVersion
no_version = refl

no_lock : judge 1 (once_copied true).to (effects.Hold (codes "src") (codes "dst") (codes "k") (id_at 0 3) true (stamp_at 2 0 5))
    ≡ outcomes.Refused reasons.DestinationNotLocked
no_lock = refl

-- ---- what was written of a version that was received

-- as it was received, and as it was set, here and there
abbrev tags_again : Command
tags_again = command.Receive 0 2 (effects.Tags (codes "src") (codes "dst") (codes "k") (id_at 0 3) [] (stamp_at 9 0 7))

abbrev set_twice : History
set_twice = tags_again ∷ set_tags (codes "dst") ∷ (once_copied false).to

all_written : tags_written (deeds 1 set_twice) (codes "dst") (codes "k") (id_at 0 3)
    ≡ (stamp_at 9 0 7, []) ∷ (stamp_at 2 1 3, tag_a ∷ []) ∷ (stamp_at 1 0 3, []) ∷ []
all_written = refl

-- a marker that is there already writes nothing where it is received again, and a replica does
abbrev marked_again : History
marked_again = command.Receive 0 3 (effects.Marker (codes "src") (codes "dst") (codes "k") (id_at 0 5) 2) ∷ (carry (then_marked true)).to

once_written : hold_written (deeds 1 marked_again) (codes "dst") (codes "k") (id_at 0 5) ≡ (stamp_at 2 0 5, false) ∷ []
once_written = refl

twice_written : hold_written (deeds 1 (command.Receive 0 2 replica_of_source ∷ (once_copied false).to)) (codes "dst") (codes "k") (id_at 0 3)
    ≡ (stamp_at 1 0 3, false) ∷ (stamp_at 1 0 3, false) ∷ []
twice_written = refl

-- where the bucket was made again meanwhile, only what was written since then counts
abbrev born_again : History
born_again = command.Receive 0 3 replica_of_source
    ∷ create (codes "dst")
    ∷ command.DeleteBucket (codes "dst")
    ∷ command.Remove (codes "dst") (codes "k") (id_at 0 3)
    ∷ set_twice

written_since : tags_written (life (codes "dst") (deeds 1 born_again)) (codes "dst") (codes "k") (id_at 0 3) ≡ (stamp_at 1 0 3, []) ∷ []
written_since = refl

tags_since : map (λ (row : Entry). row.tags_stamp) (rows (deeds 1 born_again) (codes "dst")) ≡ stamp_at 1 0 3 ∷ []
tags_since = refl

-- what is refused writes nothing
none_written : tags_written (deeds 1 (command.Receive 0 2 replica_of_source ∷ removed_at_dst)) (codes "dst") (codes "k") (id_at 0 3)
    ≡ tags_written (deeds 1 removed_at_dst) (codes "dst") (codes "k") (id_at 0 3)
none_written = refl

-- ---- refusals

received_twice : refusal 2 1 (once_copied false).to (command.Receive 0 1 replica_of_source) ≡ Some (refusals.NotNext 1)
received_twice = refl

received_next : refusal 2 1 (once_copied false).to (command.Receive 0 2 replica_of_source) ≡ None
received_next = refl

received_elsewhere : refusal 2 1 (once_copied false).to (command.Receive 2 2 replica_of_source) ≡ Some (refusals.NoSuchRegion 2)
received_elsewhere = refl

none_to_settle : refusal 2 0 (once_copied false).from (command.Settle 1 1 outcomes.Applied) ≡ Some (refusals.NotFirst 0)
none_to_settle = refl

another_first : refusal 2 0 two_rules.from (command.Settle 1 2 outcomes.Applied) ≡ Some (refusals.NotFirst 1)
another_first = refl

settled_first : refusal 2 0 two_rules.from (command.Settle 1 1 outcomes.Applied) ≡ None
settled_first = refl

-- after eight attempts a task is given up
abbrev tried : ℕ → History
tried zero = two_rules.from
tried (suc n) = command.Attempt 1 1 ∷ tried n

seven : task_state (tried 7) 1 1 ≡ states.Pending
seven = refl

eight : task_state (tried 8) 1 1 ≡ states.Exhausted
eight = refl

given_up : statuses_of 0 (tried 8) (codes "src") ≡ status.Failed ∷ []
given_up = refl

none_left : next_task (tried 8) (deeds 0 (tried 8)) 1 ≡ 0
none_left = refl

-- ---- what a region tells

counted : (view 0 two_rules.from).count ≡ 1
counted = refl

first_to_settle : (view 0 two_rules.from).next 1 ≡ 1
first_to_settle = refl

nothing_received : (view 1 destination).last 0 ≡ 0
nothing_received = refl

last_received : (view 1 (carry two_rules).to).last 0 ≡ 1
last_received = refl

status_told : (view 0 two_rules.from).status (codes "src") (codes "k") (id_at 0 3) ≡ Some status.Pending
status_told = refl

no_status : (view 0 two_rules.from).status (codes "src") (codes "k") (id_at 0 4) ≡ None
no_status = refl
