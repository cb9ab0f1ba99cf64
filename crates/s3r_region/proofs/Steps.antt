-- A state after one command more.
use Rattle.std.proofs.Common.{◌≡◌, ℕ, ◌+◌, ◌≤◌, min, max, Bool, true, false, cond, is_some, List, [], ◌∷◌, ◌++◌, Option, Some, None, length, refl, sym, ap, ◌∙◌, subst, arith, add-one}
use Rattle.std.specs.Prelude.{option_map}
use Rattle.std.specs.Str.{bytes_eq}
use Rattle.std.proofs.lemmas.Slice.Eq.{bytes_eq-Decides}
use Rattle.std.proofs.lemmas.List.{length_push}
use Rattle.s3r_names.specs.declared.outcome.Outcome.{Outcome}
use Rattle.s3r_names.specs.declared.stamp.Stamp.{Stamp}
use Rattle.s3r_names.specs.declared.tags.Tag.{Tag}
use Rattle.s3r_names.specs.declared.version.VersionId.{VersionId}
use Rattle.s3r_queue.specs.declared.inbox.Noted.{Noted}
use Rattle.s3r_queue.specs.declared.task.Task.{Task}
use Rattle.s3r_record.specs.declared.command.Command.{Command}
use Rattle.s3r_record.specs.declared.command.Command.TheVariants as command
use Rattle.s3r_rules.specs.declared.rule.Rule.{Rule}
use Rattle.s3r_versions.specs.Lookup.{find_version}
use Rattle.s3r_versions.specs.Contents.{without_version}
use Rattle.s3r_versions.specs.Removed.{with_id}
use Rattle.s3r_history.specs.declared.sent.Prescribed.{Prescribed}
use Rattle.s3r_history.specs.declared.sent.Sent.{Sent}
use Rattle.s3r_history.specs.Words.{Name, History}
use Rattle.s3r_history.specs.Buckets.{Bucket as Facts, bucket, is_there, names}
use Rattle.s3r_history.specs.Past.{Entry, Carried, clock, carried_n}
use Rattle.s3r_history.specs.Carried.{target_of, is_applied}
use Rattle.s3r_history.specs.Deeds.{deeds, version, marker, effects_after, judge}
use Rattle.s3r_history.specs.Deeds as history
use Rattle.s3r_history.specs.BucketView.{BucketView}
use Rattle.s3r_history.specs.Told.{told, told_of}
use Rattle.s3r_history.specs.Kept.{QueuesAfter, push_all}
use Rattle.s3r_history.specs.Laws.{is_once}
use Rattle.s3r_history.specs.Jobs.{jobs_at}
use Rattle.s3r_jobs.specs.Jobs.{reports_to}
use Rattle.s3r_history.specs.Accepts.{refusal, first_of_causes, in_bucket, in_version, under_hold, of_removal, of_creation, of_deletion}
use Rattle.s3r_history.proofs.Versions.{length-deeds}
use Rattle.s3r_history.proofs.Ahead.{IsWithin}
use Rattle.s3r_history.proofs.QueueSteps.{IsPlain, queues-push}
use Rattle.s3r_history.proofs.Beyond.{there-kept, beyond-kept}
use Rattle.s3r_history.proofs.HistoryNames.{names-create, names-delete}
use Rattle.s3r_history.proofs.ToldSteps.{changed_at, add_row, remove_row, write_tags, write_hold, switch, configure, told-put, told-marker, told-remove, told-tags, told-hold, told-switch, told-replicate, told-drop, told-delete, told-create}
use Rattle.s3r_history.proofs.Receiving.{take_in, told-receive, told-settle, told-attempt}
use Rattle.s3r_region.specs.declared.bucket.Bucket.{Bucket}
use Rattle.s3r_region.specs.declared.change.Change.{Change}
use Rattle.s3r_region.specs.declared.change.Change.TheVariants as change
use Rattle.s3r_region.specs.Contents.{Contents, is_named, names_of}
use Rattle.s3r_region.specs.KeptJobs.{KeptJobs}
use Rattle.s3r_region.specs.KeptJobs as jobs
use Rattle.s3r_region.specs.After.{told_by, seen_bucket, seen, IsAfter}
use Rattle.s3r_region.specs.Changes.{set_first, without_first, changed, changed_if, new_bucket, with_change, next_stamp}
use Rattle.s3r_region.specs.Receives.{change_by}
use Rattle.s3r_region.proofs.Places.{length-set_first, length-without_first}
use Rattle.s3r_region.proofs.BucketView.{told-set_first, told-push, told-without, names-set_first, once-without, none-named, once-push, names-push}
use Rattle.s3r_region.proofs.Receives.{takes-in}

pub stamp-is : (s : Contents) (h : History) → IsAfter s h → next_stamp s ≡ history.next_stamp s.region (deeds s.region h)
stamp-is s h a =
    ap (λ n. record { n = min (n + 1) 18446744073709551615; region = s.region; index = s.commands + 1 }) a.clock
    ∙ ap (λ m. record { n = min (clock (deeds s.region h) + 1) 18446744073709551615; region = s.region; index = m + 1 })
    (a.commands ∙ sym (length-deeds s.region h))

-- ---- a change of one bucket

keeps_name : (c : Change) (x : Bucket) → (changed c x).name ≡ x.name
keeps_name (change.Add row) x = refl
keeps_name (change.Receive row) x = refl
keeps_name (change.Remove key id) x = refl
keeps_name (change.Tags key id tags stamp) x = refl
keeps_name (change.Hold key id hold stamp) x = refl
keeps_name (change.Versioning enabled) x = refl
keeps_name (change.Replication config) x = refl

-- the tasks after a command that receives, settles and tries nothing, and sends this
pub pushed : (s : Contents) (h : History) (c : Command) (sends : List Sent) → IsAfter s h → IsPlain c → IsWithin (deeds s.region h) c
    → sends ≡ effects_after s.region h c → QueuesAfter s.region s.regions (push_all (s.commands + 1) sends s.outbox) s.inbox (c ∷ h)
pushed s h c sends a plain within these =
    subst (λ (o : List (List (Task Prescribed))). QueuesAfter s.region s.regions o s.inbox (c ∷ h))
    (ap (λ n. push_all (n + 1) (effects_after s.region h c) s.outbox) (length-deeds s.region h ∙ sym a.commands)
    ∙ ap (λ (xs : List Sent). push_all (s.commands + 1) xs s.outbox) (sym these))
    (queues-push s.region s.regions s.outbox s.inbox h c plain within a.queues)

-- The state after a command that changes what is told of its bucket by f, under the clock's number n, and sends this, and of whose
-- jobs this is kept.
pub after-change : (s : Contents) (h : History) (name : Name) (ch : Change) (f : BucketView → BucketView) (c : Command) (n : ℕ) (sends : List Sent)
    → IsAfter s h
    → refusal s.regions s.region h c ≡ None → IsPlain c → IsWithin (deeds s.region h) c
    → ((x : Bucket) → told_by (changed ch x) ≡ f (told_by x)) → ((b : Name) → told s.region (c ∷ h) b ≡ changed_at name f (told s.region h) b)
    → names (c ∷ h) ≡ names h → n ≡ clock (deeds s.region (c ∷ h)) → sends ≡ effects_after s.region h c → (kept : KeptJobs) → jobs.IsAfter s.region kept (c ∷ h)
    → IsAfter (record (with_change s name ch n sends) { jobs = kept }) (c ∷ h)
after-change s h name ch f c n sends a accepted plain within shows tells same counts these kept go_on = record {
  commands = ap (λ m. m + 1) a.commands ∙ add-one (length h);
  clock = counts;
  buckets = λ b.
      told-set_first name (changed ch) f (keeps_name ch) shows s.buckets b
      ∙ ap (λ v. cond (bytes_eq name b) (option_map f v) v) (a.buckets b)
      ∙ sym (tells b);
  count = length-set_first (is_named name) (changed ch) s.buckets ∙ a.count ∙ sym (ap length same);
  once = ap is_once (names-set_first name (changed ch) (keeps_name ch) s.buckets) ∙ a.once;
  some = a.some;
  queues = pushed s h c sends a plain within these;
  jobs = go_on;
  there = there-kept s.regions s.region h c accepted a.there;
  beyond = beyond-kept s.regions s.region h c a.some a.there a.beyond;
}

next_clock : (m : ℕ) → m ≤ min (m + 1) 18446744073709551615 → min (m + 1) 18446744073709551615 ≡ max (min (m + 1) 18446744073709551615) m
next_clock m h = omega (arith, h)

pub zero_max : (n : ℕ) → n ≡ max 0 n
zero_max n = omega arith

-- the clock after a command that writes
pub writes_clock : (s : Contents) (h : History) → IsAfter s h → s.clock ≤ (next_stamp s).n
    → (next_stamp s).n ≡ max (history.next_stamp s.region (deeds s.region h)).n (clock (deeds s.region h))
writes_clock s h a above =
    ap (λ (stamp : Stamp). stamp.n) (stamp-is s h a)
    ∙ next_clock (clock (deeds s.region h)) (subst (λ m. m ≤ min (m + 1) 18446744073709551615) a.clock above)

plain-put : (name key : Name) (tags : List Tag) (hold : Bool) (class body : List ℕ) → IsPlain (command.Put name key tags hold class body)
plain-put name key tags hold class body = record { settles = λ d. refl; tries = λ d. refl; receives = λ s. refl }

pub after-put : (s : Contents) (h : History) (name key : Name) (tags : List Tag) (hold : Bool) (class body : List ℕ) (sends : List Sent) → IsAfter s h
    → refusal s.regions s.region h (command.Put name key tags hold class body) ≡ None → s.clock ≤ (next_stamp s).n
    → sends ≡ effects_after s.region h (command.Put name key tags hold class body)
    → IsAfter (with_change s name (change.Add (version (next_stamp s) key tags hold class body)) (next_stamp s).n sends)
    (command.Put name key tags hold class body ∷ h)
after-put s h name key tags hold class body sends a accepted above these =
    after-change s h name (change.Add (version (next_stamp s) key tags hold class body)) (add_row (version (next_stamp s) key tags hold class body))
    (command.Put name key tags hold class body) (next_stamp s).n sends a accepted (plain-put name key tags hold class body) tt
    (λ x. refl)
    (λ b. told-put s.region h name key tags hold class body b ∙ ap (λ (stamp : Stamp). changed_at name (add_row (version stamp key tags hold class body))
    (told s.region h) b) (sym (stamp-is s h a)))
    refl (writes_clock s h a above) these s.jobs a.jobs

pub after-marker : (s : Contents) (h : History) (name key : Name) (sends : List Sent) → IsAfter s h
    → refusal s.regions s.region h (command.Marker name key) ≡ None → s.clock ≤ (next_stamp s).n → sends ≡ effects_after s.region h (command.Marker name key)
    → IsAfter (with_change s name (change.Add (marker (next_stamp s) key)) (next_stamp s).n sends) (command.Marker name key ∷ h)
after-marker s h name key sends a accepted above these =
    after-change s h name (change.Add (marker (next_stamp s) key)) (add_row (marker (next_stamp s) key)) (command.Marker name key) (next_stamp s).n sends a
    accepted (record { settles = λ d. refl; tries = λ d. refl; receives = λ s. refl }) tt
    (λ x. refl)
    (λ b. told-marker s.region h name key b ∙ ap (λ (stamp : Stamp). changed_at name (add_row (marker stamp key)) (told s.region h) b) (sym (stamp-is s h a)))
    refl (writes_clock s h a above) these s.jobs a.jobs

pub after-tags : (s : Contents) (h : History) (name key : Name) (id : VersionId) (tags : List Tag) (sends : List Sent) → IsAfter s h
    → refusal s.regions s.region h (command.SetTags name key id tags) ≡ None → s.clock ≤ (next_stamp s).n
    → sends ≡ effects_after s.region h (command.SetTags name key id tags)
    → IsAfter (with_change s name (change.Tags key id tags (next_stamp s)) (next_stamp s).n sends) (command.SetTags name key id tags ∷ h)
after-tags s h name key id tags sends a accepted above these =
    after-change s h name (change.Tags key id tags (next_stamp s)) (write_tags key id (next_stamp s) tags) (command.SetTags name key id tags) (next_stamp s).n
    sends a accepted (record { settles = λ d. refl; tries = λ d. refl; receives = λ s. refl }) tt
    (λ x. refl)
    (λ b. told-tags s.region h name key id tags b ∙ ap (λ (stamp : Stamp). changed_at name (write_tags key id stamp tags) (told s.region h) b)
    (sym (stamp-is s h a)))
    refl (writes_clock s h a above) these s.jobs a.jobs

pub after-hold : (s : Contents) (h : History) (name key : Name) (id : VersionId) (hold : Bool) (sends : List Sent) → IsAfter s h
    → refusal s.regions s.region h (command.SetHold name key id hold) ≡ None → s.clock ≤ (next_stamp s).n
    → sends ≡ effects_after s.region h (command.SetHold name key id hold)
    → IsAfter (with_change s name (change.Hold key id hold (next_stamp s)) (next_stamp s).n sends) (command.SetHold name key id hold ∷ h)
after-hold s h name key id hold sends a accepted above these =
    after-change s h name (change.Hold key id hold (next_stamp s)) (write_hold key id (next_stamp s) hold) (command.SetHold name key id hold) (next_stamp s).n
    sends a accepted (record { settles = λ d. refl; tries = λ d. refl; receives = λ s. refl }) tt
    (λ x. refl)
    (λ b. told-hold s.region h name key id hold b ∙ ap (λ (stamp : Stamp). changed_at name (write_hold key id stamp hold) (told s.region h) b)
    (sym (stamp-is s h a)))
    refl (writes_clock s h a above) these s.jobs a.jobs

-- ---- a change that sends nothing

pub after-switch : (s : Contents) (h : History) (name : Name) (enabled : Bool) → IsAfter s h
    → refusal s.regions s.region h (command.SetVersioning name enabled) ≡ None
    → IsAfter (with_change s name (change.Versioning enabled) s.clock []) (command.SetVersioning name enabled ∷ h)
after-switch s h name enabled a accepted =
    after-change s h name (change.Versioning enabled) (switch enabled) (command.SetVersioning name enabled) s.clock [] a accepted
    (record { settles = λ d. refl; tries = λ d. refl; receives = λ s. refl }) tt
    (λ x. refl) (told-switch s.region h name enabled) refl (a.clock ∙ zero_max (clock (deeds s.region h))) refl s.jobs a.jobs

pub after-replicate : (s : Contents) (h : History) (name : Name) (config : List Rule) (regions : List ℕ) → IsAfter s h
    → refusal s.regions s.region h (command.SetReplication name config regions) ≡ None
    → IsAfter (with_change s name (change.Replication (Some (record { config = config; regions = regions }))) s.clock [])
    (command.SetReplication name config regions ∷ h)
after-replicate s h name config regions a accepted =
    after-change s h name (change.Replication (Some (record { config = config; regions = regions })))
    (configure (Some (record { config = config; regions = regions }))) (command.SetReplication name config regions) s.clock [] a accepted
    (record { settles = λ d. refl; tries = λ d. refl; receives = λ s. refl }) tt
    (λ x. refl) (told-replicate s.region h name config regions) refl (a.clock ∙ zero_max (clock (deeds s.region h))) refl s.jobs a.jobs

pub after-drop : (s : Contents) (h : History) (name : Name) → IsAfter s h → refusal s.regions s.region h (command.DropReplication name) ≡ None
    → IsAfter (with_change s name (change.Replication None) s.clock []) (command.DropReplication name ∷ h)
after-drop s h name a accepted =
    after-change s h name (change.Replication None) (configure None) (command.DropReplication name) s.clock [] a accepted
    (record { settles = λ d. refl; tries = λ d. refl; receives = λ s. refl }) tt
    (λ x. refl) (told-drop s.region h name) refl (a.clock ∙ zero_max (clock (deeds s.region h))) refl s.jobs a.jobs

-- a bucket from which a version is removed, perhaps one that isn't there
abbrev drop_row : Name → VersionId → BucketView → BucketView
drop_row key id t = record t { rows = without_version key id t.rows; removed = cond (is_some (find_version key id t.rows)) (with_id id t.removed) t.removed }

-- a removal that is accepted finds its version
found : (key : Name) (id : VersionId) (at : Option BucketView) → first_of_causes (in_bucket (of_removal key id) at) ≡ None
    → option_map (drop_row key id) at ≡ option_map (remove_row key id) at
found key id None accepted = refl
found key id (Some t) accepted = go (find_version key id t.rows) accepted
  where
    go : (o : Option Entry) → first_of_causes (in_version under_hold o) ≡ None
        → Some (record t { rows = without_version key id t.rows; removed = cond (is_some o) (with_id id t.removed) t.removed }) ≡ Some (remove_row key id t)
    go None e = absurd cc
    go (Some row) e = refl

pub after-remove : (s : Contents) (h : History) (name key : Name) (id : VersionId) → IsAfter s h
    → refusal s.regions s.region h (command.Remove name key id) ≡ None
    → IsAfter (with_change s name (change.Remove key id) s.clock []) (command.Remove name key id ∷ h)
after-remove s h name key id a accepted =
    after-change s h name (change.Remove key id) (drop_row key id) (command.Remove name key id) s.clock [] a accepted
    (record { settles = λ d. refl; tries = λ d. refl; receives = λ s. refl }) tt
    (λ x. refl)
    (λ b. told-remove s.region h name key id b ∙ go b (bytes_eq name b) (bytes_eq-Decides name b).0)
    refl (a.clock ∙ zero_max (clock (deeds s.region h))) refl s.jobs a.jobs
  where
    go : (b : Name) (t : Bool) → (t ≡ true → name ≡ b) → cond t (option_map (remove_row key id) (told s.region h b)) (told s.region h b) ≡ cond t
        (option_map (drop_row key id) (told s.region h b)) (told s.region h b)
    go b true same = subst (λ n. option_map (remove_row key id) (told s.region h n) ≡ option_map (drop_row key id) (told s.region h n)) (same refl)
        (sym (found key id (told s.region h name) accepted))
    go b false same = refl

-- ---- a bucket more or less

abbrev pub with_created : Contents → Name → Bool → Contents
with_created s name locked = record s { commands = s.commands + 1; buckets = s.buckets ++ new_bucket name locked ∷ [] }

abbrev pub with_deleted : Contents → Name → Contents
with_deleted s name = record s { commands = s.commands + 1; buckets = without_first (is_named name) s.buckets }

-- a bucket that is created isn't there
free : (r : ℕ) (h : History) (name : Name) (count : ℕ) → first_of_causes (of_creation (told r h name) count) ≡ None → told r h name ≡ None
free r h name count accepted = go (told r h name) accepted
  where
    go : (at : Option BucketView) → first_of_causes (of_creation at count) ≡ None → at ≡ None
    go None e = refl
    go (Some t) e = absurd cc

not_there : (r : ℕ) (h : History) (name : Name) → told r h name ≡ None → is_there h name ≡ false
not_there r h name none = go (bucket h name) none
  where
    go : (at : Option Facts) → option_map (told_of r h name) at ≡ None → is_some at ≡ false
    go None e = refl
    go (Some at) e = absurd cc

-- a bucket that is deleted is there
there : (r : ℕ) (h : History) (name : Name) (reported : Bool) → first_of_causes (in_bucket (of_deletion reported) (told r h name)) ≡ None
    → is_there h name ≡ true
there r h name reported accepted = go (bucket h name) accepted
  where
    go : (at : Option Facts) → first_of_causes (in_bucket (of_deletion reported) (option_map (told_of r h name) at)) ≡ None → is_some at ≡ true
    go None e = absurd cc
    go (Some at) e = refl

pub after-create : (s : Contents) (h : History) (name : Name) (locked : Bool) → IsAfter s h
    → refusal s.regions s.region h (command.CreateBucket name locked) ≡ None
    → IsAfter (with_created s name locked) (command.CreateBucket name locked ∷ h)
after-create s h name locked a accepted = record {
  commands = ap (λ n. n + 1) a.commands ∙ add-one (length h);
  clock = a.clock ∙ zero_max (clock (deeds s.region h));
  buckets = λ b.
      told-push s.buckets (new_bucket name locked) b (λ same. a.buckets b ∙ subst (λ n. told s.region h n ≡ None) ((bytes_eq-Decides name b).0 same) unknown)
      ∙ ap (λ v. cond (bytes_eq name b) (Some (told_by (new_bucket name locked))) v) (a.buckets b)
      ∙ sym (told-create s.region h name locked b);
  count = length_push s.buckets (new_bucket name locked) ∙ ap (λ n. n + 1) a.count ∙ sym (names-create h name locked (not_there s.region h name unknown));
  once = ap is_once (names-push s.buckets (new_bucket name locked)) ∙ once-push (names_of s.buckets) name a.once
      (none-named name s.buckets (a.buckets name ∙ unknown));
  some = a.some;
  queues = pushed s h (command.CreateBucket name locked) [] a (record { settles = λ d. refl; tries = λ d. refl; receives = λ s. refl }) tt refl;
  jobs = a.jobs;
  there = there-kept s.regions s.region h (command.CreateBucket name locked) accepted a.there;
  beyond = beyond-kept s.regions s.region h (command.CreateBucket name locked) a.some a.there a.beyond;
}
  where
    unknown : told s.region h name ≡ None
    unknown = free s.region h name (length (names h)) accepted

is_told : (reported : Bool) (at : Option BucketView) → first_of_causes (in_bucket (of_deletion reported) at) ≡ None → is_some at ≡ true
is_told reported None e = absurd cc
is_told reported (Some t) e = refl

is_found : (o : Option Bucket) (at : Option BucketView) → option_map told_by o ≡ at → is_some at ≡ true → is_some o ≡ true
is_found None None e h = h
is_found None (Some t) e h = absurd cc
is_found (Some x) at e h = refl

one_less : (n m k : ℕ) → n ≡ m + 1 → n ≡ k + 1 → m ≡ k
one_less n m k e f = omega (arith, e, f)

pub after-delete : (s : Contents) (h : History) (name : Name) → IsAfter s h → refusal s.regions s.region h (command.DeleteBucket name) ≡ None
    → IsAfter (with_deleted s name) (command.DeleteBucket name ∷ h)
after-delete s h name a accepted = record {
  commands = ap (λ n. n + 1) a.commands ∙ add-one (length h);
  clock = a.clock ∙ zero_max (clock (deeds s.region h));
  buckets = λ b.
      told-without name s.buckets b a.once
      ∙ ap (λ v. cond (bytes_eq name b) None v) (a.buckets b)
      ∙ sym (told-delete s.region h name b);
  count = one_less (length s.buckets) (length (without_first (is_named name) s.buckets)) (length (names (command.DeleteBucket name ∷ h)))
      (length-without_first (is_named name) s.buckets (is_found (seen_bucket s name) (told s.region h name) (a.buckets name)
      (is_told (reports_to name (jobs_at (deeds s.region h)).live) (told s.region h name) accepted)))
      (a.count ∙ names-delete h name (there s.region h name (reports_to name (jobs_at (deeds s.region h)).live) accepted));
  once = once-without name s.buckets a.once;
  some = a.some;
  queues = pushed s h (command.DeleteBucket name) [] a (record { settles = λ d. refl; tries = λ d. refl; receives = λ s. refl }) tt refl;
  jobs = a.jobs;
  there = there-kept s.regions s.region h (command.DeleteBucket name) accepted a.there;
  beyond = beyond-kept s.regions s.region h (command.DeleteBucket name) a.some a.there a.beyond;
}

-- ---- a task that is received, settled or tried

-- what is kept of buckets after an effect was received
abbrev pub buckets_with : Contents → ℕ → Carried → Outcome → List Bucket
buckets_with s from e outcome = changed_if (is_applied outcome) (target_of e) (change_by (s.commands + 1) from e) s.buckets

abbrev pub with_received : Contents → ℕ → Carried → Outcome → List (List (Task Prescribed)) → List (Option Noted) → Contents
with_received s from e outcome outbox inbox = record s {
  commands = s.commands + 1;
  clock = max (carried_n e) s.clock;
  buckets = buckets_with s from e outcome;
  outbox = outbox;
  inbox = inbox;
}

pub after-receive : (s : Contents) (h : History) (from number : ℕ) (e : Carried) (outcome : Outcome) (outbox : List (List (Task Prescribed)))
    (inbox : List (Option Noted)) → IsAfter s h → refusal s.regions s.region h (command.Receive from number e) ≡ None → outcome ≡ judge s.region h e
    → QueuesAfter s.region s.regions outbox inbox (command.Receive from number e ∷ h)
    → IsAfter (with_received s from e outcome outbox inbox) (command.Receive from number e ∷ h)
after-receive s h from number e outcome outbox inbox a accepted came queues = record {
  commands = ap (λ m. m + 1) a.commands ∙ add-one (length h);
  clock = ap (max (carried_n e)) a.clock;
  buckets = λ b. tells (is_applied outcome) b
      ∙ ap (λ t. cond t (changed_at (target_of e) (take_in (length (deeds s.region h) + 1) from e) (told s.region h) b) (told s.region h b))
      (ap is_applied came)
      ∙ sym (told-receive s.region h from number e b);
  count = counts (is_applied outcome) ∙ a.count;
  once = names (is_applied outcome) ∙ a.once;
  some = a.some;
  queues = queues;
  jobs = a.jobs;
  there = there-kept s.regions s.region h (command.Receive from number e) accepted a.there;
  beyond = beyond-kept s.regions s.region h (command.Receive from number e) a.some a.there a.beyond;
}
  where
    place : s.commands + 1 ≡ length (deeds s.region h) + 1
    place = ap (λ m. m + 1) (a.commands ∙ sym (length-deeds s.region h))

    here : Change
    here = change_by (s.commands + 1) from e

    tells : (t : Bool) (b : Name) → seen (record s { buckets = cond t (set_first (is_named (target_of e)) (changed here) s.buckets) s.buckets }) b
        ≡ cond t (changed_at (target_of e) (take_in (length (deeds s.region h) + 1) from e) (told s.region h) b) (told s.region h b)
    tells true b =
        told-set_first (target_of e) (changed here) (take_in (s.commands + 1) from e) (keeps_name here) (takes-in (s.commands + 1) from e) s.buckets b
        ∙ ap (λ p. changed_at (target_of e) (take_in p from e) (λ name. seen s name) b) place
        ∙ ap (λ v. cond (bytes_eq (target_of e) b) (option_map (take_in (length (deeds s.region h) + 1) from e) v) v) (a.buckets b)
    tells false b = a.buckets b

    counts : (t : Bool) → length (cond t (set_first (is_named (target_of e)) (changed here) s.buckets) s.buckets) ≡ length s.buckets
    counts true = length-set_first (is_named (target_of e)) (changed here) s.buckets
    counts false = refl

    names : (t : Bool) → is_once (names_of (cond t (set_first (is_named (target_of e)) (changed here) s.buckets) s.buckets)) ≡ is_once (names_of s.buckets)
    names true = ap is_once (names-set_first (target_of e) (changed here) (keeps_name here) s.buckets)
    names false = refl

abbrev pub with_tasks : Contents → List (List (Task Prescribed)) → List (Option Noted) → Contents
with_tasks s outbox inbox = record s { commands = s.commands + 1; outbox = outbox; inbox = inbox }

pub after-settle : (s : Contents) (h : History) (to number : ℕ) (outcome : Outcome) (outbox : List (List (Task Prescribed))) (inbox : List (Option Noted))
    → IsAfter s h → refusal s.regions s.region h (command.Settle to number outcome) ≡ None
    → QueuesAfter s.region s.regions outbox inbox (command.Settle to number outcome ∷ h)
    → IsAfter (with_tasks s outbox inbox) (command.Settle to number outcome ∷ h)
after-settle s h to number outcome outbox inbox a accepted queues = record {
  commands = ap (λ m. m + 1) a.commands ∙ add-one (length h);
  clock = a.clock ∙ zero_max (clock (deeds s.region h));
  buckets = λ b. a.buckets b ∙ sym (told-settle s.region h to number outcome b);
  count = a.count;
  once = a.once;
  some = a.some;
  queues = queues;
  jobs = a.jobs;
  there = there-kept s.regions s.region h (command.Settle to number outcome) accepted a.there;
  beyond = beyond-kept s.regions s.region h (command.Settle to number outcome) a.some a.there a.beyond;
}

pub after-attempt : (s : Contents) (h : History) (to number : ℕ) (outbox : List (List (Task Prescribed))) (inbox : List (Option Noted))
    → IsAfter s h → refusal s.regions s.region h (command.Attempt to number) ≡ None
    → QueuesAfter s.region s.regions outbox inbox (command.Attempt to number ∷ h) → IsAfter (with_tasks s outbox inbox) (command.Attempt to number ∷ h)
after-attempt s h to number outbox inbox a accepted queues = record {
  commands = ap (λ m. m + 1) a.commands ∙ add-one (length h);
  clock = a.clock ∙ zero_max (clock (deeds s.region h));
  buckets = λ b. a.buckets b ∙ sym (told-attempt s.region h to number b);
  count = a.count;
  once = a.once;
  some = a.some;
  queues = queues;
  jobs = a.jobs;
  there = there-kept s.regions s.region h (command.Attempt to number) accepted a.there;
  beyond = beyond-kept s.regions s.region h (command.Attempt to number) a.some a.there a.beyond;
}
