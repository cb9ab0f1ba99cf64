-- What each command does to a state.
use Rattle.std.proofs.Common.{◌≡◌, ℕ, ◌+◌, ◌≤◌, max, Bool, List, [], ◌∷◌, ◌++◌, Some, None, refl, sym, ap, ◌∙◌, subst}
use Rattle.s3r_names.specs.declared.outcome.Outcome.{Outcome}
use Rattle.s3r_names.specs.declared.stamp.Stamp.{Stamp}
use Rattle.s3r_names.specs.declared.tags.Tag.{Tag}
use Rattle.s3r_names.specs.declared.version.VersionId.{VersionId}
use Rattle.s3r_record.specs.declared.command.Command.{Command}
use Rattle.s3r_record.specs.declared.command.Command.TheVariants as command
use Rattle.s3r_rules.specs.declared.rule.Rule.{Rule}
use Rattle.s3r_history.specs.declared.sent.Sent.{Sent}
use Rattle.s3r_history.specs.Words.{Name, History}
use Rattle.s3r_history.specs.Past.{Entry, Carried, carried_n}
use Rattle.s3r_history.specs.Deeds.{version, marker, judge}
use Rattle.s3r_history.specs.Kept.{QueuesAfter}
use Rattle.s3r_region.specs.declared.bucket.Bucket.{Bucket}
use Rattle.s3r_region.specs.declared.change.Change.{Change}
use Rattle.s3r_region.specs.declared.change.Change.TheVariants as change
use Rattle.s3r_region.specs.Waiting.{Waiting, IsAccepted}
use Rattle.s3r_region.specs.Waiting as waiting
use Rattle.s3r_region.specs.KeptJobs.{KeptJobs}
use Rattle.s3r_region.specs.Contents.{Contents, is_named}
use Rattle.s3r_region.specs.After.{seen, IsAfter}
use Rattle.s3r_region.specs.Applies.{Applies}
use Rattle.s3r_region.specs.Changes.{without_first, new_bucket, with_change, next_stamp}
use Rattle.s3r_region.specs.Prescribing.{sends_at, sends_of_tags, sends_of_hold}
use Rattle.s3r_region.specs.Prescribing as said
use Rattle.s3r_region.proofs.Steps.{buckets_with, after-create, after-delete, after-switch, after-replicate, after-drop, after-put, after-marker, after-remove, after-tags, after-hold, after-receive, after-settle, after-attempt}
use Rattle.s3r_region.proofs.Prescribed.{put-sends, marker-sends, tags-sends, hold-sends}

-- a state of these parts
abbrev pub kept : (region commands clock : ℕ) → List Bucket → Waiting → KeptJobs → Contents
kept region commands clock buckets queues jobs = record {
  region = region;
  regions = queues.regions;
  commands = commands;
  clock = clock;
  buckets = buckets;
  outbox = queues.outbox;
  inbox = queues.inbox;
  jobs = jobs;
}

-- ---- a bucket more or less

pub created : (region commands clock : ℕ) (buckets new : List Bucket) (q : Waiting) (jobs : KeptJobs) (now : Contents) (name : Name) (locked : Bool)
    → kept region commands clock buckets q jobs ≡ now → new ≡ buckets ++ new_bucket name locked ∷ []
    → Applies (command.CreateBucket name locked) now (kept region (commands + 1) clock new q jobs)
created region commands clock buckets new q jobs now name locked view is =
    subst (λ (old : Contents). Applies (command.CreateBucket name locked) old (kept region (commands + 1) clock new q jobs)) view (record {
      after = λ h a ok. subst (λ bs. IsAfter (kept region (commands + 1) clock bs q jobs) (command.CreateBucket name locked ∷ h)) (sym is)
          (after-create (kept region commands clock buckets q jobs) h name locked a ok);
      count = refl;
      region = refl;
      regions = refl;
    })

pub deleted : (region commands clock : ℕ) (buckets new : List Bucket) (q : Waiting) (jobs : KeptJobs) (now : Contents) (name : Name)
    → kept region commands clock buckets q jobs ≡ now → new ≡ without_first (is_named name) buckets
    → Applies (command.DeleteBucket name) now (kept region (commands + 1) clock new q jobs)
deleted region commands clock buckets new q jobs now name view is =
    subst (λ (old : Contents). Applies (command.DeleteBucket name) old (kept region (commands + 1) clock new q jobs)) view (record {
      after = λ h a ok. subst (λ bs. IsAfter (kept region (commands + 1) clock bs q jobs) (command.DeleteBucket name ∷ h)) (sym is)
          (after-delete (kept region commands clock buckets q jobs) h name a ok);
      count = refl;
      region = refl;
      regions = refl;
    })

-- ---- a change of one bucket

-- what holds of the state that a change makes
changed-so : (s t : Contents) (c : Command) (name : Name) (ch : Change) (n : ℕ) (sends : List Sent) → t ≡ with_change s name ch n sends
    → Applies c s (with_change s name ch n sends) → Applies c s t
changed-so s t c name ch n sends is applies = subst (λ (u : Contents). Applies c s u) (sym is) applies

pub switched : (s t : Contents) (name : Name) (enabled : Bool) (n : ℕ) (sends : List Sent) → t ≡ with_change s name (change.Versioning enabled) n sends
    → sends ≡ []
    → n ≡ s.clock
    → Applies (command.SetVersioning name enabled) s t
switched s t name enabled n sends is none same =
    changed-so s t (command.SetVersioning name enabled) name (change.Versioning enabled) s.clock []
    (is ∙ ap (with_change s name (change.Versioning enabled) n) none ∙ ap (λ m. with_change s name (change.Versioning enabled) m []) same)
    (record { after = λ h a ok. after-switch s h name enabled a ok; count = refl; region = refl; regions = refl })

pub replicated : (s t : Contents) (name : Name) (config : List Rule) (regions : List ℕ) (n : ℕ) (sends : List Sent)
    → t ≡ with_change s name (change.Replication (Some (record { config = config; regions = regions }))) n sends → sends ≡ [] → n ≡ s.clock
    → Applies (command.SetReplication name config regions) s t
replicated s t name config regions n sends is none same =
    changed-so s t (command.SetReplication name config regions) name (change.Replication (Some (record { config = config; regions = regions }))) s.clock []
    (is ∙ ap (with_change s name (change.Replication (Some (record { config = config; regions = regions }))) n) none
    ∙ ap (λ m. with_change s name (change.Replication (Some (record { config = config; regions = regions }))) m []) same)
    (record { after = λ h a ok. after-replicate s h name config regions a ok; count = refl; region = refl; regions = refl })

pub dropped : (s t : Contents) (name : Name) (n : ℕ) (sends : List Sent) → t ≡ with_change s name (change.Replication None) n sends → sends ≡ []
    → n ≡ s.clock
    → Applies (command.DropReplication name) s t
dropped s t name n sends is none same =
    changed-so s t (command.DropReplication name) name (change.Replication None) s.clock []
    (is ∙ ap (with_change s name (change.Replication None) n) none ∙ ap (λ m. with_change s name (change.Replication None) m []) same)
    (record { after = λ h a ok. after-drop s h name a ok; count = refl; region = refl; regions = refl })

pub removed : (s t : Contents) (name key : Name) (id : VersionId) (n : ℕ) (sends : List Sent) → t ≡ with_change s name (change.Remove key id) n sends → sends
    ≡ []
    → n ≡ s.clock
    → Applies (command.Remove name key id) s t
removed s t name key id n sends is none same =
    changed-so s t (command.Remove name key id) name (change.Remove key id) s.clock []
    (is ∙ ap (with_change s name (change.Remove key id) n) none ∙ ap (λ m. with_change s name (change.Remove key id) m []) same)
    (record { after = λ h a ok. after-remove s h name key id a ok; count = refl; region = refl; regions = refl })

-- ---- a write, and what it sends

added : (s t : Contents) (c : Command) (name : Name) (made : Stamp → Entry) (row : Entry) (stamp : Stamp) (sends : List Sent)
    → t ≡ with_change s name (change.Add row) stamp.n sends → row ≡ made stamp → stamp ≡ next_stamp s
    → Applies c s (with_change s name (change.Add (made (next_stamp s))) (next_stamp s).n sends) → Applies c s t
added s t c name made row stamp sends is makes at applies =
    changed-so s t c name (change.Add (made (next_stamp s))) (next_stamp s).n sends
    (is ∙ ap (λ (r : Entry). with_change s name (change.Add r) stamp.n sends) makes
    ∙ ap (λ (st : Stamp). with_change s name (change.Add (made st)) st.n sends) at)
    applies

pub put : (s t : Contents) (name key : Name) (tags : List Tag) (hold : Bool) (class body : List ℕ) (row : Entry) (stamp : Stamp) (sends : List Sent)
    → t ≡ with_change s name (change.Add row) stamp.n sends → row ≡ version stamp key tags hold class body → stamp ≡ next_stamp s → s.clock ≤ stamp.n
    → sends ≡ sends_at s.outbox name (said.version row) (seen s name) → Applies (command.Put name key tags hold class body) s t
put s t name key tags hold class body row stamp sends is makes at above these =
    added s t (command.Put name key tags hold class body) name (λ st. version st key tags hold class body) row stamp sends is makes at (record {
      after = λ h a ok. after-put s h name key tags hold class body sends a ok (subst (λ (st : Stamp). s.clock ≤ st.n) at above)
          (these ∙ ap (λ (r : Entry). sends_at s.outbox name (said.version r) (seen s name)) (makes
          ∙ ap (λ (st : Stamp). version st key tags hold class body) at)
          ∙ put-sends s h a name key tags hold class body);
      count = refl;
      region = refl;
      regions = refl;
    })

pub marked : (s t : Contents) (name key : Name) (row : Entry) (stamp : Stamp) (sends : List Sent)
    → t ≡ with_change s name (change.Add row) stamp.n sends → row ≡ marker stamp key → stamp ≡ next_stamp s → s.clock ≤ stamp.n
    → sends ≡ sends_at s.outbox name (said.marker row) (seen s name) → Applies (command.Marker name key) s t
marked s t name key row stamp sends is makes at above these =
    added s t (command.Marker name key) name (λ st. marker st key) row stamp sends is makes at (record {
      after = λ h a ok. after-marker s h name key sends a ok (subst (λ (st : Stamp). s.clock ≤ st.n) at above)
          (these ∙ ap (λ (r : Entry). sends_at s.outbox name (said.marker r) (seen s name)) (makes ∙ ap (λ (st : Stamp). marker st key) at)
          ∙ marker-sends s h a name key);
      count = refl;
      region = refl;
      regions = refl;
    })

pub tagged : (s t : Contents) (name key : Name) (id : VersionId) (tags : List Tag) (stamp : Stamp) (sends : List Sent)
    → t ≡ with_change s name (change.Tags key id tags stamp) stamp.n sends → stamp ≡ next_stamp s → s.clock ≤ stamp.n
    → sends ≡ sends_of_tags s.outbox name key id tags stamp (seen s name) → Applies (command.SetTags name key id tags) s t
tagged s t name key id tags stamp sends is at above these =
    changed-so s t (command.SetTags name key id tags) name (change.Tags key id tags (next_stamp s)) (next_stamp s).n sends
    (is ∙ ap (λ (st : Stamp). with_change s name (change.Tags key id tags st) st.n sends) at) (record {
      after = λ h a ok. after-tags s h name key id tags sends a ok (subst (λ (st : Stamp). s.clock ≤ st.n) at above)
          (these ∙ ap (λ (st : Stamp). sends_of_tags s.outbox name key id tags st (seen s name)) at ∙ tags-sends s h a name key id tags);
      count = refl;
      region = refl;
      regions = refl;
    })

pub held : (s t : Contents) (name key : Name) (id : VersionId) (hold : Bool) (stamp : Stamp) (sends : List Sent)
    → t ≡ with_change s name (change.Hold key id hold stamp) stamp.n sends → stamp ≡ next_stamp s → s.clock ≤ stamp.n
    → sends ≡ sends_of_hold s.outbox name key id hold stamp (seen s name) → Applies (command.SetHold name key id hold) s t
held s t name key id hold stamp sends is at above these =
    changed-so s t (command.SetHold name key id hold) name (change.Hold key id hold (next_stamp s)) (next_stamp s).n sends
    (is ∙ ap (λ (st : Stamp). with_change s name (change.Hold key id hold st) st.n sends) at) (record {
      after = λ h a ok. after-hold s h name key id hold sends a ok (subst (λ (st : Stamp). s.clock ≤ st.n) at above)
          (these ∙ ap (λ (st : Stamp). sends_of_hold s.outbox name key id hold st (seen s name)) at ∙ hold-sends s h a name key id hold);
      count = refl;
      region = refl;
      regions = refl;
    })

-- ---- a task that is received, settled or tried

-- the number of regions stays
as_many : (region commands clock : ℕ) (buckets : List Bucket) (p q : Waiting) (jobs : KeptJobs) (h : History) → p.regions ≡ q.regions
    → IsAfter (record (kept region commands clock buckets q jobs) { outbox = p.outbox; inbox = p.inbox }) h
    → IsAfter (kept region commands clock buckets p jobs) h
as_many region commands clock buckets p q jobs h same a =
    subst (λ n. IsAfter (record (kept region commands clock buckets p jobs) { regions = n }) h) (sym same) a

queues-now : (r : ℕ) (p q : Waiting) (h : History) → p.regions ≡ q.regions → waiting.IsAfter r p h → QueuesAfter r q.regions p.outbox p.inbox h
queues-now r p q h same a = subst (λ n. QueuesAfter r n p.outbox p.inbox h) same a

pub received : (region commands clock : ℕ) (buckets new : List Bucket) (q p : Waiting) (jobs : KeptJobs) (now : Contents) (from number : ℕ) (e : Carried)
    (outcome : Outcome)
    (n : ℕ)
    → kept region commands clock buckets q jobs ≡ now → p.regions ≡ q.regions
    → ((r : ℕ) (h : History) (f : Carried) → IsAccepted q.regions r h (command.Receive from number f) → outcome ≡ judge r h f → waiting.IsAfter r q h
    → waiting.IsAfter r p (command.Receive from number f ∷ h))
    → new ≡ buckets_with (kept region commands clock buckets q jobs) from e outcome → n ≡ max (carried_n e) clock
    → ((h : History) → IsAfter now h → outcome ≡ judge now.region h e) → Applies (command.Receive from number e) now (kept region (commands + 1) n new p jobs)
received region commands clock buckets new q p jobs now from number e outcome n view many queues is at judges =
    subst (λ (old : Contents). Applies (command.Receive from number e) old (kept region (commands + 1) n new p jobs)) view (record {
      after = λ h a ok.
          let came = judges h (subst (λ (s : Contents). IsAfter s h) view a) ∙ ap (λ (s : Contents). judge s.region h e) (sym view) in
          as_many region (commands + 1) n new p q jobs (command.Receive from number e ∷ h) many
          (subst (λ bs. IsAfter (record (kept region (commands + 1) n bs q jobs) { outbox = p.outbox; inbox = p.inbox }) (command.Receive from number e ∷ h))
          (sym is)
          (subst (λ m. IsAfter (record (kept region (commands + 1) m (buckets_with (kept region commands clock buckets q jobs) from e outcome) q jobs)
          { outbox = p.outbox; inbox = p.inbox }) (command.Receive from number e ∷ h)) (sym at)
          (after-receive (kept region commands clock buckets q jobs) h from number e outcome p.outbox p.inbox a ok came
          (queues-now region p q (command.Receive from number e ∷ h) many (queues region h e ok came a.queues)))));
      count = refl;
      region = refl;
      regions = many;
    })

pub settled : (region commands clock : ℕ) (buckets : List Bucket) (q p : Waiting) (jobs : KeptJobs) (now : Contents) (to number : ℕ) (outcome : Outcome)
    → kept region commands clock buckets q jobs ≡ now → p.regions ≡ q.regions
    → ((r : ℕ) (h : History) → IsAccepted q.regions r h (command.Settle to number outcome) → waiting.IsAfter r q h
    → waiting.IsAfter r p (command.Settle to number outcome ∷ h))
    → Applies (command.Settle to number outcome) now (kept region (commands + 1) clock buckets p jobs)
settled region commands clock buckets q p jobs now to number outcome view many queues =
    subst (λ (old : Contents). Applies (command.Settle to number outcome) old (kept region (commands + 1) clock buckets p jobs)) view (record {
      after = λ h a ok. as_many region (commands + 1) clock buckets p q jobs (command.Settle to number outcome ∷ h) many
          (after-settle (kept region commands clock buckets q jobs) h to number outcome p.outbox p.inbox a ok
          (queues-now region p q (command.Settle to number outcome ∷ h) many (queues region h ok a.queues)));
      count = refl;
      region = refl;
      regions = many;
    })

pub tried : (region commands clock : ℕ) (buckets : List Bucket) (q p : Waiting) (jobs : KeptJobs) (now : Contents) (to number : ℕ)
    → kept region commands clock buckets q jobs ≡ now → p.regions ≡ q.regions
    → ((r : ℕ) (h : History) → IsAccepted q.regions r h (command.Attempt to number) → waiting.IsAfter r q h
    → waiting.IsAfter r p (command.Attempt to number ∷ h))
    → Applies (command.Attempt to number) now (kept region (commands + 1) clock buckets p jobs)
tried region commands clock buckets q p jobs now to number view many queues =
    subst (λ (old : Contents). Applies (command.Attempt to number) old (kept region (commands + 1) clock buckets p jobs)) view (record {
      after = λ h a ok. as_many region (commands + 1) clock buckets p q jobs (command.Attempt to number ∷ h) many
          (after-attempt (kept region commands clock buckets q jobs) h to number p.outbox p.inbox a ok
          (queues-now region p q (command.Attempt to number ∷ h) many (queues region h ok a.queues)));
      count = refl;
      region = refl;
      regions = many;
    })
