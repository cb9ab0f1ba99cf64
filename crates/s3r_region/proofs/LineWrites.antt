-- A state after a line of a job.
use Rattle.std.proofs.Common.{◌≡◌, ℕ, ◌+◌, ◌≤◌, max, Bool, List, ◌∷◌, Some, None, Ok, Err, refl, sym, ap, ◌∙◌, subst}
use Rattle.s3r_names.specs.declared.stamp.Stamp.{Stamp}
use Rattle.s3r_names.specs.declared.tags.Tag.{Tag}
use Rattle.s3r_names.specs.declared.version.VersionId.{VersionId}
use Rattle.s3r_record.specs.declared.command.Command.{Command}
use Rattle.s3r_record.specs.declared.command.Command.TheVariants as command
use Rattle.s3r_history.specs.Words.{Name, History}
use Rattle.s3r_history.specs.Past.{clock, n_of}
use Rattle.s3r_history.specs.Sending.{sends_by}
use Rattle.s3r_history.specs.Deeds.{deeds, deed}
use Rattle.s3r_history.specs.Deeds as history
use Rattle.s3r_history.specs.JobLines.{outcome_of_line, does_by, result_by}
use Rattle.s3r_history.specs.Told.{told}
use Rattle.s3r_history.specs.Accepts.{refusal}
use Rattle.s3r_history.proofs.ToldSteps.{changed_at, write_tags, write_hold}
use Rattle.s3r_history.proofs.LineTold.{told-line-tags, told-line-hold}
use Rattle.s3r_region.specs.declared.change.Change.TheVariants as change
use Rattle.s3r_region.specs.declared.job_line.LineWrite.TheVariants as writes
use Rattle.s3r_region.specs.Contents.{Contents}
use Rattle.s3r_region.specs.KeptJobs.{KeptJobs}
use Rattle.s3r_region.specs.KeptJobs as jobs
use Rattle.s3r_region.specs.After.{IsAfter, seen}
use Rattle.s3r_region.specs.Applies.{Applies}
use Rattle.s3r_region.specs.Changes.{next_stamp}
use Rattle.s3r_region.specs.Prescribing.{sends_of_tags, sends_of_hold}
use Rattle.s3r_region.specs.Writing.{tagged, held}
use Rattle.s3r_region.specs.JobLine.{Comes, as_outcome, after_line}
use Rattle.s3r_region.proofs.Steps.{after-change, stamp-is, writes_clock}
use Rattle.s3r_region.proofs.Prescribed.{tags-sends, hold-sends}
use Rattle.s3r_region.proofs.AboutJobs.{after-job, about-line}

-- the state after a line that writes tags
after-tags : (s : Contents) (h : History) (job line : ℕ) (name key : Name) (id : VersionId) (tags : List Tag) (kept : KeptJobs) → IsAfter s h
    → refusal s.regions s.region h (command.Line job line) ≡ None
    → (deed s.region h (deeds s.region h) (command.Line job line)).does ≡ command.SetTags name key id tags → s.clock ≤ (next_stamp s).n
    → jobs.IsAfter s.region kept (command.Line job line ∷ h) → IsAfter (record (tagged s name key id tags) { jobs = kept }) (command.Line job line ∷ h)
after-tags s h job line name key id tags kept a accepted does above still =
    after-change s h name (change.Tags key id tags (next_stamp s)) (write_tags key id (next_stamp s) tags) (command.Line job line) (next_stamp s).n
    (sends_of_tags s.outbox name key id tags (next_stamp s) (seen s name)) a accepted
    (record { settles = λ d. refl; tries = λ d. refl; receives = λ s. refl }) tt
    (λ x. refl)
    (λ b. told-line-tags s.region h job line name key id tags does b
    ∙ ap (λ (stamp : Stamp). changed_at name (write_tags key id stamp tags) (told s.region h) b) (sym (stamp-is s h a)))
    refl
    (writes_clock s h a above
    ∙ sym (ap (λ (c : Command). max (n_of c (history.next_stamp s.region (deeds s.region h))) (clock (deeds s.region h))) does))
    (tags-sends s h a name key id tags
    ∙ sym (ap (sends_by h (deeds s.region h) (history.next_stamp s.region (deeds s.region h)) None) does))
    kept still

-- or a hold
after-hold : (s : Contents) (h : History) (job line : ℕ) (name key : Name) (id : VersionId) (hold : Bool) (kept : KeptJobs) → IsAfter s h
    → refusal s.regions s.region h (command.Line job line) ≡ None
    → (deed s.region h (deeds s.region h) (command.Line job line)).does ≡ command.SetHold name key id hold → s.clock ≤ (next_stamp s).n
    → jobs.IsAfter s.region kept (command.Line job line ∷ h) → IsAfter (record (held s name key id hold) { jobs = kept }) (command.Line job line ∷ h)
after-hold s h job line name key id hold kept a accepted does above still =
    after-change s h name (change.Hold key id hold (next_stamp s)) (write_hold key id (next_stamp s) hold) (command.Line job line) (next_stamp s).n
    (sends_of_hold s.outbox name key id hold (next_stamp s) (seen s name)) a accepted
    (record { settles = λ d. refl; tries = λ d. refl; receives = λ s. refl }) tt
    (λ x. refl)
    (λ b. told-line-hold s.region h job line name key id hold does b
    ∙ ap (λ (stamp : Stamp). changed_at name (write_hold key id stamp hold) (told s.region h) b) (sym (stamp-is s h a)))
    refl
    (writes_clock s h a above
    ∙ sym (ap (λ (c : Command). max (n_of c (history.next_stamp s.region (deeds s.region h))) (clock (deeds s.region h))) does))
    (hold-sends s h a name key id hold
    ∙ sym (ap (sends_by h (deeds s.region h) (history.next_stamp s.region (deeds s.region h)) None) does))
    kept still

-- the state after a line that came to this, and of whose jobs this is kept
pub after-line : (s : Contents) (h : History) (job line : ℕ) (came : Comes) (kept : KeptJobs) → IsAfter s h
    → refusal s.regions s.region h (command.Line job line) ≡ None
    → as_outcome came ≡ outcome_of_line h (deeds s.region h) (command.Line job line) → s.clock ≤ (next_stamp s).n
    → jobs.IsAfter s.region kept (command.Line job line ∷ h) → IsAfter (record (after_line came s) { jobs = kept }) (command.Line job line ∷ h)
after-line s h job line None kept a accepted is above still =
    after-job s h (command.Line job line) kept a accepted (about-line s.region h job line (sym (ap (does_by (command.Line job line)) is))) still
after-line s h job line (Some (Ok (writes.Tags bucket key id tags))) kept a accepted is above still =
    after-tags s h job line bucket key id tags kept a accepted (sym (ap (does_by (command.Line job line)) is)) above still
after-line s h job line (Some (Ok (writes.Hold bucket key id hold))) kept a accepted is above still =
    after-hold s h job line bucket key id hold kept a accepted (sym (ap (does_by (command.Line job line)) is)) above still
after-line s h job line (Some (Err code)) kept a accepted is above still =
    after-job s h (command.Line job line) kept a accepted (about-line s.region h job line (sym (ap (does_by (command.Line job line)) is))) still

-- how far a line's state is known whatever it came to
pub record IsOneMore (s t : Contents) : Type 0 where
  pub count : t.commands ≡ s.commands + 1
  pub region : t.region ≡ s.region
  pub regions : t.regions ≡ s.regions
  pub jobs : t.jobs ≡ s.jobs

pub one-more : (s : Contents) (came : Comes) → IsOneMore s (after_line came s)
one-more s None = record { count = refl; region = refl; regions = refl; jobs = refl }
one-more s (Some (Ok (writes.Tags bucket key id tags))) = record { count = refl; region = refl; regions = refl; jobs = refl }
one-more s (Some (Ok (writes.Hold bucket key id hold))) = record { count = refl; region = refl; regions = refl; jobs = refl }
one-more s (Some (Err code)) = record { count = refl; region = refl; regions = refl; jobs = refl }

-- what a line does to a state
pub line-applied : (s mid t : Contents) (job line : ℕ) (came : Comes) → mid ≡ after_line came s → t ≡ record mid { jobs = t.jobs } → s.clock ≤ (next_stamp s).n
    → ((h : History) → IsAfter s h → as_outcome came ≡ outcome_of_line h (deeds s.region h) (command.Line job line))
    → ((h : History) → refusal s.regions s.region h (command.Line job line) ≡ None
    → (deed s.region h (deeds s.region h) (command.Line job line)).result ≡ result_by (as_outcome came)
    → jobs.IsAfter s.region mid.jobs h → jobs.IsAfter s.region t.jobs (command.Line job line ∷ h))
    → Applies (command.Line job line) s t
line-applied s mid t job line came written ends above comes goes_on = record {
  after = λ h a ok.
      let is = comes h a in
      let before : jobs.IsAfter s.region mid.jobs h =
      subst (λ (k : KeptJobs). jobs.IsAfter s.region k h) (sym (ap (λ (m : Contents). m.jobs) written ∙ (one-more s came).jobs)) a.jobs in
      subst (λ (u : Contents). IsAfter u (command.Line job line ∷ h)) (sym shape)
      (after-line s h job line came t.jobs a ok is above (goes_on h ok (sym (ap result_by is)) before));
  count = ap (λ (u : Contents). u.commands) shape ∙ (one-more s came).count;
  region = ap (λ (u : Contents). u.region) shape ∙ (one-more s came).region;
  regions = ap (λ (u : Contents). u.regions) shape ∙ (one-more s came).regions;
}
  where
    shape : t ≡ record (after_line came s) { jobs = t.jobs }
    shape = ends ∙ ap (λ (m : Contents). record m { jobs = t.jobs }) written
