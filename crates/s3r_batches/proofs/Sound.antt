-- What holds of each job after every lawful history.
use Rattle.std.proofs.Common.{◌≡◌, ◌⊎◌, ℕ, ◌+◌, ◌<◌, ◌≤◌, ◌==◌, Bool, true, false, cond, not, ◌&&◌, ◌||◌, nat_lt, List, [], ◌∷◌, ◌++◌, map, length, find, Option, Some, None, is_none, Ok, Err, option_map}
use Rattle.std.proofs.Common.{refl, inl, inr, ⊎_elim, sym, ap, subst, ◌∙◌, arith, length-append}
use Rattle.std.proofs.lemmas.Bool.{and_parts, eqb-true, ltb-true}
use Rattle.std.proofs.lemmas.Option.{same_Some}
use Rattle.s3r_names.specs.declared.version.VersionId.{VersionId}
use Rattle.s3r_lines.specs.declared.object.ObjectRef.{ObjectRef}
use Rattle.s3r_jobs.specs.declared.fault.Wanted.{Wanted}
use Rattle.s3r_jobs.specs.declared.fault.Wanted.TheVariants as wanted
use Rattle.s3r_jobs.specs.declared.result.LineResult.{LineResult}
use Rattle.s3r_jobs.specs.declared.spec.JobSpec.{JobSpec}
use Rattle.s3r_jobs.specs.declared.state.JobState.{JobState}
use Rattle.s3r_jobs.specs.declared.state.JobState.TheVariants as states
use Rattle.s3r_jobs.specs.declared.token.LineTurn.{LineTurn}
use Rattle.s3r_jobs.specs.declared.token.LineTurn.TheVariants.{Free, Begun, Kept}
use Rattle.s3r_jobs.specs.Facts.{JobFacts, new_job}
use Rattle.s3r_jobs.specs.Jobs.{is_job, find_job}
use Rattle.s3r_jobs.specs.Lines.{is_free, may_start}
use Rattle.s3r_jobs.specs.Moves.{may_move, is_done, has_all_results}
use Rattle.s3r_jobs.specs.States.{is_unprepared, is_active, is_preparing, is_stopping, has_ended}
use Rattle.s3r_jobs.specs.Threshold.{is_over}
use Rattle.s3r_record.specs.declared.command.Command.{Command}
use Rattle.s3r_record.specs.declared.command.Command.TheVariants as command
use Rattle.s3r_history.specs.Words.{History}
use Rattle.s3r_history.specs.Past.{ReadLines}
use Rattle.s3r_history.specs.Deeds.{deeds, deed}
use Rattle.s3r_history.specs.declared.creation.Creation.{Creation}
use Rattle.s3r_history.specs.BucketView.{told_by}
use Rattle.s3r_history.specs.JobLines.{version_in, lines_after}
use Rattle.s3r_history.specs.Jobs.{jobs, jobs_at, creation}
use Rattle.s3r_history.specs.JobSteps.{move_to, set_priority, read_lines, did_line, finish}
use Rattle.s3r_history.specs.Accepts.{Cause, first_of_causes, in_job, unless, has_move, wanted_by, of_move, of_preparing, of_line, of_finish, IsLawful}
use Rattle.s3r_history.proofs.Versions.{length-deeds}
use Rattle.s3r_history.proofs.JobLists.{at_job, find-split}
use Rattle.s3r_history.proofs.JobSteps.{jobs-rising, jobs-create, jobs-move, jobs-priority, jobs-prepare, jobs-line, jobs-finish}
use Rattle.s3r_batches.specs.JobLaws.{Begins, ResultsAreOfLines, CompleteHasAll, LinesAreBegunOnce}
use Rattle.s3r_batches.proofs.Manifests.{few_in}
use Rattle.s3r_batches.proofs.StateLemmas.{early_before, not_ended, early_ended, whole_before, active_is, preparing_is, free_is}
use Rattle.s3r_batches.proofs.Each.{Each, each-at, each-more, each-snoc, each-found, each-changed}

-- how many lines wait for their result
abbrev pub waits : LineTurn → ℕ
waits Free = 0
waits Begun = 1
waits Kept = 1

pub record IsSound (h : History) (j : JobFacts) : Type 0 where
  pub old : (1 ≤ j.id) × (j.id ≤ length h)
  pub fits : length j.results ≤ length j.lines
  pub few : length j.lines ≤ 20000
  -- nothing is done before the lines are known
  pub early : is_unprepared j.state ≡ true → (length j.results ≡ 0) × (j.turn ≡ Free)
  pub whole : j.state ≡ states.Complete → length j.results ≡ length j.lines
  -- what was begun has its result, or waits for it
  pub begun : (line : ℕ) → Begins j.id line h → (1 ≤ line) × (line ≤ length j.results + waits j.turn)

-- ---- an accepted command about a job

-- it can do what is wanted
pub met : (may : Bool) (want : Wanted) (j : JobFacts) → first_of_causes (unless may want j) ≡ None → may ≡ true
met true want j e = refl
met false want j e = absurd cc

-- the causes of the job that is found are none
pub found-none : (r : ℕ) (h : History) (id : ℕ) (more : JobFacts → List Cause) (j : JobFacts) → find (is_job id) (jobs (deeds r h)) ≡ Some j
    → first_of_causes (in_job more (find_job id (jobs_at (deeds r h)))) ≡ None → first_of_causes (more j) ≡ None
found-none r h id more j found accepted =
    subst (λ (o : Option JobFacts). first_of_causes (in_job more o) ≡ None) (find-split id (jobs (deeds r h)) (jobs-rising r h) ∙ found) accepted

-- ---- no line is begun

begins_only : (job line : ℕ) (h : History) (c : Command) → ((job line : ℕ) → c ≡ command.Line job line → ⊥) → Begins job line (c ∷ h) → Begins job line h
begins_only job line h c none (inl is) = absurd (none job line is)
begins_only job line h c none (inr before) = before

-- so a job is sound that is as it was
kept : (h : History) (c : Command) (j : JobFacts) → ((job line : ℕ) → c ≡ command.Line job line → ⊥) → IsSound h j → IsSound (c ∷ h) j
kept h c j none s = record {
  old = (s.old.0, omega (arith, s.old.1));
  fits = s.fits;
  few = s.few;
  early = s.early;
  whole = s.whole;
  begun = λ line b. s.begun line (begins_only j.id line h c none b);
}

-- ---- command by command

moved : (h : History) (id : ℕ) (to : JobState) (j : JobFacts) → has_move j to ≡ true → IsSound h j → IsSound (command.MoveJob id to ∷ h) (move_to to j)
moved h id to j has s =
    let parts = and_parts (may_move j j.state to) _ has in
    let ended = and_parts (not (has_ended to)) _ parts.1 in record {
      old = (s.old.0, omega (arith, s.old.1));
      fits = s.fits;
      few = s.few;
      early = λ un. s.early (early_before j j.state to parts.0 un);
      whole = λ is. absurd (not_ended to ended.0 is);
      begun = λ line b. s.begun line (begins_only j.id line h (command.MoveJob id to) (λ job line is. cc) b);
    }

prioritized : (h : History) (id priority : ℕ) (j : JobFacts) → IsSound h j → IsSound (command.SetPriority id priority ∷ h) (set_priority priority j)
prioritized h id priority j s = record {
  old = (s.old.0, omega (arith, s.old.1));
  fits = s.fits;
  few = s.few;
  early = s.early;
  whole = s.whole;
  begun = λ line b. s.begun line (begins_only j.id line h (command.SetPriority id priority) (λ job line is. cc) b);
}

-- none was begun before the lines were known
none_begun : (h : History) (j : JobFacts) (line : ℕ) → is_unprepared j.state ≡ true → IsSound h j → Begins j.id line h → ⊥
none_begun h j line un s b =
    let early = s.early un in
    let at = s.begun line b in
    omega (arith, early.0, ap waits early.1, at.0, at.1)

prepared : (h : History) (id : ℕ) (read : Option ReadLines) (j : JobFacts)
    → ((lines : List ObjectRef) → read ≡ Some (Ok lines) → length lines ≤ 20000) → is_preparing j.state ≡ true → IsSound h j
    → IsSound (command.Prepare id ∷ h) (read_lines read j)
prepared h id None j few is s = kept h (command.Prepare id) j (λ job line is. cc) s
prepared h id (Some (Ok lines)) j few is s = record {
  old = (s.old.0, omega (arith, s.old.1));
  fits = omega arith;
  few = few lines refl;
  early = λ un. absurd (go j.spec.confirm un);
  whole = λ whole. absurd (ends j.spec.confirm whole);
  begun = λ line b. absurd (none_begun h j line (preparing_is j.state is) s (begins_only j.id line h (command.Prepare id) (λ job line is. cc) b));
}
  where
    go : (t : Bool) → is_unprepared (cond t states.Suspended states.Ready) ≡ true → ⊥
    go true un = cc
    go false un = cc

    ends : (t : Bool) → cond t states.Suspended states.Ready ≡ states.Complete → ⊥
    ends true whole = cc
    ends false whole = cc
prepared h id (Some (Err why)) j few is s = record {
  old = (s.old.0, omega (arith, s.old.1));
  fits = s.fits;
  few = s.few;
  early = λ un. absurd cc;
  whole = λ whole. absurd cc;
  begun = λ line b. absurd (none_begun h j line (preparing_is j.state is) s (begins_only j.id line h (command.Prepare id) (λ job line is. cc) b));
}

-- the line behind the results of a job that has more lines
pub record IsNextLine (j : JobFacts) (line : ℕ) : Type 0 where
  pub state : j.state ≡ states.Active
  pub turn : j.turn ≡ Free
  pub more : length j.results < length j.lines
  pub line_is : line ≡ length j.results + 1

pub next_line : (j : JobFacts) (line : ℕ) → (may_start j && (line == length j.results + 1)) ≡ true → IsNextLine j line
next_line j line may =
    let both = and_parts (may_start j) (line == length j.results + 1) may in
    let active = and_parts (is_active j.state) _ both.0 in
    let free = and_parts (is_free j.turn) _ active.1 in
    let more = and_parts (nat_lt (length j.results) (length j.lines)) _ free.1 in record {
      state = active_is j.state active.0;
      turn = free_is j.turn free.0;
      more = ltb-true (length j.results) (length j.lines) more.0;
      line_is = eqb-true line (length j.results + 1) both.1;
    }

line_is : (job line id at : ℕ) → command.Line job line ≡ command.Line id at → line ≡ at
line_is job line id at e = cc

did : (h : History) (id line : ℕ) (result : Option LineResult) (j : JobFacts) → IsNextLine j line → IsSound h j
    → IsSound (command.Line id line ∷ h) (did_line result j)
did h id line None j next s = record {
  old = (s.old.0, omega (arith, s.old.1));
  fits = s.fits;
  few = s.few;
  early = λ un. absurd (let no : is_unprepared states.Active ≡ true = subst (λ (t : JobState). is_unprepared t ≡ true) next.state un in cc);
  whole = λ is. absurd (let no : states.Active ≡ states.Complete = sym next.state ∙ is in cc);
  begun = begun;
}
  where
    begun : (at : ℕ) → Begins j.id at (command.Line id line ∷ h) → (1 ≤ at) × (at ≤ length j.results + 1)
    begun at (inl is) = let same = line_is id line j.id at is in (omega (arith, next.line_is, same), omega (arith, next.line_is, same))
    begun at (inr before) = let b = s.begun at before in (b.0, omega (arith, b.1, ap waits next.turn))
did h id line (Some result) j next s = record {
  old = (s.old.0, omega (arith, s.old.1));
  fits = omega (arith, next.more, length-append j.results (result ∷ []));
  few = s.few;
  early = λ un. absurd (let no : is_unprepared states.Active ≡ true = subst (λ (t : JobState). is_unprepared t ≡ true) next.state un in cc);
  whole = λ is. absurd (let no : states.Active ≡ states.Complete = sym next.state ∙ is in cc);
  begun = begun;
}
  where
    begun : (at : ℕ) → Begins j.id at (command.Line id line ∷ h) → (1 ≤ at) × (at ≤ length (j.results ++ result ∷ []) + 0)
    begun at (inl is) =
        let same = line_is id line j.id at is in
        (omega (arith, next.line_is, same), omega (arith, next.line_is, same, length-append j.results (result ∷ [])))
    begun at (inr before) =
        let b = s.begun at before in
        (b.0, omega (arith, b.1, ap waits next.turn, length-append j.results (result ∷ [])))

done_active : (j : JobFacts) → j.state ≡ states.Active → ((is_done j || is_stopping j.state) && true) ≡ true → has_all_results j ≡ true
done_active j is may = go (has_all_results j) (is_over j.results) (subst (λ (s : JobState). ((may_move j s states.Complete || is_stopping s) && true) ≡ true)
    is may)
  where
    go : (all over : Bool) → (((all && not over) || false) && true) ≡ true → all ≡ true
    go true over e = refl
    go false over e = absurd cc

finished : (h : History) (id : ℕ) (body : Option (List ℕ)) (j : JobFacts) → ((is_done j || is_stopping j.state) && is_none body) ≡ true → IsSound h j
    → IsSound (command.Finish id body ∷ h) (finish j)
finished h id body j may s = record {
  old = (s.old.0, omega (arith, s.old.1));
  fits = s.fits;
  few = s.few;
  early = λ un. s.early (early_ended j.state un);
  whole = λ is. ⊎_elim (λ active. eqb-true _ _ (done_active j active (whole body may))) (λ was. s.whole was) (whole_before j.state is);
  begun = λ line b. s.begun line (begins_only j.id line h (command.Finish id body) (λ job line is. cc) b);
}
  where
    whole : (o : Option (List ℕ)) → ((is_done j || is_stopping j.state) && is_none o) ≡ true → ((is_done j || is_stopping j.state) && true) ≡ true
    whole None e = e
    whole (Some bytes) e = absurd (let no : false ≡ true = (and_parts (is_done j || is_stopping j.state) false e).1 in cc)

-- a manifest that is read has so many lines at most
few_read : (r : ℕ) (h : History) (id : ℕ) (lines : List ObjectRef) → (deed r h (deeds r h) (command.Prepare id)).read ≡ Some (Ok lines) → length lines ≤ 20000
few_read r h id lines is = go (creation (deeds r h) id) is
  where
    go : (o : Option Creation) → option_map (lines_after h (deeds r h)) o ≡ Some (Ok lines) → length lines ≤ 20000
    go None e = absurd cc
    go (Some c) e = few_in c (version_in c.spec.manifest.key c.manifest (told_by h (deeds r h) c.spec.manifest.bucket)) lines
        (same_Some (lines_after h (deeds r h) c) (Ok lines) e)

-- ---- all of them

-- each job is sound, and a line that was begun is one of a job that was created
pub record AreSound (r : ℕ) (h : History) : Type 0 where
  pub jobs : Each (IsSound h) (jobs (deeds r h))
  pub lines : (id line : ℕ) → Begins id line h → id ≤ length h

-- the jobs are as they were
plain : (r : ℕ) (h : History) (c : Command) → jobs (deeds r (c ∷ h)) ≡ jobs (deeds r h) → ((job line : ℕ) → c ≡ command.Line job line → ⊥) → AreSound r h
    → AreSound r (c ∷ h)
plain r h c same none s = record {
  jobs = subst (Each (IsSound (c ∷ h))) (sym same)
      (each-more (IsSound h) (IsSound (c ∷ h)) (jobs (deeds r h)) (λ j sound. kept h c j none sound) s.jobs);
  lines = λ id line b. let at = s.lines id line (begins_only id line h c none b) in omega (arith, at);
}

-- one of them is changed
changed : (r : ℕ) (h : History) (c : Command) (id : ℕ) (f : JobFacts → JobFacts) → jobs (deeds r (c ∷ h)) ≡ map (at_job id f) (jobs (deeds r h))
    → ((j : JobFacts) → IsSound h j → (j.id ≡ id → ⊥) → IsSound (c ∷ h) j)
    → ((j : JobFacts) → find (is_job id) (jobs (deeds r h)) ≡ Some j → IsSound h j → IsSound (c ∷ h) (f j)) → Each (IsSound h) (jobs (deeds r h))
    → Each (IsSound (c ∷ h)) (jobs (deeds r (c ∷ h)))
changed r h c id f is left one each = subst (Each (IsSound (c ∷ h))) (sym is)
    (each-changed (IsSound h) (IsSound (c ∷ h)) id f (jobs (deeds r h)) (jobs-rising r h) each left one)

created : (r : ℕ) (h : History) (spec : JobSpec) (manifest : VersionId) → AreSound r h → AreSound r (command.CreateJob spec manifest ∷ h)
created r h spec manifest s = record {
  jobs = subst (Each (IsSound (c ∷ h))) (sym (jobs-create r h spec manifest))
      (each-snoc (IsSound (c ∷ h)) (jobs (deeds r h)) (new_job (length (deeds r h) + 1) spec)
      (each-more (IsSound h) (IsSound (c ∷ h)) (jobs (deeds r h)) (λ j sound. kept h c j (λ job line is. cc) sound) s.jobs) new);
  lines = λ id line b. let at = s.lines id line (begins_only id line h c (λ job line is. cc) b) in omega (arith, at);
}
  where
    c : Command
    c = command.CreateJob spec manifest

    new : IsSound (c ∷ h) (new_job (length (deeds r h) + 1) spec)
    new = record {
      old = (omega (arith), omega (arith, length-deeds r h));
      fits = omega (arith);
      few = omega (arith);
      early = λ un. (refl, refl);
      whole = λ is. absurd cc;
      begun = λ line b. absurd (
          let at = s.lines (length (deeds r h) + 1) line (begins_only (length (deeds r h) + 1) line h c (λ job line is. cc) b) in
          omega (arith, at, length-deeds r h)
          );
    }

-- the lines that were begun, but for a line more
same_lines : (r : ℕ) (h : History) (c : Command) → ((job line : ℕ) → c ≡ command.Line job line → ⊥) → AreSound r h → (id line : ℕ) → Begins id line (c ∷ h)
    → id ≤ length (c ∷ h)
same_lines r h c none s id line b = let at = s.lines id line (begins_only id line h c none b) in omega (arith, at)

no_job : (id : ℕ) (more : JobFacts → List Cause) (o : Option JobFacts) → first_of_causes (in_job more o) ≡ None → (o ≡ None) → ⊥
no_job id more None accepted none = cc
no_job id more (Some j) accepted none = cc

line_job : (job line id at : ℕ) → command.Line job line ≡ command.Line id at → job ≡ id
line_job job line id at e = cc

-- a line of another job
other_line : (r : ℕ) (h : History) (id line : ℕ) (j : JobFacts) → (j.id ≡ id → ⊥) → IsSound h j → IsSound (command.Line id line ∷ h) j
other_line r h id line j other s = record {
  old = (s.old.0, omega (arith, s.old.1));
  fits = s.fits;
  few = s.few;
  early = s.early;
  whole = s.whole;
  begun = begun;
}
  where
    begun : (at : ℕ) → Begins j.id at (command.Line id line ∷ h) → (1 ≤ at) × (at ≤ length j.results + waits j.turn)
    begun at (inl is) = absurd (other (sym (line_job id line j.id at is)))
    begun at (inr before) = s.begun at before

-- it is one of a job that is there
line_of : (r : ℕ) (h : History) (id line : ℕ) → AreSound r h → (o : Option JobFacts) → find (is_job id) (jobs (deeds r h)) ≡ o
    → first_of_causes (in_job (of_line line) (find_job id (jobs_at (deeds r h)))) ≡ None → (job at : ℕ) → Begins job at (command.Line id line ∷ h)
    → job ≤ length (command.Line id line ∷ h)
line_of r h id line s o found accepted job at (inr before) = let b = s.lines job at before in omega (arith, b)
line_of r h id line s None found accepted job at (inl is) =
    absurd (no_job id (of_line line) _ accepted (find-split id (jobs (deeds r h)) (jobs-rising r h) ∙ found))
line_of r h id line s (Some j) found accepted job at (inl is) =
    let there = each-found (IsSound h) (is_job id) (jobs (deeds r h)) j s.jobs found in
    omega (arith, there.0.old.1, eqb-true j.id id there.1, line_job id line job at is)

pub sound : (n r : ℕ) (h : History) → IsLawful n r h → AreSound r h
sound n r [] lawful = record { jobs = tt; lines = λ id line b. absurd b }
sound n r (command.CreateBucket name locked ∷ h) lawful = plain r h (command.CreateBucket name locked) refl (λ job line is. cc) (sound n r h lawful.2)
sound n r (command.DeleteBucket name ∷ h) lawful = plain r h (command.DeleteBucket name) refl (λ job line is. cc) (sound n r h lawful.2)
sound n r (command.SetVersioning name enabled ∷ h) lawful = plain r h (command.SetVersioning name enabled) refl (λ job line is. cc) (sound n r h lawful.2)
sound n r (command.SetReplication name config regions ∷ h) lawful = plain r h (command.SetReplication name config regions) refl (λ job line is. cc)
    (sound n r h lawful.2)
sound n r (command.DropReplication name ∷ h) lawful = plain r h (command.DropReplication name) refl (λ job line is. cc) (sound n r h lawful.2)
sound n r (command.Put b key tags hold class body ∷ h) lawful = plain r h (command.Put b key tags hold class body) refl (λ job line is. cc)
    (sound n r h lawful.2)
sound n r (command.Marker b key ∷ h) lawful = plain r h (command.Marker b key) refl (λ job line is. cc) (sound n r h lawful.2)
sound n r (command.Remove b key id ∷ h) lawful = plain r h (command.Remove b key id) refl (λ job line is. cc) (sound n r h lawful.2)
sound n r (command.SetTags b key id tags ∷ h) lawful = plain r h (command.SetTags b key id tags) refl (λ job line is. cc) (sound n r h lawful.2)
sound n r (command.SetHold b key id hold ∷ h) lawful = plain r h (command.SetHold b key id hold) refl (λ job line is. cc) (sound n r h lawful.2)
sound n r (command.Receive from number effect ∷ h) lawful = plain r h (command.Receive from number effect) refl (λ job line is. cc) (sound n r h lawful.2)
sound n r (command.Settle to number outcome ∷ h) lawful = plain r h (command.Settle to number outcome) refl (λ job line is. cc) (sound n r h lawful.2)
sound n r (command.Attempt to number ∷ h) lawful = plain r h (command.Attempt to number) refl (λ job line is. cc) (sound n r h lawful.2)
sound n r (command.CreateJob spec manifest ∷ h) lawful = created r h spec manifest (sound n r h lawful.2)
sound n r (command.MoveJob id to ∷ h) lawful = let s = sound n r h lawful.2 in record {
  jobs = changed r h (command.MoveJob id to) id (move_to to) (jobs-move r h id to) (λ j sound other. kept h _ j (λ job line is. cc) sound)
      (λ j found sound. moved h id to j (and_parts (has_move j to) _ (met _ (wanted_by to) j
      (found-none r h id (of_move (jobs_at (deeds r h)) to) j found lawful.1))).0 sound)
      s.jobs;
  lines = same_lines r h (command.MoveJob id to) (λ job line is. cc) s;
}
sound n r (command.SetPriority id priority ∷ h) lawful = let s = sound n r h lawful.2 in record {
  jobs = changed r h (command.SetPriority id priority) id (set_priority priority) (jobs-priority r h id priority)
      (λ j sound other. kept h _ j (λ job line is. cc) sound) (λ j found sound. prioritized h id priority j sound) s.jobs;
  lines = same_lines r h (command.SetPriority id priority) (λ job line is. cc) s;
}
sound n r (command.Prepare id ∷ h) lawful = let s = sound n r h lawful.2 in record {
  jobs = changed r h (command.Prepare id) id (read_lines (deed r h (deeds r h) (command.Prepare id)).read) (jobs-prepare r h id)
      (λ j sound other. kept h _ j (λ job line is. cc) sound)
      (λ j found sound. prepared h id _ j (few_read r h id) (met _ wanted.Prepare j (found-none r h id of_preparing j found lawful.1)) sound) s.jobs;
  lines = same_lines r h (command.Prepare id) (λ job line is. cc) s;
}
sound n r (command.Line id line ∷ h) lawful = let s = sound n r h lawful.2 in record {
  jobs = changed r h (command.Line id line) id (did_line (deed r h (deeds r h) (command.Line id line)).result) (jobs-line r h id line)
      (λ j sound other. other_line r h id line j other sound)
      (λ j found sound. did h id line _ j (next_line j line (met _ wanted.Line j (found-none r h id (of_line line) j found lawful.1))) sound) s.jobs;
  lines = line_of r h id line s (find (is_job id) (jobs (deeds r h))) refl lawful.1;
}
sound n r (command.Finish id body ∷ h) lawful = let s = sound n r h lawful.2 in record {
  jobs = changed r h (command.Finish id body) id finish (jobs-finish r h id body) (λ j sound other. kept h _ j (λ job line is. cc) sound)
      (λ j found sound. finished h id body j (met _ wanted.Finish j (found-none r h id (of_finish body) j found lawful.1)) sound) s.jobs;
  lines = same_lines r h (command.Finish id body) (λ job line is. cc) s;
}

-- ---- the laws

pub results_are_of_lines : ResultsAreOfLines
results_are_of_lines n r h j lawful there = (each-at (IsSound h) (jobs (deeds r h)) j (sound n r h lawful).jobs there).fits

pub complete_has_all : CompleteHasAll
complete_has_all n r h j lawful there is = (each-at (IsSound h) (jobs (deeds r h)) j (sound n r h lawful).jobs there).whole is

-- the line that is begun is none of those that were
pub lines_are_begun_once : LinesAreBegunOnce
lines_are_begun_once n r id line h lawful before = go (find (is_job id) (jobs (deeds r h))) refl
  where
    go : (o : Option JobFacts) → find (is_job id) (jobs (deeds r h)) ≡ o → ⊥
    go None found = no_job id (of_line line) _ lawful.1 (find-split id (jobs (deeds r h)) (jobs-rising r h) ∙ found)
    go (Some j) found =
        let there = each-found (IsSound h) (is_job id) (jobs (deeds r h)) j (sound n r h lawful.2).jobs found in
        let next = next_line j line (met _ wanted.Line j (found-none r h id (of_line line) j found lawful.1)) in
        let same : id ≡ j.id = sym (eqb-true j.id id there.1) in
        let at = there.0.begun line (subst (λ (k : ℕ). Begins k line h) same before) in
        omega (arith, at.1, next.line_is, ap waits next.turn)
