-- What comes next among the jobs is accepted.
use Rattle.std.proofs.Common.{◌≡◌, ◌⊎◌, ℕ, ◌+◌, ◌<◌, ◌≤◌, ◌==◌, nat_lt, Bool, true, false, cond, not, ◌&&◌, ◌||◌, List, [], ◌∷◌, filter, length, find, Option, Some, None, is_some, is_none}
use Rattle.std.proofs.Common.{refl, inl, inr, ⊎_elim, sym, ap, subst, ◌∙◌, arith}
use Rattle.std.specs.Prelude.{◌^◌, IsTrue}
use Rattle.std.specs.List.{list_all}
use Rattle.std.specs.Option.{option_or, option_and_then}
use Rattle.std.proofs.lemmas.Bool.{and_parts, and_from, eqb-true, ltb-true, eq-eqb}
use Rattle.std.proofs.lemmas.Bool.Decides.{nat_tests}
use Rattle.std.proofs.lemmas.Option.{same_Some}
use Rattle.s3r_jobs.specs.declared.fault.Wanted.{Wanted}
use Rattle.s3r_jobs.specs.declared.fault.Wanted.TheVariants as wanted
use Rattle.s3r_jobs.specs.declared.state.JobState.{JobState}
use Rattle.s3r_jobs.specs.declared.state.JobState.TheVariants as states
use Rattle.s3r_jobs.specs.declared.turn.NextStep.{NextStep}
use Rattle.s3r_jobs.specs.declared.turn.NextStep.TheVariants as steps
use Rattle.s3r_jobs.specs.Facts.{JobFacts}
use Rattle.s3r_jobs.specs.Jobs.{is_job, is_unended, find_job}
use Rattle.s3r_jobs.specs.Lines.{is_free, may_start}
use Rattle.s3r_jobs.specs.Moves.{may_move, is_done, has_all_results}
use Rattle.s3r_jobs.specs.States.{is_new, is_preparing, is_pausing, is_active, is_waiting, is_stopping, has_ended}
use Rattle.s3r_jobs.specs.Threshold.{is_over}
use Rattle.s3r_jobs.specs.Turn.{lesser, lowest, running, Rank, is_better, rank, better_of, best, is_outdone, running_step, active_step, start_step, lowest_step}
use Rattle.s3r_record.specs.JobFields.{is_moved_to}
use Rattle.s3r_record.specs.Spelling.{IsCommand, IsJobId}
use Rattle.s3r_history.specs.Words.{History}
use Rattle.s3r_history.specs.Deeds.{deeds}
use Rattle.s3r_history.specs.Jobs.{jobs, jobs_at, split}
use Rattle.s3r_history.specs.Accepts.{Cause, first_of_causes, in_job, unless, has_move, leaves_one, wanted_by, of_move, of_preparing, of_line, of_finish, refusal, IsLawful}
use Rattle.s3r_history.proofs.JobLists.{are_rising}
use Rattle.s3r_history.proofs.JobSteps.{jobs-rising}
use Rattle.s3r_batches.specs.Turns.{step_after, command_of}
use Rattle.s3r_batches.specs.JobLaws.{StepsAreAccepted, StepsMeetLimits}
use Rattle.s3r_batches.proofs.Each.{Each, each-found, each-filter}
use Rattle.s3r_batches.proofs.Sound.{IsSound, sound}

-- ---- the job of a step

all_of_left : (p q : JobFacts → Bool) (js : List JobFacts) → list_all q js ≡ true → list_all q (filter p js) ≡ true
all_of_left p q [] all = refl
all_of_left p q (x ∷ xs) all = let parts = and_parts (q x) (list_all q xs) all in go (p x) parts.0 (all_of_left p q xs parts.1)
  where
    go : (t : Bool) → q x ≡ true → list_all q (filter p xs) ≡ true → list_all q (cond t (x ∷ filter p xs) (filter p xs)) ≡ true
    go true first behind = and_from _ _ first behind
    go false first behind = behind

rising_left : (p : JobFacts → Bool) (js : List JobFacts) → are_rising js ≡ true → are_rising (filter p js) ≡ true
rising_left p [] rising = refl
rising_left p (x ∷ xs) rising =
    let parts = and_parts (list_all (λ (other : JobFacts). nat_lt x.id other.id) xs) (are_rising xs) rising in
    go (p x) (all_of_left p (λ (other : JobFacts). nat_lt x.id other.id) xs parts.0) (rising_left p xs parts.1)
  where
    go : (t : Bool) → list_all (λ (other : JobFacts). nat_lt x.id other.id) (filter p xs) ≡ true → are_rising (filter p xs) ≡ true
        → are_rising (cond t (x ∷ filter p xs) (filter p xs)) ≡ true
    go true first behind = and_from _ _ first behind
    go false first behind = behind

-- the job of this id is such
pub record IsFound (P : JobFacts → Type 0) (js : List JobFacts) (id : ℕ) : Type 0 where
  pub job : JobFacts
  pub found : find (is_job id) js ≡ Some job
  pub id_is : job.id ≡ id
  pub such : P job

above_each : (k : ℕ) (js : List JobFacts) → list_all (λ (other : JobFacts). nat_lt k other.id) js ≡ true → Each (λ (j : JobFacts). k < j.id) js
above_each k [] all = tt
above_each k (x ∷ xs) all =
    let parts = and_parts (nat_lt k x.id) (list_all (λ (other : JobFacts). nat_lt k other.id) xs) all in
    (ltb-true k x.id parts.0, above_each k xs parts.1)

-- the first one
here : (P : JobFacts → Type 0) (x : JobFacts) (xs : List JobFacts) → P x → IsFound P (x ∷ xs) x.id
here P x xs such = record { job = x; found = rw (eq-eqb x.id x.id refl) refl; id_is = refl; such = such }

-- one behind a job of a lower id
behind : (P : JobFacts → Type 0) (x : JobFacts) (xs : List JobFacts) (id : ℕ) → are_rising (x ∷ xs) ≡ true → IsFound P xs id → IsFound P (x ∷ xs) id
behind P x xs id rising f = go (is_job id x) refl
  where
    above : x.id < f.job.id
    above =
        let parts = and_parts (list_all (λ (other : JobFacts). nat_lt x.id other.id) xs) (are_rising xs) rising in
        (each-found (λ (j : JobFacts). x.id < j.id) (is_job id) xs f.job (above_each x.id xs parts.0) f.found).0

    go : (t : Bool) → is_job id x ≡ t → IsFound P (x ∷ xs) id
    go true is = absurd (omega (arith, eqb-true x.id id is, above, f.id_is))
    go false is = record { job = f.job; found = rw is f.found; id_is = f.id_is; such = f.such }

abbrev Passes : (JobState → Bool) → JobFacts → Type 0
Passes test j = test j.state ≡ true

lowest_found : (test : JobState → Bool) (js : List JobFacts) (id : ℕ) → are_rising js ≡ true → lowest test js ≡ Some id → IsFound (Passes test) js id
lowest_found test [] id rising is = absurd cc
lowest_found test (x ∷ xs) id rising is = go (test x.state) refl is (λ k. lowest_found test xs k parts.1)
  where
    parts : (list_all (λ (other : JobFacts). nat_lt x.id other.id) xs ≡ true) × (are_rising xs ≡ true)
    parts = and_parts (list_all (λ (other : JobFacts). nat_lt x.id other.id) xs) (are_rising xs) rising

    least : (o : Option ℕ) → lowest test xs ≡ o → test x.state ≡ true → lesser x.id o ≡ Some id
        → ((k : ℕ) → lowest test xs ≡ Some k → IsFound (Passes test) xs k) → IsFound (Passes test) (x ∷ xs) id
    least None low passes e rest = subst (IsFound (Passes test) (x ∷ xs)) (same_Some x.id id e) (here (Passes test) x xs passes)
    least (Some k) low passes e rest = either (nat_lt k x.id) e
      where
        either : (t : Bool) → Some (cond t k x.id) ≡ Some id → IsFound (Passes test) (x ∷ xs) id
        either true e = subst (IsFound (Passes test) (x ∷ xs)) (same_Some k id e) (behind (Passes test) x xs k rising (rest k low))
        either false e = subst (IsFound (Passes test) (x ∷ xs)) (same_Some x.id id e) (here (Passes test) x xs passes)

    go : (t : Bool) → test x.state ≡ t → cond t (lesser x.id (lowest test xs)) (lowest test xs) ≡ Some id
        → ((k : ℕ) → lowest test xs ≡ Some k → IsFound (Passes test) xs k) → IsFound (Passes test) (x ∷ xs) id
    go true passes e rest = least (lowest test xs) refl passes e rest
    go false passes e rest = behind (Passes test) x xs id rising (rest id e)

best_found : (js : List JobFacts) (top : Rank) → are_rising js ≡ true → best js ≡ Some top → IsFound (Passes is_waiting) js top.1
best_found [] top rising is = absurd cc
best_found (x ∷ xs) top rising is = go (is_waiting x.state) refl is (λ k. best_found xs k parts.1)
  where
    parts : (list_all (λ (other : JobFacts). nat_lt x.id other.id) xs ≡ true) × (are_rising xs ≡ true)
    parts = and_parts (list_all (λ (other : JobFacts). nat_lt x.id other.id) xs) (are_rising xs) rising

    better : (o : Option Rank) → best xs ≡ o → is_waiting x.state ≡ true → Some (better_of (rank x) o) ≡ Some top
        → ((k : Rank) → best xs ≡ Some k → IsFound (Passes is_waiting) xs k.1) → IsFound (Passes is_waiting) (x ∷ xs) top.1
    better None most passes e rest =
        subst (λ (k : Rank). IsFound (Passes is_waiting) (x ∷ xs) k.1) (same_Some (rank x) top e) (here (Passes is_waiting) x xs passes)
    better (Some b) most passes e rest = either (is_better b (rank x)) e
      where
        either : (t : Bool) → Some (cond t b (rank x)) ≡ Some top → IsFound (Passes is_waiting) (x ∷ xs) top.1
        either true e = subst (λ (k : Rank). IsFound (Passes is_waiting) (x ∷ xs) k.1) (same_Some b top e)
            (behind (Passes is_waiting) x xs b.1 rising (rest b most))
        either false e =
            subst (λ (k : Rank). IsFound (Passes is_waiting) (x ∷ xs) k.1) (same_Some (rank x) top e) (here (Passes is_waiting) x xs passes)

    go : (t : Bool) → is_waiting x.state ≡ t → cond t (Some (better_of (rank x) (best xs))) (best xs) ≡ Some top
        → ((k : Rank) → best xs ≡ Some k → IsFound (Passes is_waiting) xs k.1) → IsFound (Passes is_waiting) (x ∷ xs) top.1
    go true passes e rest = better (best xs) refl passes e rest
    go false passes e rest = behind (Passes is_waiting) x xs top.1 rising (rest top e)

-- ---- what the job can do

begins : (j : JobFacts) (state : JobState) → is_new state ≡ true → (may_move j state states.Preparing &&
    (not (has_ended states.Preparing) && (not (is_preparing state) || false))) ≡ true
begins j states.New is = refl
begins j states.Preparing is = absurd cc
begins j states.Suspended is = absurd cc
begins j states.Ready is = absurd cc
begins j states.Active is = absurd cc
begins j states.Pausing is = absurd cc
begins j states.Paused is = absurd cc
begins j states.Cancelling is = absurd cc
begins j states.Failing is = absurd cc
begins j states.Complete is = absurd cc
begins j states.Cancelled is = absurd cc
begins j states.Failed is = absurd cc

rests : (j : JobFacts) (state : JobState) → is_pausing state ≡ true → (may_move j state states.Paused &&
    (not (has_ended states.Paused) && (not (is_preparing state) || false))) ≡ true
rests j states.New is = absurd cc
rests j states.Preparing is = absurd cc
rests j states.Suspended is = absurd cc
rests j states.Ready is = absurd cc
rests j states.Active is = absurd cc
rests j states.Pausing is = refl
rests j states.Paused is = absurd cc
rests j states.Cancelling is = absurd cc
rests j states.Failing is = absurd cc
rests j states.Complete is = absurd cc
rests j states.Cancelled is = absurd cc
rests j states.Failed is = absurd cc

goes_on : (j : JobFacts) (state : JobState) → is_waiting state ≡ true → (may_move j state states.Active &&
    (not (has_ended states.Active) && (not (is_preparing state) || false))) ≡ true
goes_on j states.New is = absurd cc
goes_on j states.Preparing is = absurd cc
goes_on j states.Suspended is = absurd cc
goes_on j states.Ready is = refl
goes_on j states.Active is = absurd cc
goes_on j states.Pausing is = absurd cc
goes_on j states.Paused is = refl
goes_on j states.Cancelling is = absurd cc
goes_on j states.Failing is = absurd cc
goes_on j states.Complete is = absurd cc
goes_on j states.Cancelled is = absurd cc
goes_on j states.Failed is = absurd cc

makes_way : (j : JobFacts) (state : JobState) → is_active state ≡ true → (may_move j state states.Pausing &&
    (not (has_ended states.Pausing) && (not (is_preparing state) || false))) ≡ true
makes_way j states.New is = absurd cc
makes_way j states.Preparing is = absurd cc
makes_way j states.Suspended is = absurd cc
makes_way j states.Ready is = absurd cc
makes_way j states.Active is = refl
makes_way j states.Pausing is = absurd cc
makes_way j states.Paused is = absurd cc
makes_way j states.Cancelling is = absurd cc
makes_way j states.Failing is = absurd cc
makes_way j states.Complete is = absurd cc
makes_way j states.Cancelled is = absurd cc
makes_way j states.Failed is = absurd cc

fails : (j : JobFacts) (state : JobState) → is_active state ≡ true → may_move j states.Active states.Failing ≡ true
    → (may_move j state states.Failing && (not (has_ended states.Failing) && (not (is_preparing state) || false))) ≡ true
fails j states.New is over = absurd cc
fails j states.Preparing is over = absurd cc
fails j states.Suspended is over = absurd cc
fails j states.Ready is over = absurd cc
fails j states.Active is over = and_from _ _ over refl
fails j states.Pausing is over = absurd cc
fails j states.Paused is over = absurd cc
fails j states.Cancelling is over = absurd cc
fails j states.Failing is over = absurd cc
fails j states.Complete is over = absurd cc
fails j states.Cancelled is over = absurd cc
fails j states.Failed is over = absurd cc

ends : (j : JobFacts) (state : JobState) → is_active state ≡ true → (has_all_results j && not (is_over j.results)) ≡ may_move j state states.Complete
ends j states.New is = absurd cc
ends j states.Preparing is = absurd cc
ends j states.Suspended is = absurd cc
ends j states.Ready is = absurd cc
ends j states.Active is = refl
ends j states.Pausing is = absurd cc
ends j states.Paused is = absurd cc
ends j states.Cancelling is = absurd cc
ends j states.Failing is = absurd cc
ends j states.Complete is = absurd cc
ends j states.Cancelled is = absurd cc
ends j states.Failed is = absurd cc

or_yes : (a : Bool) → ((a || true) && true) ≡ true
or_yes true = refl
or_yes false = refl

yes_or : (a b : Bool) → a ≡ true → ((a || b) && true) ≡ true
yes_or true b e = refl
yes_or false b e = absurd cc

can : (may : Bool) (want : Wanted) (j : JobFacts) → may ≡ true → first_of_causes (unless may want j) ≡ None
can true want j e = refl
can false want j e = absurd cc

-- ---- which step it is

chosen : {X : Type 0} (b : Bool) (x y : Option X) (z : X) → cond b x y ≡ Some z → ((b ≡ true) × (x ≡ Some z)) ⊎ ((b ≡ false) × (y ≡ Some z))
chosen true x y z e = inl (refl, e)
chosen false x y z e = inr (refl, e)

first_or : {X : Type 0} (x y : Option X) (z : X) → option_or x y ≡ Some z → (x ≡ Some z) ⊎ (y ≡ Some z)
first_or None y z e = inr e
first_or (Some x) y z e = inl e

both : {X Y : Type 0} (o : Option X) (f : X → Option Y) (z : Y) → option_and_then f o ≡ Some z → (x : X) × (o ≡ Some x) × (f x ≡ Some z)
both None f z e = absurd cc
both (Some x) f z e = (x, refl, e)

-- ---- each step

-- what is accepted of the job that is found is accepted
by_found : (js : List JobFacts) (P : JobFacts → Type 0) (id : ℕ) (more : JobFacts → List Cause) (f : IsFound P (filter is_unended js) id)
    → first_of_causes (more f.job) ≡ None → first_of_causes (in_job more (find_job id (split js))) ≡ None
by_found js P id more f ok = go (find (is_job id) (filter is_unended js)) f.found
  where
    go : (o : Option JobFacts) → o ≡ Some f.job → first_of_causes (in_job more (option_or o (find (is_job id) (split js).ended))) ≡ None
    go None e = absurd cc
    go (Some j) e = let same = same_Some j f.job e in subst (λ (x : JobFacts). first_of_causes (more x) ≡ None) (sym same) ok

-- The command of a step is accepted, and meets the limits of a record.
record Taken (n r : ℕ) (h : History) (step : NextStep) : Type 0 where
  accepted : refusal n r h (command_of step) ≡ None
  limits : length h < 2 ^ 64 → IsCommand (command_of step)

-- what holds of the job that is found
found_sound : (n r : ℕ) (h : History) (P : JobFacts → Type 0) (id : ℕ) → IsLawful n r h
    → (f : IsFound P (filter is_unended (jobs (deeds r h))) id) → IsSound h f.job
found_sound n r h P id lawful f = (each-found (IsSound h) (is_job id) (filter is_unended (jobs (deeds r h))) f.job
    (each-filter (IsSound h) is_unended (jobs (deeds r h)) (sound n r h lawful).jobs) f.found).0

job_id : (n r : ℕ) (h : History) (P : JobFacts → Type 0) (id : ℕ) → IsLawful n r h → IsFound P (filter is_unended (jobs (deeds r h))) id
    → length h < 2 ^ 64 → IsJobId id
job_id n r h P id lawful f room = let s = found_sound n r h P id lawful f in record {
  above = omega (arith, s.old.0, f.id_is);
  below = omega (arith, s.old.1, f.id_is, room);
}

step_is : (s step : NextStep) → Some s ≡ Some step → s ≡ step
step_is s step e = same_Some s step e

lowest_taken : (n r : ℕ) (h : History) (test : JobState → Bool) (step : ℕ → NextStep) (s : NextStep)
    → ((id : ℕ) → IsFound (Passes test) (filter is_unended (jobs (deeds r h))) id → Taken n r h (step id))
    → lowest_step test step (filter is_unended (jobs (deeds r h))) ≡ Some s → Taken n r h s
lowest_taken n r h test step s taken is =
    let b = both (lowest test (filter is_unended (jobs (deeds r h)))) (λ id. Some (step id)) s is in
    subst (Taken n r h) (step_is (step b.0) s b.2) (taken b.0
    (lowest_found test (filter is_unended (jobs (deeds r h))) b.0 (rising_left is_unended (jobs (deeds r h)) (jobs-rising r h)) b.1))

move_taken : (n r : ℕ) (h : History) (to : JobState) (P : JobFacts → Type 0) (id : ℕ) (f : IsFound P (filter is_unended (jobs (deeds r h))) id)
    → IsLawful n r h → has_move f.job to ≡ true → leaves_one (jobs_at (deeds r h)) to ≡ true → IsTrue (is_moved_to to) → Taken n r h (steps.Move id to)
move_taken n r h to P id f lawful has leaves may = record {
  accepted = by_found (jobs (deeds r h)) P id (of_move (jobs_at (deeds r h)) to) f
      (can (has_move f.job to && leaves_one (jobs_at (deeds r h)) to) (wanted_by to) f.job (and_from _ _ has leaves));
  limits = λ room. (job_id n r h P id lawful f room, may);
}

abbrev no_body : Option (List ℕ)
no_body = None

finish_taken : (n r : ℕ) (h : History) (P : JobFacts → Type 0) (id : ℕ) (f : IsFound P (filter is_unended (jobs (deeds r h))) id)
    → IsLawful n r h → ((is_done f.job || is_stopping f.job.state) && true) ≡ true → Taken n r h (steps.Finish id)
finish_taken n r h P id f lawful may = record {
  accepted = by_found (jobs (deeds r h)) P id (of_finish None) f
      (can ((is_done f.job || is_stopping f.job.state) && is_none no_body) wanted.Finish f.job may);
  limits = λ room. (job_id n r h P id lawful f room, tt);
}

prepare_taken : (n r : ℕ) (h : History) (id : ℕ) → IsLawful n r h → IsFound (Passes is_preparing) (filter is_unended (jobs (deeds r h))) id
    → Taken n r h (steps.Prepare id)
prepare_taken n r h id lawful f = record {
  accepted = by_found (jobs (deeds r h)) (Passes is_preparing) id of_preparing f (can (is_preparing f.job.state) wanted.Prepare f.job f.such);
  limits = λ room. job_id n r h (Passes is_preparing) id lawful f room;
}

stopping_taken : (n r : ℕ) (h : History) → IsLawful n r h → (id : ℕ) → IsFound (Passes is_stopping) (filter is_unended (jobs (deeds r h))) id
    → Taken n r h (steps.Finish id)
stopping_taken n r h lawful id f = finish_taken n r h (Passes is_stopping) id f lawful
    (subst (λ (b : Bool). ((is_done f.job || b) && true) ≡ true) (sym f.such) (or_yes (is_done f.job)))

not_all : (all over : Bool) → over ≡ false → (all && not over) ≡ false → all ≡ false
not_all true true e is = absurd cc
not_all true false e is = absurd cc
not_all false over e is = refl

-- a job that isn't done, nor fails, has a line that is left
more_lines : (j : JobFacts) → length j.results ≤ length j.lines → is_active j.state ≡ true → is_over j.results ≡ false → is_done j ≡ false
    → nat_lt (length j.results) (length j.lines) ≡ true
more_lines j fits active over done =
    let all : (length j.results == length j.lines) ≡ false =
    not_all (has_all_results j) (is_over j.results) over (ends j j.state active ∙ done) in
    grind (arith, nat_tests)

line_taken : (n r : ℕ) (h : History) (id : ℕ) → IsLawful n r h → (f : IsFound (Passes is_active) (filter is_unended (jobs (deeds r h))) id)
    → is_over f.job.results ≡ false → is_done f.job ≡ false → is_free f.job.turn ≡ true → Taken n r h (steps.Line id (length f.job.results + 1))
line_taken n r h id lawful f over done free =
    let s = found_sound n r h (Passes is_active) id lawful f in
    let more = more_lines f.job s.fits f.such over done in
    let may = and_from _ _ f.such (and_from _ _ free (and_from _ _ more (ap not over))) in
    let left : length f.job.results < length f.job.lines = ltb-true _ _ more in record {
      accepted = by_found (jobs (deeds r h)) (Passes is_active) id (of_line (length f.job.results + 1)) f
          (can (may_start f.job && (length f.job.results + 1 == length f.job.results + 1)) wanted.Line f.job
          (and_from (may_start f.job) _ may (eq-eqb (length f.job.results + 1) (length f.job.results + 1) refl)));
      limits = λ room. (job_id n r h (Passes is_active) id lawful f room, omega arith, omega (arith, left, s.few));
    }

-- a step of the job's own id is that of the id by which it was found
at_id : (n r : ℕ) (h : History) (P : JobFacts → Type 0) (id : ℕ) (f : IsFound P (filter is_unended (jobs (deeds r h))) id) (step : ℕ → NextStep) (s : NextStep)
    → Some (step f.job.id) ≡ Some s → Taken n r h (step id) → Taken n r h s
at_id n r h P id f step s is taken =
    subst (Taken n r h) (step_is (step f.job.id) s is) (subst (λ (k : ℕ). Taken n r h (step k)) (sym f.id_is) taken)

running_taken : (n r : ℕ) (h : History) (id : ℕ) (s : NextStep) → IsLawful n r h
    → (f : IsFound (Passes is_active) (filter is_unended (jobs (deeds r h))) id)
    → running_step (filter is_unended (jobs (deeds r h))) f.job ≡ Some s → Taken n r h s
running_taken n r h id s lawful f is =
    go (is_over f.job.results) (is_done f.job) (is_outdone f.job (filter is_unended (jobs (deeds r h)))) (is_free f.job.turn) refl refl refl is
  where
    go : (over done out free : Bool) → is_over f.job.results ≡ over → is_done f.job ≡ done → is_free f.job.turn ≡ free
        → cond over (Some (steps.Move f.job.id states.Failing)) (cond done (Some (steps.Finish f.job.id)) (cond out (Some (steps.Move f.job.id states.Pausing))
        (cond free (Some (steps.Line f.job.id (length f.job.results + 1))) None))) ≡ Some s
        → Taken n r h s
    go true done out free over ends idle e = at_id n r h (Passes is_active) id f (λ k. steps.Move k states.Failing) s e
        (move_taken n r h states.Failing (Passes is_active) id f lawful (fails f.job f.job.state f.such over) refl refl)
    go false true out free over ends idle e = at_id n r h (Passes is_active) id f steps.Finish s e
        (finish_taken n r h (Passes is_active) id f lawful (yes_or (is_done f.job) (is_stopping f.job.state) ends))
    go false false true free over ends idle e = at_id n r h (Passes is_active) id f (λ k. steps.Move k states.Pausing) s e
        (move_taken n r h states.Pausing (Passes is_active) id f lawful (makes_way f.job f.job.state f.such) refl refl)
    go false false false true over ends idle e = at_id n r h (Passes is_active) id f (λ k. steps.Line k (length f.job.results + 1)) s e
        (line_taken n r h id lawful f over ends idle)
    go false false false false over ends idle e = absurd cc

active_taken : (n r : ℕ) (h : History) (s : NextStep) → IsLawful n r h → active_step (filter is_unended (jobs (deeds r h))) ≡ Some s → Taken n r h s
active_taken n r h s lawful is =
    let low = both (lowest is_active (filter is_unended (jobs (deeds r h)))) _ s is in
    let f = lowest_found is_active (filter is_unended (jobs (deeds r h))) low.0 (rising_left is_unended (jobs (deeds r h)) (jobs-rising r h)) low.1 in
    let at = both (find (is_job low.0) (filter is_unended (jobs (deeds r h)))) _ s low.2 in
    let same : f.job ≡ at.0 = same_Some f.job at.0 (sym f.found ∙ at.1) in
    running_taken n r h low.0 s lawful f
    (subst (λ (j : JobFacts). running_step (filter is_unended (jobs (deeds r h))) j ≡ Some s) (sym same) at.2)

start_taken : (n r : ℕ) (h : History) (s : NextStep) → IsLawful n r h → start_step (filter is_unended (jobs (deeds r h))) ≡ Some s → Taken n r h s
start_taken n r h s lawful is = go (is_some (running (filter is_unended (jobs (deeds r h))))) refl is
  where
    go : (t : Bool) → is_some (running (filter is_unended (jobs (deeds r h)))) ≡ t
        → cond t None (option_and_then (λ (b : Rank). Some (steps.Move b.1 states.Active)) (best (filter is_unended (jobs (deeds r h))))) ≡ Some s
        → Taken n r h s
    go true some e = absurd cc
    go false some e =
        let top = both (best (filter is_unended (jobs (deeds r h)))) (λ (b : Rank). Some (steps.Move b.1 states.Active)) s e in
        let f = best_found (filter is_unended (jobs (deeds r h))) top.0 (rising_left is_unended (jobs (deeds r h)) (jobs-rising r h)) top.1 in
        subst (Taken n r h) (step_is (steps.Move top.0.1 states.Active) s top.2)
        (move_taken n r h states.Active (Passes is_waiting) top.0.1 f lawful (goes_on f.job f.job.state f.such) (ap not some) refl)

steps_taken : (n r : ℕ) (h : History) (step : NextStep) → IsLawful n r h → step_after r h ≡ Some step → Taken n r h step
steps_taken n r h step lawful is =
    ⊎_elim
    (λ e. lowest_taken n r h is_stopping steps.Finish step (stopping_taken n r h lawful) e)
    (λ e. ⊎_elim
    (λ e. lowest_taken n r h is_preparing steps.Prepare step
    (λ id f. prepare_taken n r h id lawful f) e)
    (λ e. ⊎_elim
    (λ e. lowest_taken n r h is_new (λ id. steps.Move id states.Preparing) step
    (λ id f. move_taken n r h states.Preparing (Passes is_new) id f lawful (begins f.job f.job.state f.such) refl refl) e)
    (λ e. ⊎_elim
    (λ e. lowest_taken n r h is_pausing (λ id. steps.Move id states.Paused) step
    (λ id f. move_taken n r h states.Paused (Passes is_pausing) id f lawful (rests f.job f.job.state f.such) refl refl) e)
    (λ e. ⊎_elim (λ e. active_taken n r h step lawful e) (λ e. start_taken n r h step lawful e) (first_or (active_step live) (start_step live) step e))
    (first_or (lowest_step is_pausing (λ id. steps.Move id states.Paused) live) _ step e))
    (first_or (lowest_step is_new (λ id. steps.Move id states.Preparing) live) _ step e))
    (first_or (lowest_step is_preparing steps.Prepare live) _ step e))
    (first_or (lowest_step is_stopping steps.Finish live) _ step is)
  where
    live : List JobFacts
    live = filter is_unended (jobs (deeds r h))

pub steps_are_accepted : StepsAreAccepted
steps_are_accepted n r h step lawful is = (steps_taken n r h step lawful is).accepted

pub steps_meet_limits : StepsMeetLimits
steps_meet_limits n r h step lawful room is = (steps_taken n r h step lawful is).limits room
