-- The calls of a turn of a region's jobs, one after another.
use Rattle.std.proofs.Common.{◌≡◌, ℕ, ◌+◌, ◌<◌, List, [], ◌∷◌, ◌++◌, length, Option, Some, None, Result, Ok, Err, refl, sym, ◌∙◌, ap, subst, inl, inr, arith}
use Rattle.std.specs.Prelude.{slice_get, unwrap_or}
use Rattle.s3r_world.specs.declared.world.Side.TheVariants as side
use Rattle.s3r_world.specs.Outside.{Outside, Counts, NoneFalls}
use Rattle.s3r_world.specs.Moments.{rises_after}
use Rattle.s3r_jobs.specs.declared.turn.NextStep.{NextStep}
use Rattle.s3r_jobs.specs.declared.turn.NextStep.TheVariants as steps
use Rattle.s3r_record.specs.declared.command.Command.{Command}
use Rattle.s3r_history.specs.Words.{History}
use Rattle.s3r_history.specs.Accepts.{refusal}
use Rattle.s3r_batches.specs.Turns.{step_after, command_of}
use Rattle.s3r_store.specs.declared.store.Store.{Store}
use Rattle.s3r_store.specs.Knows.{IsStoreAfter}
use Rattle.s3r_desk.specs.declared.fault.DeskFault.{DeskFault}
use Rattle.s3r_desk.specs.declared.fault.DeskFault.TheVariants as faults
use Rattle.s3r_desk.specs.declared.job_outcome.JobOutcome.{JobOutcome}
use Rattle.s3r_desk.specs.declared.job_outcome.JobOutcome.TheVariants as outcomes
use Rattle.s3r_desk.specs.Events.{found, began, Events, history_at}
use Rattle.s3r_desk.specs.Keeping.{Keeps, AreNumbered}
use Rattle.s3r_desk.specs.Copying.{attempt_about, attempts_about, fails_at}
use Rattle.s3r_desk.specs.JobTurns.{state_after, came_to, StepComes, StepOrIdle, IsUnreadFault}
use Rattle.s3r_desk.specs.Responds.{AsRead, HasCause}
use Rattle.s3r_desk.specs.Happened.{Happened, IsTouch, IsCommit, IsReadAt, IsAcceptedAt, GoesOnAt, MakesStep, StepsOrIdles, JobsStep}
use Rattle.s3r_desk.proofs.Places.{get_there}
use Rattle.s3r_desk.proofs.Knowing.{known_found}
use Rattle.s3r_desk.proofs.CopyStores.{store_after}
use Rattle.s3r_desk.proofs.CopyCounts.{rises_fewer, cause_counted, attempts_then, fails_same, touched_none}
use Rattle.s3r_desk.proofs.CopyTurning.{happened_as, happened_none, happened_then}
use Rattle.s3r_desk.proofs.CopyWhole.{touched_any, still_none}

-- ---- a step

module _ (n : ℕ) (room : ℕ → ℕ) (r : ℕ) (before : Events) (a b : List Store) (x y : Outside) (step : NextStep)
    (accepted : refusal n r (history_at before r) (command_of step) ≡ None) where
  step_fails : (fault : DeskFault) (events : Events) → IsCommit {A = Unit {0}} room before r (command_of step) (Err fault) events
      → StepComes room r (history_at before r) step events (Err fault)
  step_fails (faults.Volume v) events did = did
  step_fails (faults.Full v) events did = did
  step_fails (faults.Damaged v offset) events did = did
  step_fails (faults.Disagree from to sent last settled received) events did = did
  step_fails faults.OutOfMemory events did = did

  pub step_ok : (outcome : JobOutcome) (p : Happened (IsCommit {A = Unit {0}} room before r (command_of step) (Ok tt)) before a b x y)
      → outcome ≡ came_to r (state_after r (command_of step ∷ history_at before r)) step
      → Happened (MakesStep n room r step before (Ok outcome)) before a b x y
  step_ok outcome p is = happened_as (IsCommit {A = Unit {0}} room before r (command_of step) (Ok tt)) (MakesStep n room r step before (Ok outcome)) before
      a b x y p (record { accepted = accepted; comes = (is, p.such.0, p.such.1) })

  pub step_err : (fault : DeskFault) → Happened (IsCommit {A = Unit {0}} room before r (command_of step) (Err fault)) before a b x y
      → Happened (MakesStep n room r step before (Err fault)) before a b x y
  step_err fault p = happened_as (IsCommit {A = Unit {0}} room before r (command_of step) (Err fault)) (MakesStep n room r step before (Err fault)) before
      a b x y p (record { accepted = accepted; comes = step_fails fault p.events p.such })

-- a store that went on was read
pub read_now : (a b : List Store) (r : ℕ) (c : Command) → r < length a → GoesOnAt a b r c → IsReadAt b r
read_now a b r c lt goes y get = let there = get_there a r lt in (goes there.0 there.1 y get).0

-- the region's history accepts what its store accepts
pub accepted_at : (before : Events) (stores : List Store) (w : Outside) → Keeps before stores w → AreNumbered stores → (r : ℕ) (c : Command)
    → r < length stores → IsReadAt stores r → IsAcceptedAt stores r c → refusal (length stores) r (history_at before r) c ≡ None
accepted_at before stores w keeps numbered r c lt read accepted =
    let there = get_there stores r lt in
    let h = history_at before r in
    subst (λ (m : ℕ). refusal m r h c ≡ None) (numbered.regions r there.0 there.1)
    (subst (λ (v : ℕ). refusal there.0.regions v h c ≡ None) (numbered.v r there.0 there.1)
    (accepted there.0 there.1 h (store_after before stores w keeps r there.0 there.1 (read there.0 there.1))))

-- what the store behind a step tells of it is what the history with its command tells
pub came_is : (before events : Events) (stores : List Store) (w : Outside) → Keeps (events ++ before) stores w → AreNumbered stores → (r : ℕ)
    → IsReadAt stores r → (s : Store) → slice_get stores r ≡ Some s → (c : Command) (h : History) → events ≡ found r (c ∷ h) ∷ began r c ∷ []
    → (outcome : JobOutcome) (step : NextStep) → ((k : History) → IsStoreAfter s k → outcome ≡ came_to r (state_after s.v k) step)
    → outcome ≡ came_to r (state_after r (c ∷ h)) step
came_is before events stores w keeps numbered r read s get c h same outcome step came =
    let k : History = history_at (events ++ before) r in
    let is : k ≡ c ∷ h = ap (λ (l : Events). history_at (l ++ before) r) same ∙ ap (λ (o : Option History). unwrap_or o [])
    (known_found r (c ∷ h) (began r c ∷ before)) in
    came k (store_after (events ++ before) stores w keeps r s get (read s get))
    ∙ ap (λ (v : ℕ). came_to r (state_after v k) step) (numbered.v r s get)
    ∙ ap (λ (g : History). came_to r (state_after r g) step) is

-- ---- the next step, or none

pub next_is : (before : Events) (stores : List Store) (w : Outside) → Keeps before stores w → AreNumbered stores → (r : ℕ) → IsReadAt stores r → (s : Store)
    → slice_get stores r ≡ Some s → (o : Option NextStep) → ((h : History) → IsStoreAfter s h → step_after s.v h ≡ o)
    → step_after r (history_at before r) ≡ o
next_is before stores w keeps numbered r read s get o told =
    subst (λ (v : ℕ). step_after v (history_at before r) ≡ o) (numbered.v r s get)
    (told (history_at before r) (store_after before stores w keeps r s get (read s get)))

module _ (n : ℕ) (room : ℕ → ℕ) (r : ℕ) (before : Events) (a : List Store) (x : Outside) where
  pub idle : Keeps before a x → step_after r (history_at before r) ≡ None → Happened (StepsOrIdles n room r before (Ok outcomes.Idle)) before a a x x
  idle keeps is = happened_none (StepsOrIdles n room r before (Ok outcomes.Idle)) before a x keeps
      (subst (λ (o : Option NextStep). StepOrIdle o n room r (history_at before r) [] (Ok outcomes.Idle)) (sym is) (refl, refl))

  pub step_made : (step : NextStep) (result : Result JobOutcome DeskFault) (b : List Store) (y : Outside) → step_after r (history_at before r) ≡ Some step
      → Happened (MakesStep n room r step before result) before a b x y → Happened (StepsOrIdles n room r before result) before a b x y
  step_made step result b y is p = happened_as (MakesStep n room r step before result) (StepsOrIdles n room r before result) before a b x y p
      (subst (λ (o : Option NextStep). StepOrIdle o n room r (history_at before r) p.events result) (sym is) p.such)

-- ---- a whole turn

-- a step notes no attempt
step_none : (v : ℕ) (step : NextStep) → attempt_about v (command_of step) ≡ 0
step_none v (steps.Finish job) = refl
step_none v (steps.Prepare job) = refl
step_none v (steps.Move job to) = refl
step_none v (steps.Line job line) = refl

comes_none : (room : ℕ → ℕ) (r v : ℕ) (h : History) (step : NextStep) (events : Events) (result : Result JobOutcome DeskFault)
    → StepComes room r h step events result → attempts_about v events ≡ 0
comes_none room r v h step events (Ok outcome) comes = let one = ap (attempts_about v) comes.2 in let none = step_none v step in omega (arith, one, none)
comes_none room r v h step events (Err (faults.Volume u)) comes =
    let one = ap (attempts_about v) comes.2 in let none = step_none v step in omega (arith, one, none)
comes_none room r v h step events (Err (faults.Full u)) comes = ap (attempts_about v) comes.2
comes_none room r v h step events (Err (faults.Damaged u offset)) comes = absurd comes
comes_none room r v h step events (Err (faults.Disagree from to sent last settled received)) comes = absurd comes
comes_none room r v h step events (Err faults.OutOfMemory) comes =
    let one = ap (attempts_about v) comes in let none = step_none v step in omega (arith, one, none)

or_idle_none : (o : Option NextStep) (n : ℕ) (room : ℕ → ℕ) (r v : ℕ) (h : History) (events : Events) (result : Result JobOutcome DeskFault)
    → StepOrIdle o n room r h events result → attempts_about v events ≡ 0
or_idle_none None n room r v h events result did = ap (attempts_about v) did.1
or_idle_none (Some step) n room r v h events result did = comes_none room r v h step events result did.comes

unread_fault : (P : ℕ → History → Type 0) (r : ℕ) (before : Events) (fault : DeskFault) (events : Events)
    → IsTouch {A = Unit {0}} P before r (Err fault) events → IsUnreadFault r (events ++ before) (Err fault)
unread_fault P r before (faults.Volume v) events did = (did.0, still_none before events r did.2 did.1)
unread_fault P r before (faults.Full v) events did = did
unread_fault P r before (faults.Damaged v offset) events did = (did.0, still_none before events r did.2 did.1)
unread_fault P r before (faults.Disagree from to sent last settled received) events did = did
unread_fault P r before faults.OutOfMemory events did = tt

module _ (n : ℕ) (room : ℕ → ℕ) (r : ℕ) (before : Events) (a b : List Store) (w x : Outside) (f g : Counts) (m : ℕ) (falls : NoneFalls f g) where
  -- the region couldn't be read
  pub turn_unread : (fault : DeskFault) → Happened (IsTouch {A = Unit {0}} (AsRead (length a) w) before r (Err fault)) before a b w x
      → HasCause {A = Unit {0}} m (Err fault) f g → Happened (JobsStep (AsRead (length a) w) n room r before (Err fault) f g) before a b w x
  turn_unread fault p cause =
      happened_as (IsTouch {A = Unit {0}} (AsRead (length a) w) before r (Err fault)) (JobsStep (AsRead (length a) w) n room r before (Err fault) f g) before
      a b w x p (record {
        turn = record {
          touched = p.events;
          rest = [];
          parts = refl;
          touches = touched_any {A = Unit {0}} (AsRead (length a) w) before r (Err fault) p.events p.such;
          comes = inr (refl, unread_fault (AsRead (length a) w) r before fault p.events p.such);
        };
        counted = λ v.
            rises_fewer (fails_at {A = Unit {0}} v (Err fault)) (attempts_about v p.events + fails_at {A = JobOutcome} v (Err fault)) (side.Volume v) f g
            (omega (
              arith,
              touched_none (AsRead (length a) w) before r v p.events
                  (touched_any {A = Unit {0}} (AsRead (length a) w) before r (Err fault) p.events p.such),
              fails_same (Unit {0}) JobOutcome v fault,
            ))
            (cause_counted {A = Unit {0}} m v (Err fault) f g falls cause);
      })

  -- it could
  pub turn_made : (p : Happened (IsTouch {A = Unit {0}} (AsRead (length a) w) before r (Ok tt)) before a b w x) (result : Result JobOutcome DeskFault)
      (c : List Store) (y : Outside) (h : Counts) (later : NoneFalls g h) (k l : ℕ) (room' : ℕ → ℕ) → k ≡ n → room' ≡ room → length b ≡ length a
      → Happened (StepsOrIdles k room' r (p.events ++ before) result) (p.events ++ before) b c x y → HasCause l result g h
      → Happened (JobsStep (AsRead (length a) w) n room r before result f h) before a c w y
  turn_made p result c y h later k l room' regions rooms same q' cause =
      let q = subst (λ (i : ℕ). Happened (StepsOrIdles i room r (p.events ++ before) result) (p.events ++ before) b c x y) regions
      (subst (λ (o : ℕ → ℕ). Happened (StepsOrIdles k o r (p.events ++ before) result) (p.events ++ before) b c x y) rooms q') in
      happened_then (IsTouch {A = Unit {0}} (AsRead (length a) w) before r (Ok tt)) (StepsOrIdles n room r (p.events ++ before) result)
      (JobsStep (AsRead (length a) w) n room r before result f h) before a b c w x y p q same (record {
        turn = record {
          touched = p.events;
          rest = q.events;
          parts = refl;
          touches = p.such.0;
          comes = inl (p.such.1, q.such);
        };
        counted = λ v.
            rises_fewer (fails_at v result) (attempts_about v (q.events ++ p.events) + fails_at v result) (side.Volume v) f h
            (omega (
              arith,
              attempts_then v q.events p.events,
              touched_none (AsRead (length a) w) before r v p.events p.such.0,
              or_idle_none (step_after r (history_at (p.events ++ before) r)) n room r v (history_at (p.events ++ before) r) q.events result q.such,
            ))
            (rises_after (fails_at v result) (side.Volume v) f g h falls (cause_counted l v result g h later cause));
      })
