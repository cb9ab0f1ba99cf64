-- A request's turn: all regions are touched, and then its step is made; or it is one of the copier, or of a region's jobs.
use Rattle.std.proofs.Common.{◌≡◌, ℕ, ◌+◌, List, [], ◌++◌, length, Option, Some, None, Result, Ok, Err, refl, sym, ◌∙◌, ap, subst, inl, inr, ⊎_elim, append_assoc}
use Rattle.s3r_world.specs.Image.{Image}
use Rattle.s3r_world.specs.declared.world.Side.TheVariants as side
use Rattle.s3r_world.specs.Outside.{Outside, Counts, NoneFalls, Rises}
use Rattle.s3r_store.specs.declared.store.Store.{Store}
use Rattle.s3r_desk.specs.declared.fault.DeskFault.{DeskFault}
use Rattle.s3r_desk.specs.declared.fault.DeskFault.TheVariants as faults
use Rattle.s3r_desk.specs.declared.request.Request.{Request}
use Rattle.s3r_desk.specs.declared.request.Answer.{Answer}
use Rattle.s3r_desk.specs.declared.turning.Turn.{Turn}
use Rattle.s3r_desk.specs.declared.turning.Turn.TheVariants.{Step, Copy, Jobs, Work}
use Rattle.s3r_desk.specs.Events.{Events, history_at}
use Rattle.s3r_desk.specs.Steps.{Commit, Histories, step}
use Rattle.s3r_desk.specs.Keeping.{Keeps, AreRead}
use Rattle.s3r_desk.specs.Comparing.{disagreement}
use Rattle.s3r_desk.specs.Progress.{Happens}
use Rattle.s3r_desk.specs.Damage.{IsDamage}
use Rattle.s3r_desk.specs.Responds.{IsBelow, AreKnown, Comes, StepsUnless, FailsToTouch, IsStepTurn, turn_of, as_worked, TurnsBy, IsTurn, AsRead, Touches, Answers, Responds, HasCause}
use Rattle.s3r_desk.specs.declared.work_summary.WorkSummary.{WorkSummary}
use Rattle.s3r_desk.specs.Copying.{attempts_about, fails_at}
use Rattle.s3r_desk.specs.Works.{Reads}
use Rattle.s3r_desk.specs.Happened.{Happened, CopiesBetween, StepsJobs}
use Rattle.s3r_desk.specs.Worked.{Worked}
use Rattle.s3r_desk.proofs.CopyCounts.{fails_same}
use Rattle.s3r_desk.proofs.StepCounts.{step_counted}
use Rattle.s3r_desk.proofs.Stepping.{happens_then}
use Rattle.s3r_desk.proofs.Locations.{all_known}
use Rattle.s3r_desk.proofs.Disagreeing.{IsDisagreement, some_disagrees}

-- a step finds no damage
undamaged : (n : ℕ) (w : Image) (room : ℕ → ℕ) (at : Histories) (commits : List Commit) (reply : Answer) (events : Events) (result : Result Answer DeskFault)
    → Comes room at commits reply events result → IsDamage n w result
undamaged n w room at commits reply events (Ok a) comes = tt
undamaged n w room at commits reply events (Err (faults.Volume v)) comes = tt
undamaged n w room at commits reply events (Err (faults.Full v)) comes = tt
undamaged n w room at commits reply events (Err (faults.Damaged v offset)) comes = absurd comes
undamaged n w room at commits reply events (Err (faults.Disagree from to sent last settled received)) comes = absurd comes
undamaged n w room at commits reply events (Err faults.OutOfMemory) comes = tt

told_undamaged : (n : ℕ) (w : Image) (e : DeskFault) → IsDisagreement e → IsDamage {A = Answer} n w (Err e)
told_undamaged n w (faults.Volume v) is = absurd is
told_undamaged n w (faults.Full v) is = absurd is
told_undamaged n w (faults.Damaged v offset) is = absurd is
told_undamaged n w (faults.Disagree from to sent last settled received) is = tt
told_undamaged n w faults.OutOfMemory is = absurd is

-- no disagreement is damage, and a step finds none
steps_undamaged : (n m : ℕ) (w : Image) (room : ℕ → ℕ) (at : Histories) (request : Request) (events : Events) (result : Result Answer DeskFault)
    (o : Option DeskFault) → disagreement m at ≡ o → StepsUnless o m room at request events result → IsDamage n w result
steps_undamaged n m w room at request events result None is comes =
    undamaged n w room at (step m at request).commits (step m at request).reply events result comes
steps_undamaged n m w room at request events result (Some fault) is did =
    subst (λ (r : Result Answer DeskFault). IsDamage n w r) (sym did.0) (told_undamaged n w fault (some_disagrees m at fault is))

-- the fault is told of another type
fails_as : (A B : Type 0) (among : ℕ → Type 0) (events : Events) (e : DeskFault) → FailsToTouch {A = A} among events (Err e)
    → FailsToTouch {A = B} among events (Err e)
fails_as A B among events (faults.Volume v) f = f
fails_as A B among events (faults.Full v) f = f
fails_as A B among events (faults.Damaged v offset) f = f
fails_as A B among events (faults.Disagree from to sent last settled received) f = f
fails_as A B among events faults.OutOfMemory f = f

pub damage_as : (n : ℕ) (A B : Type 0) (w : Image) (e : DeskFault) → IsDamage {A = A} n w (Err e) → IsDamage {A = B} n w (Err e)
damage_as n A B w (faults.Volume v) d = tt
damage_as n A B w (faults.Full v) d = tt
damage_as n A B w (faults.Damaged v offset) d = d
damage_as n A B w (faults.Disagree from to sent last settled received) d = tt
damage_as n A B w faults.OutOfMemory d = tt

-- a step over all regions is the turn of a request that asks for one
as_turn : (n : ℕ) (room : ℕ → ℕ) (seen : Image) (before : Events) (request : Request) (result : Result Answer DeskFault) (events : Events)
    → turn_of request ≡ Step → IsStepTurn (Reads n seen) n room before request result events → IsDamage n seen result
    → IsTurn n room seen before request result events
as_turn n room seen before request result events is turn damage =
    subst (λ (t : Turn). TurnsBy t n room seen before request result events) (sym is) (turn, damage)

module _ (before : Events) (request : Request) (room : ℕ → ℕ) (a b : List Store) (old mid : Outside) (f g : Counts) (m : ℕ) (falls : NoneFalls f g)
    (step : turn_of request ≡ Step) where
  responds_by : (result : Result Answer DeskFault) (e : List Store) (new : Outside) (events : Events)
      → IsStepTurn (AsRead (length a) old) (length a) room before request result events → Keeps (events ++ before) e new → Happens (length a) events old new
      → IsDamage (length a) old.as_read result → HasCause m result f g → Responds before request result room a e old new f g
  responds_by result e new events turn keeps happens damage cause = record {
    events = events;
    turn = as_turn (length a) room old.as_read before request result events step turn damage;
    keeps = keeps;
    happens = happens;
    counted = step_counted (AsRead (length a) old) (length a) m room before request result events f g turn falls cause;
  }

  -- a touch failed
  pub responds_failed : (e : DeskFault) → Touches before (Err e) a b old mid → IsDamage {A = Answer} (length a) old.as_read (Err e)
      → HasCause {A = Answer} m (Err e) f g → Responds before request (Err e) room a b old mid f g
  responds_failed e touches damage cause = responds_by (Err e) b mid touches.touched (record {
    touched = touches.touched;
    rest = [];
    parts = refl;
    touches = touches.touches;
    steps = inr (refl, fails_as (Unit {0}) Answer (IsBelow (length a)) (touches.touched ++ before) e touches.fails);
  }) touches.keeps touches.happens damage cause

  -- the step was made
  module _ (touches : Touches before (Ok tt) a b old mid) where
    pub responds_stepped : (d : List Store) (new : Outside) (room' : ℕ → ℕ) (result : Result Answer DeskFault) → length b ≡ length a → room' ≡ room
        → AreRead b → Answers (touches.touched ++ before) request result room' b d mid new → HasCause m result f g
        → Responds before request result room a d old new f g
    responds_stepped d new room' result same rooms read did cause = responds_by result d new (did.rest ++ touches.touched) (record {
      touched = touches.touched;
      rest = did.rest;
      parts = refl;
      touches = touches.touches;
      steps = inl (
        known,
        subst (λ (n : ℕ). StepsUnless (disagreement n at) n room at request did.rest result) same
            (subst (λ (x : ℕ → ℕ). StepsUnless (disagreement (length b) at) (length b) x at request did.rest result) rooms did.steps),
      );
    })
        (subst (λ (l : Events). Keeps l d new) (sym (append_assoc did.rest touches.touched before)) did.keeps)
        (happens_then (length a) touches.touched did.rest old mid new touches.happens (subst (λ (n : ℕ). Happens n did.rest mid new) same did.happens))
        (steps_undamaged (length a) (length b) old.as_read room' at request did.rest result (disagreement (length b) at) refl did.steps) cause
      where
        at : Histories
        at = history_at (touches.touched ++ before)

        known : AreKnown (IsBelow (length a)) (touches.touched ++ before)
        known = subst (λ (n : ℕ). AreKnown (IsBelow n) (touches.touched ++ before)) same (all_known (touches.touched ++ before) b mid touches.keeps read)

-- ---- a turn of the copier, or of a region's jobs, or rounds of them

module _ (before : Events) (request : Request) (room : ℕ → ℕ) (result : Result Answer DeskFault) (a b : List Store) (old new : Outside) (f g : Counts) where
  pub responds_copied : (s d : ℕ) → turn_of request ≡ Copy s d
      → Happened (CopiesBetween (AsRead (length a) old) (length a) room s d before result f g) before a b old new → IsDamage (length a) old.as_read result
      → Responds before request result room a b old new f g
  responds_copied s d is did damage = record {
    events = did.events;
    turn = subst (λ (t : Turn). TurnsBy t (length a) room old.as_read before request result did.events) (sym is) (did.such.turn, damage);
    keeps = did.keeps;
    happens = did.happens;
    counted = did.such.counted;
  }

  pub responds_jobs : (r : ℕ) → turn_of request ≡ Jobs r
      → Happened (StepsJobs (AsRead (length a) old) (length a) room r before result f g) before a b old new → IsDamage (length a) old.as_read result
      → Responds before request result room a b old new f g
  responds_jobs r is did damage = record {
    events = did.events;
    turn = subst (λ (t : Turn). TurnsBy t (length a) room old.as_read before request result did.events) (sym is) (did.such.turn, damage);
    keeps = did.keeps;
    happens = did.happens;
    counted = did.such.counted;
  }

  pub responds_worked : (k : ℕ) → turn_of request ≡ Work k → (outcome : Result WorkSummary DeskFault) → result ≡ as_worked outcome
      → Happened (Worked (length a) room old.as_read k before outcome f g) before a b old new → Responds before request result room a b old new f g
  responds_worked k is outcome same did = record {
    events = did.events;
    turn = subst (λ (t : Turn). TurnsBy t (length a) room old.as_read before request result did.events) (sym is) (⊎_elim
        (λ w. inl (w.0, w.1, same ∙ ap as_worked w.2))
        (λ w. inr (same ∙ ap as_worked w.0, w.1))
        did.such.works);
    keeps = did.keeps;
    happens = did.happens;
    counted = λ v. subst (λ (r : Result Answer DeskFault). Rises (attempts_about v did.events + fails_at v r) (side.Volume v) f g) (sym same)
        (subst (λ (m : ℕ). Rises (attempts_about v did.events + m) (side.Volume v) f g) (fails_as_worked v outcome) (did.such.counted v));
  }
    where
      fails_as_worked : (v : ℕ) (outcome : Result WorkSummary DeskFault) → fails_at v outcome ≡ fails_at v (as_worked outcome)
      fails_as_worked v (Ok summary) = refl
      fails_as_worked v (Err fault) = fails_same WorkSummary Answer v fault
