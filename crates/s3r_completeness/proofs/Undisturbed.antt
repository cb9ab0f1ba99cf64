-- Why no turn of an undisturbed run has a fault.
use Rattle.std.proofs.Common.{◌≡◌, ℕ, zero, suc, ◌+◌, ◌<◌, ◌==◌, ◌&&◌, nat_lt, Bool, true, false, cond, List, [], ◌∷◌, ◌++◌, Option, Some, None, IfSome, IsSome, Result, Ok, Err, append_assoc, refl, sym, ◌∙◌, ap, subst, inl, ⊎_elim, eq-eqb, eqb-true, arith}
use Rattle.std.specs.List.{AllByRecursion}
use Rattle.std.proofs.lemmas.Bool.{and_parts}
use Rattle.std.proofs.lemmas.List.{append-nil}
use Rattle.std.proofs.lemmas.Bool.Decides.{nat_tests}
use Rattle.s3r_world.specs.Image.{Image}
use Rattle.s3r_world.specs.declared.world.Side.TheVariants as side
use Rattle.s3r_world.specs.Outside.{Counts, Rises}
use Rattle.s3r_jobs.specs.declared.turn.NextStep.{NextStep}
use Rattle.s3r_batches.specs.Turns.{step_after}
use Rattle.s3r_history.specs.Words.{History}
use Rattle.s3r_history.specs.Agree.{Agrees}
use Rattle.s3r_store.specs.Stands.{StandsFor}
use Rattle.s3r_store.proofs.Histories.{one_lawful_history}
use Rattle.s3r_desk.specs.declared.fault.DeskFault.{DeskFault}
use Rattle.s3r_desk.specs.declared.fault.DeskFault.TheVariants as faults
use Rattle.s3r_desk.specs.declared.request.Request.{Request}
use Rattle.s3r_desk.specs.declared.request.Answer.{Answer}
use Rattle.s3r_desk.specs.declared.copy_outcome.CopyOutcome.{CopyOutcome}
use Rattle.s3r_desk.specs.declared.job_outcome.JobOutcome.{JobOutcome}
use Rattle.s3r_desk.specs.declared.turning.Turn as turning
use Rattle.s3r_desk.specs.declared.turning.Turn.TheVariants as turns
use Rattle.s3r_desk.specs.declared.worker_turn.WorkerTurn.{WorkerTurn}
use Rattle.s3r_desk.specs.declared.worker_turn.WorkerTurn.TheVariants as worker
use Rattle.s3r_desk.specs.declared.worker_turn.TurnOutcome.{TurnOutcome}
use Rattle.s3r_desk.specs.JobTurns.{StepOrIdle, IsJobTurn}
use Rattle.s3r_desk.specs.Progress.{Progress}
use Rattle.s3r_desk.specs.Careful.{AreCareful}
use Rattle.s3r_desk.specs.Rounds.{rounds, summary, IsThere}
use Rattle.s3r_desk.specs.Works.{as_copied, as_stepped, IsWorkerTurn, Made, Then, AreMade, unless_fault, worked}
use Rattle.s3r_desk.specs.Events.{found, began, answered, Events, known, history_at}
use Rattle.s3r_desk.specs.Comparing.{disagreement}
use Rattle.s3r_desk.specs.Copying as copying
use Rattle.s3r_desk.specs.Copying.{IsTouched, IsCopyTurn, attempts_about}
use Rattle.s3r_desk.specs.Damage.{IsDamage}
use Rattle.s3r_desk.specs.Responds.{IsBelow, AreTouched, AreKnown, StepsUnless, IsStepTurn, copied, IsCopied, stepped, IsStepped, as_worked, IsWorked, TurnsBy, IsTurn, turn_of}
use Rattle.s3r_desk.proofs.Disagreeing.{IsDisagreement, some_disagrees, agreeing_is_not_told}
use Rattle.s3r_desk.proofs.Careful.{careful_then}
use Rattle.s3r_desk.proofs.Licensed.{known_there}
use Rattle.s3r_desk.proofs.RoundLemmas.{rounds_there}
use Rattle.s3r_desk.proofs.TurnsCareful.{worker_careful}
use Rattle.s3r_drain.proofs.Undisturbed.{rises-one, pair-agrees}
use Rattle.s3r_api.specs.declared.problem.Problem.{Problem}
use Rattle.s3r_api.specs.Request.{request_of}
use Rattle.s3r_service.specs.Turns.{Outcome, Occasion, request_came, Turn, IsStepOf, ComesTo, IsRight, AreTurns, events_of, fails_at, fails_in, failures, turns_with}
use Rattle.s3r_service.specs.Served.{IsSoundImage}
use Rattle.s3r_service.specs.Laws.{SoundStays, RunsAreCareful}
use Rattle.s3r_service.specs.Passing.{output_of}
use Rattle.s3r_service.proofs.Passing.{output_then, brings_then, brings_progress}
use Rattle.s3r_service.proofs.Silent.{worker_silent}
use Rattle.s3r_completeness.specs.Completeness.{NoneFailed, is_faultless, has_no_fault, comes_without_fault, IsUndisturbed, SoundRunsAnswerNoFault}

-- ---- what is known is what the volumes stand for

abbrev Seen : ℕ → Image → ℕ → History → Type 0
Seen n seen r h = StandsFor n r h (seen.volume r)

-- of each region that is known, up to n
abbrev AreSeen : ℕ → Image → Events → Type 0
AreSeen n seen events = (r : ℕ) (h : History) → r < n → known events r ≡ Some h → Seen n seen r h

found-seen : (n : ℕ) (seen : Image) (events : Events) (q : ℕ) (g : History) → Seen n seen q g → AreSeen n seen events → AreSeen n seen (found q g ∷ events)
found-seen n seen events q g is before r h lt e = go (q == r) refl e
  where
    go : (b : Bool) → (q == r) ≡ b → cond b (Some g) (known events r) ≡ Some h → Seen n seen r h
    go true same e = let that : g ≡ h = cc in subst (λ (x : History). Seen n seen r x) that (subst (λ (x : ℕ). Seen n seen x g) (eqb-true q r same) is)
    go false other e = before r h lt e

all-seen : (n : ℕ) (seen : Image) (before events : Events) → AreTouched (Seen n seen) (IsBelow n) before events → AreSeen n seen before
    → AreSeen n seen (events ++ before)
all-seen n seen before [] touched was = was
all-seen n seen before (found q g ∷ events) touched was =
    found-seen n seen (events ++ before) q g touched.1 (all-seen n seen before events touched.2 was)
all-seen n seen before (began r c ∷ events) touched was = absurd touched
all-seen n seen before (answered text ∷ events) touched was = absurd touched

one-seen : (n : ℕ) (seen : Image) (before : Events) (q : ℕ) (events : Events) → IsTouched (Seen n seen) before q events → AreSeen n seen before
    → AreSeen n seen (events ++ before)
one-seen n seen before q events touched was = ⊎_elim
    (λ none. subst (λ (l : Events). AreSeen n seen (l ++ before)) (sym none) was)
    (λ w. subst (λ (l : Events). AreSeen n seen (l ++ before)) (sym w.3) (found-seen n seen before q w.1 w.2 was))
    touched

module _ (n : ℕ) (seen : Image) (sound : IsSoundImage n seen) where
  -- so it is the history that agrees with the others
  one-of : (events : Events) → AreSeen n seen events → (r : ℕ) → r < n → IsSome (known events r) → history_at events r ≡ sound.at r
  one-of events are r lt some =
      one_lawful_history n r (seen.volume r) (history_at events r) (sound.at r) (are r (history_at events r) lt (known_there (known events r) some))
      (sound.stands r lt)

  pair-sound : (events : Events) → AreSeen n seen events → (s d : ℕ) → s < n → d < n → IsSome (known events s) → IsSome (known events d)
      → Agrees s d (history_at events s) (history_at events d)
  pair-sound events are s d ls ld some_s some_d =
      subst (λ (h : History). Agrees s d h (history_at events d)) (sym (one-of events are s ls some_s))
      (subst (λ (k : History). Agrees s d (sound.at s) k) (sym (one-of events are d ld some_d)) (sound.agree s d ls ld))

  undamaged : (v offset : ℕ) → v < n → IsDamage {A = Answer} n seen (Err (faults.Damaged v offset)) → ⊥
  undamaged v offset lt damage = damage.1 (sound.at v) (sound.stands v lt)

  -- ---- a step over all regions

  module _ (room : ℕ → ℕ) (before : Events) (was : AreSeen n seen before) where
    step-damage : (request : Request) (v offset : ℕ) (step : Events)
        → IsStepTurn (Seen n seen) n room before request (Err (faults.Damaged v offset)) step → v < n
    step-damage request v offset step turn = ⊎_elim
        (λ steps. go (disagreement n (history_at (turn.touched ++ before))) refl steps.1)
        (λ fails. fails.1.here)
        turn.steps
      where
        go : (o : Option DeskFault) → disagreement n (history_at (turn.touched ++ before)) ≡ o
            → StepsUnless o n room (history_at (turn.touched ++ before)) request turn.rest (Err (faults.Damaged v offset)) → v < n
        go None e comes = absurd comes
        go (Some fault) e comes =
            let same : faults.Damaged v offset ≡ fault = cc in
            absurd (subst IsDisagreement (sym same) (some_disagrees n (history_at (turn.touched ++ before)) fault e))

    step-agrees : (request : Request) (from to sent last settled received : ℕ) (step : Events)
        → IsStepTurn (Seen n seen) n room before request (Err (faults.Disagree from to sent last settled received)) step → ⊥
    step-agrees request from to sent last settled received step turn = ⊎_elim
        (λ steps. go (disagreement n (history_at (turn.touched ++ before))) (none steps.0) steps.1)
        (λ fails. fails.1)
        turn.steps
      where
        now : Events
        now = turn.touched ++ before

        none : AreKnown (IsBelow n) (turn.touched ++ before) → disagreement n (history_at (turn.touched ++ before)) ≡ None
        none all =
            let are = all-seen n seen before turn.touched turn.touches was in
            agreeing_is_not_told n (history_at (turn.touched ++ before))
            (λ s d ls ld. pair-sound (turn.touched ++ before) are s d ls ld (all s ls) (all d ld))

        go : (o : Option DeskFault) → o ≡ None
            → StepsUnless o n room (history_at (turn.touched ++ before)) request turn.rest (Err (faults.Disagree from to sent last settled received)) → ⊥
        go None e comes = comes
        go (Some fault) e comes = absurd cc

    -- ---- a turn of the copier

    module _ (s d : ℕ) (ls : s < n) (ld : d < n) where
      copy-damage : (v offset : ℕ) (step : Events) → IsCopyTurn (Seen n seen) room s d before (Err (faults.Damaged v offset)) step → v < n
      copy-damage v offset step turn = ⊎_elim
          (λ sender. subst (λ (x : ℕ). x < n) (sym sender.0) ls)
          (λ receiver. subst (λ (x : ℕ). x < n) (sym receiver.0) ld)
          turn.comes.1

      copy-agrees : (from to sent last settled received : ℕ) (step : Events)
          → IsCopyTurn (Seen n seen) room s d before (Err (faults.Disagree from to sent last settled received)) step → ⊥
      copy-agrees from to sent last settled received step turn =
          let now = (turn.receiver ++ turn.sender) ++ before in
          let first = one-seen n seen before s turn.sender turn.touches_sender was in
          let both = one-seen n seen (turn.sender ++ before) d turn.receiver turn.touches_receiver first in
          let are = subst (AreSeen n seen) (sym (append_assoc turn.receiver turn.sender before)) both in
          let none = pair-agrees s d (history_at now s) (history_at now d) (pair-sound now are s d ls ld turn.comes.1 turn.comes.2) in
          let clash : None ≡ Some (faults.Disagree from to sent last settled received) = sym none ∙ turn.comes.3 in
          absurd cc

    -- ---- a turn of a region's jobs

    module _ (r : ℕ) (lr : r < n) where
      jobs-damage : (v offset : ℕ) (step : Events) → IsJobTurn (Seen n seen) n room r before (Err (faults.Damaged v offset)) step → v < n
      jobs-damage v offset step turn = ⊎_elim
          (λ w. absurd (no-damage (step_after r (history_at (turn.touched ++ before) r)) v offset (history_at (turn.touched ++ before) r) turn.rest w.1))
          (λ unread. subst (λ (x : ℕ). x < n) (sym unread.1.0) lr)
          turn.comes
        where
          no-damage : (o : Option NextStep) (v offset : ℕ) (h : History) (rest : Events)
              → StepOrIdle o n room r h rest (Err (faults.Damaged v offset)) → ⊥
          no-damage None v offset h rest did = absurd cc
          no-damage (Some step) v offset h rest did = did.comes

      jobs-agrees : (from to sent last settled received : ℕ) (step : Events)
          → IsJobTurn (Seen n seen) n room r before (Err (faults.Disagree from to sent last settled received)) step → ⊥
      jobs-agrees from to sent last settled received step turn = ⊎_elim
          (λ w. none (step_after r (history_at (turn.touched ++ before) r)) (history_at (turn.touched ++ before) r) turn.rest w.1)
          (λ unread. unread.1)
          turn.comes
        where
          none : (o : Option NextStep) (h : History) (rest : Events)
              → StepOrIdle o n room r h rest (Err (faults.Disagree from to sent last settled received)) → ⊥
          none None h rest did = absurd cc
          none (Some step) h rest did = did.comes

    -- ---- a fault, as its turn has it

    copied-fault : (fault : DeskFault) (outcome : Result CopyOutcome DeskFault) → Err fault ≡ copied outcome → outcome ≡ Err fault
    copied-fault fault (Ok outcome) e = absurd cc
    copied-fault fault (Err other) e = let same : fault ≡ other = cc in ap (λ (x : DeskFault). Err x) (sym same)

    stepped-fault : (fault : DeskFault) (outcome : Result JobOutcome DeskFault) → Err fault ≡ stepped outcome → outcome ≡ Err fault
    stepped-fault fault (Ok outcome) e = absurd cc
    stepped-fault fault (Err other) e = let same : fault ≡ other = cc in ap (λ (x : DeskFault). Err x) (sym same)

    -- ---- each turn of its own

    copied-undamaged : (s d v offset : ℕ) (step : Events) (b : Bool) → (nat_lt s n && nat_lt d n) ≡ b
        → IsCopied (Seen n seen) room s d before (Err (faults.Damaged v offset)) step b → v < n
    copied-undamaged s d v offset step false e turn = absurd cc
    copied-undamaged s d v offset step true e turn =
        let parts = and_parts (nat_lt s n) (nat_lt d n) e in
        copy-damage s d (grind (arith, nat_tests)) (grind (arith, nat_tests)) v offset step
        (subst (λ (o : Result CopyOutcome DeskFault). IsCopyTurn (Seen n seen) room s d before o step)
        (copied-fault (faults.Damaged v offset) turn.0 turn.1) turn.2)

    stepped-undamaged : (r v offset : ℕ) (step : Events) (b : Bool) → nat_lt r n ≡ b
        → IsStepped (Seen n seen) n room r before (Err (faults.Damaged v offset)) step b → v < n
    stepped-undamaged r v offset step false e turn = absurd cc
    stepped-undamaged r v offset step true e turn = jobs-damage r (grind (arith, nat_tests)) v offset step
        (subst (λ (o : Result JobOutcome DeskFault). IsJobTurn (Seen n seen) n room r before o step)
        (stepped-fault (faults.Damaged v offset) turn.0 turn.1) turn.2)

    copied-agrees : (s d from to sent last settled received : ℕ) (step : Events) (b : Bool) → (nat_lt s n && nat_lt d n) ≡ b
        → IsCopied (Seen n seen) room s d before (Err (faults.Disagree from to sent last settled received)) step b → ⊥
    copied-agrees s d from to sent last settled received step false e turn = absurd cc
    copied-agrees s d from to sent last settled received step true e turn =
        let parts = and_parts (nat_lt s n) (nat_lt d n) e in
        copy-agrees s d (grind (arith, nat_tests)) (grind (arith, nat_tests)) from to sent last settled received step
        (subst (λ (o : Result CopyOutcome DeskFault). IsCopyTurn (Seen n seen) room s d before o step)
        (copied-fault (faults.Disagree from to sent last settled received) turn.0 turn.1) turn.2)

    stepped-agrees : (r from to sent last settled received : ℕ) (step : Events) (b : Bool) → nat_lt r n ≡ b
        → IsStepped (Seen n seen) n room r before (Err (faults.Disagree from to sent last settled received)) step b → ⊥
    stepped-agrees r from to sent last settled received step false e turn = absurd cc
    stepped-agrees r from to sent last settled received step true e turn = jobs-agrees r (grind (arith, nat_tests)) from to sent last settled received step
        (subst (λ (o : Result JobOutcome DeskFault). IsJobTurn (Seen n seen) n room r before o step)
        (stepped-fault (faults.Disagree from to sent last settled received) turn.0 turn.1) turn.2)

-- ---- turns one after another

-- such a fault may come where no volume is damaged and no regions disagree
abbrev is_mild : DeskFault → Bool
is_mild (faults.Volume v) = true
is_mild (faults.Full v) = true
is_mild (faults.Damaged v offset) = false
is_mild (faults.Disagree from to sent last settled received) = false
is_mild faults.OutOfMemory = true

copied-one : (fault : DeskFault) (outcome : Result CopyOutcome DeskFault) → Err fault ≡ as_copied outcome → outcome ≡ Err fault
copied-one fault (Ok outcome) e = absurd cc
copied-one fault (Err other) e = let same : fault ≡ other = cc in ap (λ (x : DeskFault). Err x) (sym same)

stepped-one : (fault : DeskFault) (outcome : Result JobOutcome DeskFault) → Err fault ≡ as_stepped outcome → outcome ≡ Err fault
stepped-one fault (Ok outcome) e = absurd cc
stepped-one fault (Err other) e = let same : fault ≡ other = cc in ap (λ (x : DeskFault). Err x) (sym same)

module _ (n : ℕ) (now : Image) (sound : IsSoundImage n now) (room : ℕ → ℕ) (before : Events) (was : AreSeen n now before) where
  copy-mild : (s d : ℕ) → s < n → d < n → (fault : DeskFault) (events : Events) → IsCopyTurn (Seen n now) room s d before (Err fault) events
      → IsDamage {A = TurnOutcome} n now (Err fault) → is_mild fault ≡ true
  copy-mild s d ls ld (faults.Volume v) events turn damage = refl
  copy-mild s d ls ld (faults.Full v) events turn damage = refl
  copy-mild s d ls ld (faults.Damaged v offset) events turn damage =
      absurd (undamaged n now sound v offset (copy-damage n now sound room before was s d ls ld v offset events turn) damage)
  copy-mild s d ls ld (faults.Disagree from to sent last settled received) events turn damage =
      absurd (copy-agrees n now sound room before was s d ls ld from to sent last settled received events turn)
  copy-mild s d ls ld faults.OutOfMemory events turn damage = refl

  jobs-mild : (r : ℕ) → r < n → (fault : DeskFault) (events : Events) → IsJobTurn (Seen n now) n room r before (Err fault) events
      → IsDamage {A = TurnOutcome} n now (Err fault) → is_mild fault ≡ true
  jobs-mild r lr (faults.Volume v) events turn damage = refl
  jobs-mild r lr (faults.Full v) events turn damage = refl
  jobs-mild r lr (faults.Damaged v offset) events turn damage =
      absurd (undamaged n now sound v offset (jobs-damage n now sound room before was r lr v offset events turn) damage)
  jobs-mild r lr (faults.Disagree from to sent last settled received) events turn damage =
      absurd (jobs-agrees n now sound room before was r lr from to sent last settled received events turn)
  jobs-mild r lr faults.OutOfMemory events turn damage = refl

  worker-mild : (turn : WorkerTurn) → IsThere n turn → (fault : DeskFault) (events : Events) → IsWorkerTurn turn n room now before (Err fault) events
      → IsDamage {A = TurnOutcome} n now (Err fault) → is_mild fault ≡ true
  worker-mild (worker.Copy s d) there fault events did damage = copy-mild s d there.0 there.1 fault events
      (subst (λ (o : Result CopyOutcome DeskFault). IsCopyTurn (Seen n now) room s d before o events) (copied-one fault did.0 did.1) did.2) damage
  worker-mild (worker.Jobs r) there fault events did damage = jobs-mild r there fault events
      (subst (λ (o : Result JobOutcome DeskFault). IsJobTurn (Seen n now) n room r before o events) (stepped-one fault did.0 did.1) did.2) damage

-- what such events lead to is sound, and what is known of it is what its volumes stand for
abbrev StaySound : ℕ → Image → Events → Type 0
StaySound n start before = (past : Events) (now : Image) → AreCareful n before past → output_of past ≡ [] → Progress n past start now
    → IsSoundImage n now × AreSeen n now (past ++ before)

module _ (n : ℕ) (room : ℕ → ℕ) (start : Image) (before : Events) (stay : StaySound n start before) where
  made-mild : (turns : List WorkerTurn) (past : Events) (made : Made) (events : Events) → AllByRecursion (IsThere n) turns → AreCareful n before past
      → output_of past ≡ [] → AreMade turns n room start before past made events → IfSome made.fault (λ fault. is_mild fault ≡ true)
  made-mild [] past made events there careful silent did =
      subst (λ (m : Made). IfSome m.fault (λ fault. is_mild fault ≡ true)) (sym did.0) tt
  made-mild (turn ∷ turns) past made events there careful silent did =
      behind did.3 did.4
      (λ rest ahead one none. made-mild turns (did.2 ++ past) rest ahead there.1 (careful_then n before past did.2 careful one)
      (output_then did.2 past ∙ ap (λ (l : List ℕ). l ++ output_of did.2) silent ∙ none)) did.5
    where
      behind : (result : Result TurnOutcome DeskFault) → IsWorkerTurn turn n room did.0 (past ++ before) result did.2
          → ((rest : Made) (ahead : Events) → AreCareful n (past ++ before) did.2 → output_of did.2 ≡ []
          → AreMade turns n room start before (did.2 ++ past) rest ahead → IfSome rest.fault (λ fault. is_mild fault ≡ true))
          → Then n did.0 result did.2 made events (λ rest ahead. AreMade turns n room start before (did.2 ++ past) rest ahead)
          → IfSome made.fault (λ fault. is_mild fault ≡ true)
      behind (Ok outcome) is all t =
          subst (λ (m : Made). IfSome m.fault (λ fault. is_mild fault ≡ true)) (sym t.2)
          (all t.0 t.1 (worker_careful turn n room did.0 (past ++ before) (Ok outcome) did.2 there.0 is)
          (worker_silent turn n room did.0 (past ++ before) (Ok outcome) did.2 is) t.4)
      behind (Err fault) is all t =
          let here = stay past did.0 careful silent did.1 in
          subst (λ (m : Made). IfSome m.fault (λ fault. is_mild fault ≡ true)) (sym t.0)
          (worker-mild n did.0 here.0 room (past ++ before) here.1 turn there.0 fault did.2 is t.2)

  worked-mild : (k : ℕ) (fault : DeskFault) (events : Events) → IsWorked n room start k before (Err fault) events → is_mild fault ≡ true
  worked-mild k fault events did = ⊎_elim
      (λ w. by-fault w.0.fault w.0 refl (made-mild (rounds k n) [] w.0 events (rounds_there k n) tt refl w.1) w.2)
      (λ none. let same : fault ≡ faults.OutOfMemory = cc in ap is_mild same)
      did
    where
      by-fault : (o : Option DeskFault) (made : Made) → made.fault ≡ o → IfSome made.fault (λ fault. is_mild fault ≡ true)
          → Err fault ≡ as_worked (worked k made) → is_mild fault ≡ true
      by-fault o made is mild e = go o (subst (λ (x : Option DeskFault). IfSome x (λ fault. is_mild fault ≡ true)) is mild)
          (e ∙ ap (λ (x : Option DeskFault). as_worked (unless_fault x (summary k made.outcomes))) is)
        where
          go : (x : Option DeskFault) → IfSome x (λ fault. is_mild fault ≡ true) → Err fault ≡ as_worked (unless_fault x (summary k made.outcomes))
              → is_mild fault ≡ true
          go None mild e = absurd cc
          go (Some other) mild e = let same : fault ≡ other = cc in ap is_mild same ∙ mild

-- ---- each turn

module _ (n : ℕ) (seen : Image) (sound : IsSoundImage n seen) (room : ℕ → ℕ) (before : Events) (was : AreSeen n seen before)
    (stay : StaySound n seen before) where
  damage-none : (t : turning.Turn) (request : Request) (v offset : ℕ) (step : Events)
      → TurnsBy t n room seen before request (Err (faults.Damaged v offset)) step → ⊥
  damage-none turns.Step request v offset step turn =
      undamaged n seen sound v offset (step-damage n seen sound room before was request v offset step turn.0) turn.1
  damage-none (turns.Copy s d) request v offset step turn =
      undamaged n seen sound v offset (copied-undamaged n seen sound room before was s d v offset step _ refl turn.0) turn.1
  damage-none (turns.Jobs r) request v offset step turn =
      undamaged n seen sound v offset (stepped-undamaged n seen sound room before was r v offset step _ refl turn.0) turn.1
  damage-none (turns.Work k) request v offset step turn =
      let mild = worked-mild n room seen before stay k (faults.Damaged v offset) step turn in absurd cc

  agrees-always : (t : turning.Turn) (request : Request) (from to sent last settled received : ℕ) (step : Events)
      → TurnsBy t n room seen before request (Err (faults.Disagree from to sent last settled received)) step → ⊥
  agrees-always turns.Step request from to sent last settled received step turn =
      step-agrees n seen sound room before was request from to sent last settled received step turn.0
  agrees-always (turns.Copy s d) request from to sent last settled received step turn =
      copied-agrees n seen sound room before was s d from to sent last settled received step _ refl turn.0
  agrees-always (turns.Jobs r) request from to sent last settled received step turn =
      stepped-agrees n seen sound room before was r from to sent last settled received step _ refl turn.0
  agrees-always (turns.Work k) request from to sent last settled received step turn =
      let mild = worked-mild n room seen before stay k (faults.Disagree from to sent last settled received) step turn in absurd cc

  faultless : (request : Request) (result : Result Answer DeskFault) (step : Events)
      → IsTurn n room seen before request result step → ((v : ℕ) → copying.fails_at v result ≡ 0) → is_faultless result ≡ true
  faultless request (Ok answer) step turn none = refl
  faultless request (Err (faults.Volume v)) step turn none =
      let one : copying.fails_at {A = Answer} v (Err (faults.Volume v)) ≡ 1 = ap (λ (b : Bool). cond b 1 0) (eq-eqb v v refl) in
      absurd (omega (arith, none v, one))
  faultless request (Err (faults.Full v)) step turn none = refl
  faultless request (Err (faults.Damaged v offset)) step turn none = absurd (damage-none (turn_of request) request v offset step turn)
  faultless request (Err (faults.Disagree from to sent last settled received)) step turn none =
      absurd (agrees-always (turn_of request) request from to sent last settled received step turn)
  faultless request (Err faults.OutOfMemory) step turn none = refl

  no-fault : (asked : Result Request Problem) (outcome : Outcome) (step : Events) → IsStepOf n room before seen asked outcome step
      → ((v : ℕ) → fails_at v outcome ≡ 0) → has_no_fault outcome ≡ true
  no-fault asked (Ok result) step is none = faultless is.0 result step is.2 none
  no-fault asked (Err problem) step is none = refl

  comes-so : (o : Occasion) (step : Events) → ComesTo n room before seen o step → ((v : ℕ) → fails_in v o ≡ 0) → comes_without_fault o ≡ true
  comes-so (request_came raw text outcome) step comes none = no-fault (request_of raw) outcome step comes.1 none

-- ---- the turns of a run

-- no attempt and no fault of it was counted
abbrev IsUncounted : Turn → Type 0
IsUncounted t = (v : ℕ) → attempts_about v t.step + fails_in v t.occasion ≡ 0

module _ (sound_stays : SoundStays) (runs_careful : RunsAreCareful) (n : ℕ) (room : ℕ → ℕ) (start : Image) (sound : IsSoundImage n start) where
  one-turn : (earlier : List Turn) (t : Turn) → AreTurns n room start earlier → IsRight n room start (events_of earlier) t → IsUncounted t → IsUndisturbed t
  one-turn earlier t turns right none =
      let careful = runs_careful n room start earlier None [] turns tt (inl refl) in
      let there = sound_stays n (events_of earlier) start right.seen careful right.since sound in
      record {
        faultless = comes-so n right.seen there room (events_of earlier) (λ r h lt e. (right.since.volume r lt).known_is h e)
            (λ past now may silent left.
            let since = brings_then n (events_of earlier) past start right.seen now right.since (brings_progress n past right.seen now silent left) in
            let both = careful_then n [] (events_of earlier) past careful
            (subst (λ (l : Events). AreCareful n l past) (sym (append-nil (events_of earlier))) may) in
            (sound_stays n (past ++ events_of earlier) start now both since sound, λ r h lt e. (since.volume r lt).known_is h e))
            t.occasion t.step right.answered.comes (λ v. omega (arith, none v));
        untried = λ v. omega (arith, none v);
      }

  all-turns : (turns : List Turn) → AreTurns n room start turns → ((v : ℕ) → failures v turns ≡ 0) → AllByRecursion IsUndisturbed turns
  all-turns [] are none = tt
  all-turns (t ∷ earlier) are none =
      (one-turn earlier t are.2 are.0 (λ v. omega (arith, none v)), all-turns earlier are.2 (λ v. omega (arith, none v)))

  with-final : (final : Option Turn) (turns : List Turn) → AreTurns n room start turns → IfSome final (IsRight n room start (events_of turns))
      → ((v : ℕ) → failures v (turns_with final turns) ≡ 0) → AllByRecursion IsUndisturbed (turns_with final turns)
  with-final None turns are right none = all-turns turns are none
  with-final (Some t) turns are right none =
      (one-turn turns t are right (λ v. omega (arith, none v)), all-turns turns are (λ v. omega (arith, none v)))

none-counted : (v x : ℕ) (before after : Counts) → NoneFailed before after → Rises x (side.Volume v) before after → x ≡ 0
none-counted v zero before after none rises = refl
none-counted v (suc x) before after none rises = absurd (none v (rises-one (suc x) (side.Volume v) before after (omega arith) rises))

pub sound_runs_answer_no_fault : SoundStays → RunsAreCareful → SoundRunsAnswerNoFault
sound_runs_answer_no_fault stays careful n room start turns final before after are right counted sound none =
    with-final stays careful n room start sound final turns are right
    (λ v. none-counted v (failures v (turns_with final turns)) before after none (counted v))
