-- Turns that are made one after another.
use Rattle.std.proofs.Common.{◌≡◌, ℕ, List, [], ◌∷◌, ◌++◌, Some, None, Ok, Err, Result, sym, ◌∙◌, ap, subst, append_assoc}
use Rattle.std.proofs.lemmas.List.{append-nil}
use Rattle.s3r_world.specs.Image.{Image}
use Rattle.s3r_desk.specs.declared.fault.DeskFault.{DeskFault}
use Rattle.s3r_desk.specs.declared.worker_turn.WorkerTurn.{WorkerTurn}
use Rattle.s3r_desk.specs.declared.worker_turn.TurnOutcome.{TurnOutcome}
use Rattle.s3r_desk.specs.Events.{Events}
use Rattle.s3r_desk.specs.Progress.{Progress}
use Rattle.s3r_desk.specs.Works.{IsWorkerTurn, Made, Then, AreMade}
use Rattle.s3r_desk.proofs.Stepping.{progress_then}

-- ---- turns behind others, told from their start

module _ (n : ℕ) (room : ℕ → ℕ) (start later : Image) (before first : Events) (left : Progress n first start later) where
  pub shifted : (turns : List WorkerTurn) (past : Events) (made : Made) (events : Events)
      → AreMade turns n room later (first ++ before) past made events → AreMade turns n room start before (past ++ first) made events
  shifted [] past made events did = did
  shifted (turn ∷ turns) past made events did = (
    did.0,
    progress_then n first past start later did.0 left did.1,
    did.2,
    did.3,
    subst (λ (l : Events). IsWorkerTurn turn n room did.0 l did.3 did.2) (sym (append_assoc past first before)) did.4,
    behind did.3 (λ rest events. shifted turns (did.2 ++ past) rest events) did.5,
  )
    where
      behind : (result : Result TurnOutcome DeskFault)
          → ((rest : Made) (events : Events) → AreMade turns n room later (first ++ before) (did.2 ++ past) rest events
          → AreMade turns n room start before ((did.2 ++ past) ++ first) rest events)
          → Then n did.0 result did.2 made events (λ rest behind. AreMade turns n room later (first ++ before) (did.2 ++ past) rest behind)
          → Then n did.0 result did.2 made events (λ rest behind. AreMade turns n room start before (did.2 ++ (past ++ first)) rest behind)
      behind (Ok outcome) all t = (
        t.0,
        t.1,
        t.2,
        t.3,
        subst (λ (l : Events). AreMade turns n room start before l t.0 t.1) (append_assoc did.2 past first) (all t.0 t.1 t.4),
      )
      behind (Err fault) all t = t

-- ---- turns, and others behind them

abbrev pub joined : Made → Made → Made
joined first second = record { outcomes = first.outcomes ++ second.outcomes; fault = second.fault }

module _ (n : ℕ) (room : ℕ → ℕ) (start : Image) (before : Events) (others : List WorkerTurn) where
  -- none of the first had a fault
  pub made_then : (turns : List WorkerTurn) (past : Events) (first second : Made) (events later : Events)
      → AreMade turns n room start before past first events → first.fault ≡ None → AreMade others n room start before (events ++ past) second later
      → AreMade (turns ++ others) n room start before past (joined first second) (later ++ events)
  made_then [] past first second events later did none more =
      subst (λ (l : Events). AreMade others n room start before past (joined first second) (later ++ l)) (sym did.1)
      (subst (λ (l : Events). AreMade others n room start before past (joined first second) l) (sym (append-nil later))
      (subst (λ (m : Made). AreMade others n room start before past (joined m second) later) (sym did.0)
      (subst (λ (l : Events). AreMade others n room start before (l ++ past) second later) did.1 more)))
  made_then (turn ∷ turns) past first second events later did none more =
      (did.0, did.1, did.2, did.3, did.4, behind did.3 (λ rest ahead. made_then turns (did.2 ++ past) rest second ahead later) did.5)
    where
      behind : (result : Result TurnOutcome DeskFault)
          → ((rest : Made) (ahead : Events) → AreMade turns n room start before (did.2 ++ past) rest ahead → rest.fault ≡ None
          → AreMade others n room start before (ahead ++ (did.2 ++ past)) second later
          → AreMade (turns ++ others) n room start before (did.2 ++ past) (joined rest second) (later ++ ahead))
          → Then n did.0 result did.2 first events (λ rest behind. AreMade turns n room start before (did.2 ++ past) rest behind)
          → Then n did.0 result did.2 (joined first second) (later ++ events)
          (λ rest behind. AreMade (turns ++ others) n room start before (did.2 ++ past) rest behind)
      behind (Ok outcome) all t = (
        joined t.0 second,
        later ++ t.1,
        ap (λ (m : Made). joined m second) t.2,
        ap (λ (l : Events). later ++ l) t.3 ∙ sym (append_assoc later t.1 did.2),
        all t.0 t.1 t.4 (sym (ap (λ (m : Made). m.fault) t.2) ∙ none)
            (subst (λ (l : Events). AreMade others n room start before l second later)
            (ap (λ (l : Events). l ++ past) t.3 ∙ append_assoc t.1 did.2 past) more),
      )
      behind (Err fault) all t = let clash : Some fault ≡ None = sym (ap (λ (m : Made). m.fault) t.0) ∙ none in absurd cc

  -- one had
  pub made_still : (turns : List WorkerTurn) (past : Events) (made : Made) (events : Events) (fault : DeskFault)
      → AreMade turns n room start before past made events → made.fault ≡ Some fault → AreMade (turns ++ others) n room start before past made events
  made_still [] past made events fault did is = let clash : None ≡ Some fault = sym (ap (λ (m : Made). m.fault) did.0) ∙ is in absurd cc
  made_still (turn ∷ turns) past made events fault did is =
      (did.0, did.1, did.2, did.3, did.4, behind did.3 (λ rest ahead. made_still turns (did.2 ++ past) rest ahead fault) did.5)
    where
      behind : (result : Result TurnOutcome DeskFault)
          → ((rest : Made) (ahead : Events) → AreMade turns n room start before (did.2 ++ past) rest ahead → rest.fault ≡ Some fault
          → AreMade (turns ++ others) n room start before (did.2 ++ past) rest ahead)
          → Then n did.0 result did.2 made events (λ rest behind. AreMade turns n room start before (did.2 ++ past) rest behind)
          → Then n did.0 result did.2 made events (λ rest behind. AreMade (turns ++ others) n room start before (did.2 ++ past) rest behind)
      behind (Ok outcome) all t = (t.0, t.1, t.2, t.3, all t.0 t.1 t.4 (sym (ap (λ (m : Made). m.fault) t.2) ∙ is))
      behind (Err why) all t = t
