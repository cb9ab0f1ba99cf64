-- Attempts and faults, counted.
use Rattle.std.proofs.Common.{◌≡◌, ℕ, ◌+◌, ◌≤◌, ◌==◌, Bool, true, false, cond, [], ◌∷◌, ◌++◌, Option, Some, None, Result, Ok, Err, refl, sym, ap, subst, ⊎_elim, eqb-true, arith}
use Rattle.s3r_world.specs.declared.world.Side.{Side}
use Rattle.s3r_world.specs.declared.world.Side.TheVariants as side
use Rattle.s3r_world.specs.Outside.{Counts, count_of, NoneFalls, HasRisen, Rises}
use Rattle.s3r_world.specs.Moments.{rises_none, rises_then}
use Rattle.s3r_names.specs.declared.outcome.Outcome.{Outcome}
use Rattle.s3r_record.specs.declared.command.Command.{Command}
use Rattle.s3r_record.specs.declared.command.Command.TheVariants as command
use Rattle.s3r_queue.specs.declared.inbox.Arrival.{Arrival}
use Rattle.s3r_queue.specs.declared.inbox.Arrival.TheVariants as arrivals
use Rattle.s3r_history.specs.declared.due.Due.{Due}
use Rattle.s3r_history.specs.Words.{History}
use Rattle.s3r_desk.specs.declared.copy_outcome.CopyOutcome.{CopyOutcome}
use Rattle.s3r_desk.specs.declared.fault.DeskFault.{DeskFault}
use Rattle.s3r_desk.specs.declared.fault.DeskFault.TheVariants as faults
use Rattle.s3r_desk.specs.Events.{found, began, answered, Events}
use Rattle.s3r_desk.specs.Steps.{Histories, made}
use Rattle.s3r_desk.specs.Responds.{HasCause}
use Rattle.s3r_desk.specs.Copying.{delivery, IsTouched, attempt_about, attempts_about, fails_at, AreCounted}
use Rattle.s3r_desk.specs.Happened.{IsCommit, IsTried, IsSettled, IsDelivered}

-- ---- counts

fewer : (most : Option ℕ) (x z a b : ℕ) → z ≤ x → HasRisen most x a b → HasRisen most z a b
fewer None x z a b le rises = omega (arith, le, rises)
fewer (Some most) x z a b le rises = omega (arith, le, rises)

pub rises_fewer : (x z : ℕ) (side : Side) (a b : Counts) → z ≤ x → Rises x side a b → Rises z side a b
rises_fewer x z side a b le rises = fewer a.most x z (count_of side a) (count_of side b) le rises

at_volume : (u v : ℕ) (a b : Counts) → NoneFalls a b → Rises 1 (side.Volume u) a b → (t : Bool) → (u == v) ≡ t
    → Rises (cond t 1 0) (side.Volume v) a b
at_volume u v a b falls rises true e = subst (λ (m : ℕ). Rises 1 (side.Volume m) a b) (eqb-true u v e) rises
at_volume u v a b falls rises false e = rises_none (side.Volume v) a b falls

pub volume_counted : (u v : ℕ) (a b : Counts) → NoneFalls a b → Rises 1 (side.Volume u) a b → Rises (cond (u == v) 1 0) (side.Volume v) a b
volume_counted u v a b falls rises = at_volume u v a b falls rises (u == v) refl

-- a fault that is answered was counted
pub cause_counted : {A : Type 0} (n v : ℕ) (result : Result A DeskFault) (a b : Counts) → NoneFalls a b → HasCause n result a b
    → Rises (fails_at v result) (side.Volume v) a b
cause_counted n v (Ok x) a b falls cause = rises_none (side.Volume v) a b falls
cause_counted n v (Err (faults.Volume u)) a b falls cause = volume_counted u v a b falls cause.1
cause_counted n v (Err (faults.Full u)) a b falls cause = rises_none (side.Volume v) a b falls
cause_counted n v (Err (faults.Damaged u offset)) a b falls cause = rises_none (side.Volume v) a b falls
cause_counted n v (Err (faults.Disagree from to sent last settled received)) a b falls cause = rises_none (side.Volume v) a b falls
cause_counted n v (Err faults.OutOfMemory) a b falls cause = rises_none (side.Volume v) a b falls

-- one call after another
pub counted_then : (result : Result CopyOutcome DeskFault) (events : Events) (x y : ℕ → ℕ) (a b c : Counts) → NoneFalls a b → NoneFalls b c
    → ((v : ℕ) → Rises (x v) (side.Volume v) a b) → ((v : ℕ) → Rises (y v) (side.Volume v) b c)
    → ((v : ℕ) → attempts_about v events + fails_at v result ≤ x v + y v) → AreCounted result events a c
counted_then result events x y a b c before after first second most v =
    rises_fewer (x v + y v) (attempts_about v events + fails_at v result) (side.Volume v) a c (most v)
    (rises_then (x v) (y v) (side.Volume v) a b c before (first v) (second v))

-- ---- attempts

pub attempts_then : (v : ℕ) (second first : Events) → attempts_about v (second ++ first) ≡ attempts_about v second + attempts_about v first
attempts_then v [] first = omega arith
attempts_then v (found r h ∷ second) first = attempts_then v second first
attempts_then v (began r c ∷ second) first = let ih = attempts_then v second first in omega (arith, ih)
attempts_then v (answered text ∷ second) first = attempts_then v second first

pub fails_same : (A B : Type 0) (v : ℕ) (fault : DeskFault) → fails_at {A = A} v (Err fault) ≡ fails_at {A = B} v (Err fault)
fails_same A B v (faults.Volume u) = refl
fails_same A B v (faults.Full u) = refl
fails_same A B v (faults.Damaged u offset) = refl
fails_same A B v (faults.Disagree from to sent last settled received) = refl
fails_same A B v faults.OutOfMemory = refl

-- how many a commit began
pub commit_at_most : {A : Type 0} (room : ℕ → ℕ) (before : Events) (r : ℕ) (c : Command) (v : ℕ) (result : Result A DeskFault) (events : Events)
    → IsCommit room before r c result events → attempts_about v events ≤ attempt_about v c
commit_at_most room before r c v (Ok x) events did = let one = ap (attempts_about v) did.1 in omega (arith, one)
commit_at_most room before r c v (Err (faults.Volume u)) events did = let one = ap (attempts_about v) did.2 in omega (arith, one)
commit_at_most room before r c v (Err (faults.Full u)) events did = let one = ap (attempts_about v) did.2 in omega (arith, one)
commit_at_most room before r c v (Err (faults.Damaged u offset)) events did = absurd did
commit_at_most room before r c v (Err (faults.Disagree from to sent last settled received)) events did = absurd did
commit_at_most room before r c v (Err faults.OutOfMemory) events did = let one = ap (attempts_about v) did in omega (arith, one)

pub tried_one : (room : ℕ → ℕ) (s d number attempts v : ℕ) (before : Events) (result : Result CopyOutcome DeskFault) (events : Events)
    → IsTried room s d number attempts before result events → attempts_about v events ≤ cond (d == v) 1 0
tried_one room s d number attempts v before (Ok given) events did =
    commit_at_most {A = CopyOutcome} room before s (command.Attempt d number) v (Ok given) events did.1
tried_one room s d number attempts v before (Err fault) events did =
    commit_at_most {A = CopyOutcome} room before s (command.Attempt d number) v (Err fault) events did

pub settled_none : (room : ℕ → ℕ) (s d number : ℕ) (outcome : Outcome) (v : ℕ) (before : Events) (result : Result CopyOutcome DeskFault) (events : Events)
    → IsSettled room s d number outcome before result events → attempts_about v events ≤ 0
settled_none room s d number outcome v before (Ok given) events did =
    commit_at_most {A = CopyOutcome} room before s (command.Settle d number outcome) v (Ok given) events did.1
settled_none room s d number outcome v before (Err fault) events did =
    commit_at_most {A = CopyOutcome} room before s (command.Settle d number outcome) v (Err fault) events did

delivery_none : (s d v : ℕ) (at : Histories) (t : Due) (a : Arrival) → attempts_about v (made at (delivery s d t a)) ≤ 0
delivery_none s d v at t arrivals.New = omega arith
delivery_none s d v at t (arrivals.Again outcome) = omega arith
delivery_none s d v at t (arrivals.Behind watermark) = omega arith

pub delivered_none : (room : ℕ → ℕ) (s d : ℕ) (t : Due) (v : ℕ) (before : Events) (result : Result Outcome DeskFault) (events : Events)
    → IsDelivered room s d t before result events → attempts_about v events ≤ 0
delivered_none room s d t v before (Ok outcome) events did =
    subst (λ (l : Events). attempts_about v l ≤ 0) (sym did.2) (delivery_none s d v _ t _)
delivered_none room s d t v before (Err fault) events did =
    commit_at_most {A = Outcome} room before d (command.Receive s t.number t.effect) v (Err fault) events did.1

pub touched_none : (P : ℕ → History → Type 0) (before : Events) (r v : ℕ) (events : Events) → IsTouched P before r events → attempts_about v events ≡ 0
touched_none P before r v events touched = ⊎_elim (λ none. ap (attempts_about v) none) (λ w. ap (attempts_about v) w.3) touched
