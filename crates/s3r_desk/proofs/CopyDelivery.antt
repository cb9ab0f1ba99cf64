-- What the calls of a turn tell, once the world tells.
use Rattle.std.proofs.Common.{◌≡◌, ◌⊎◌, ℕ, ◌+◌, ◌<◌, ◌≤◌, List, [], Some, IsSome, Result, Ok, Err, IfErr, true, ⊎_elim, refl, sym, ◌∙◌, ap, subst, arith}
use Rattle.std.specs.Prelude.{slice_get}
use Rattle.s3r_world.specs.declared.world.Side.TheVariants as side
use Rattle.s3r_world.specs.Outside.{Outside, Counts, NoneFalls}
use Rattle.s3r_world.specs.Moments.{falls_then, rises_before, rises_after}
use Rattle.s3r_world.specs.Image.{Image}
use Rattle.s3r_names.specs.declared.outcome.Outcome.{Outcome}
use Rattle.s3r_record.specs.declared.command.Command.{Command}
use Rattle.s3r_record.specs.declared.command.Command.TheVariants as command
use Rattle.s3r_queue.specs.declared.inbox.Arrival.{Arrival}
use Rattle.s3r_queue.specs.declared.inbox.Arrival.TheVariants as arrivals
use Rattle.s3r_queue.specs.Received.{arrival_of}
use Rattle.s3r_history.specs.declared.due.Due.{Due}
use Rattle.s3r_history.specs.Words.{History}
use Rattle.s3r_history.specs.Deeds.{deeds, judge}
use Rattle.s3r_history.specs.Tasks.{last_from}
use Rattle.s3r_store.specs.declared.store.Store.{Store}
use Rattle.s3r_store.specs.Knows.{IsStoreAfter}
use Rattle.s3r_desk.specs.declared.copy_outcome.CopyOutcome.{CopyOutcome}
use Rattle.s3r_desk.specs.declared.copy_outcome.CopyOutcome.TheVariants as outcomes
use Rattle.s3r_desk.specs.declared.fault.DeskFault.{DeskFault}
use Rattle.s3r_desk.specs.declared.fault.DeskFault.TheVariants as faults
use Rattle.s3r_desk.specs.Events.{Events, known, history_at}
use Rattle.s3r_desk.specs.Keeping.{Keeps, AreNumbered}
use Rattle.s3r_desk.specs.Comparing.{pair_fault}
use Rattle.s3r_desk.specs.Copying.{arrival_at, outcome_by, delivery, tried, is_missed, IsNoDamage, fails_at, Fails}
use Rattle.s3r_desk.specs.Steps.{made, FitRooms}
use Rattle.s3r_desk.specs.Damage.{IsDamage}
use Rattle.s3r_desk.specs.Responds.{FailsAt, HasCause}
use Rattle.s3r_desk.specs.Happened.{Happened, IsCommit, IsTried, IsSettled, IsDelivered, IsReadAt}
use Rattle.s3r_desk.proofs.Disagreeing.{IsDisagreement}
use Rattle.s3r_desk.proofs.CopyStores.{store_after}
use Rattle.s3r_desk.proofs.CopyTurning.{happened_as, happened_none}

-- a fault is told of another type
pub commit_as : (A B : Type 0) (room : ℕ → ℕ) (before : Events) (r : ℕ) (c : Command) (fault : DeskFault) (events : Events)
    → IsCommit {A = A} room before r c (Err fault) events → IsCommit {A = B} room before r c (Err fault) events
commit_as A B room before r c (faults.Volume v) events did = did
commit_as A B room before r c (faults.Full v) events did = did
commit_as A B room before r c (faults.Damaged v offset) events did = did
commit_as A B room before r c (faults.Disagree from to sent last settled received) events did = did
commit_as A B room before r c faults.OutOfMemory events did = did

module _ (room : ℕ → ℕ) (s d number : ℕ) (before : Events) (a b : List Store) (x y : Outside) where
  pub tried_ok : (attempts : ℕ) (given : CopyOutcome) → given ≡ tried number (attempts + 1)
      → Happened (IsCommit {A = Unit {0}} room before s (command.Attempt d number) (Ok tt)) before a b x y
      → Happened (IsTried room s d number attempts before (Ok given)) before a b x y
  tried_ok attempts given is p = happened_as (IsCommit {A = Unit {0}} room before s (command.Attempt d number) (Ok tt))
      (IsTried room s d number attempts before (Ok given)) before a b x y p (is, p.such)

  pub tried_err : (attempts : ℕ) (fault : DeskFault)
      → Happened (IsCommit {A = Unit {0}} room before s (command.Attempt d number) (Err fault)) before a b x y
      → Happened (IsTried room s d number attempts before (Err fault)) before a b x y
  tried_err attempts fault p = happened_as (IsCommit {A = Unit {0}} room before s (command.Attempt d number) (Err fault))
      (IsTried room s d number attempts before (Err fault)) before a b x y p
      (commit_as (Unit {0}) CopyOutcome room before s (command.Attempt d number) fault p.events p.such)

  pub settled_ok : (outcome : Outcome) → Happened (IsCommit {A = Unit {0}} room before s (command.Settle d number outcome) (Ok tt)) before a b x y
      → Happened (IsSettled room s d number outcome before (Ok (outcomes.Settled number outcome))) before a b x y
  settled_ok outcome p = happened_as (IsCommit {A = Unit {0}} room before s (command.Settle d number outcome) (Ok tt))
      (IsSettled room s d number outcome before (Ok (outcomes.Settled number outcome))) before a b x y p (refl, p.such)

  pub settled_err : (outcome : Outcome) (fault : DeskFault)
      → Happened (IsCommit {A = Unit {0}} room before s (command.Settle d number outcome) (Err fault)) before a b x y
      → Happened (IsSettled room s d number outcome before (Err fault)) before a b x y
  settled_err outcome fault p = happened_as (IsCommit {A = Unit {0}} room before s (command.Settle d number outcome) (Err fault))
      (IsSettled room s d number outcome before (Err fault)) before a b x y p
      (commit_as (Unit {0}) CopyOutcome room before s (command.Settle d number outcome) fault p.events p.such)

-- what the receiver's store tells of a task is what its history tells
module _ (room : ℕ → ℕ) (s d : ℕ) (t : Due) (before : Events) (a : List Store) (x : Outside) (keeps : Keeps before a x) (numbered : AreNumbered a)
    (read : IsReadAt a d) (store : Store) (get : slice_get a d ≡ Some store) (arrival : Arrival)
    (arrives : (h : History) → IsStoreAfter store h → arrival ≡ arrival_of (last_from (deeds store.v h) s) t.number) where
  there : IsStoreAfter store (history_at before d)
  there = store_after before a x keeps d store get (read store get)

  arrival_is : arrival_at s d (history_at before d) t ≡ arrival
  arrival_is = sym (arrives (history_at before d) there
      ∙ ap (λ (v : ℕ). arrival_of (last_from (deeds v (history_at before d)) s) t.number) (numbered.v d store get))

  pub delivered_again : (outcome : Outcome) → arrival ≡ arrivals.Again outcome → Happened (IsDelivered room s d t before (Ok outcome)) before a a x x
  delivered_again outcome is =
      let again : arrival_at s d (history_at before d) t ≡ arrivals.Again outcome = arrival_is ∙ is in
      happened_none (IsDelivered room s d t before (Ok outcome)) before a x keeps (
        sym (ap (λ w. outcome_by w (judge d (history_at before d) t.effect)) again),
        subst (λ w. FitRooms room (history_at before) (delivery s d t w)) (sym again) tt,
        sym (ap (λ w. made (history_at before) (delivery s d t w)) again),
      )

  module _ (b : List Store) (y : Outside) (new : arrival ≡ arrivals.New) where
    is_new : arrival_at s d (history_at before d) t ≡ arrivals.New
    is_new = arrival_is ∙ new

    pub delivered_new : (outcome : Outcome) → ((h : History) → IsStoreAfter store h → outcome ≡ judge store.v h t.effect)
        → Happened (IsCommit {A = Unit {0}} room before d (command.Receive s t.number t.effect) (Ok tt)) before a b x y
        → Happened (IsDelivered room s d t before (Ok outcome)) before a b x y
    delivered_new outcome judged p =
        happened_as (IsCommit {A = Unit {0}} room before d (command.Receive s t.number t.effect) (Ok tt)) (IsDelivered room s d t before (Ok outcome)) before
        a b x y p (
          judged (history_at before d) there ∙ ap (λ (v : ℕ). judge v (history_at before d) t.effect) (numbered.v d store get)
              ∙ sym (ap (λ w. outcome_by w (judge d (history_at before d) t.effect)) is_new),
          subst (λ w. FitRooms room (history_at before) (delivery s d t w)) (sym is_new) (p.such.0, tt),
          p.such.1 ∙ sym (ap (λ w. made (history_at before) (delivery s d t w)) is_new),
        )

    pub delivered_not : (fault : DeskFault)
        → Happened (IsCommit {A = Unit {0}} room before d (command.Receive s t.number t.effect) (Err fault)) before a b x y
        → Happened (IsDelivered room s d t before (Err fault)) before a b x y
    delivered_not fault p =
        happened_as (IsCommit {A = Unit {0}} room before d (command.Receive s t.number t.effect) (Err fault)) (IsDelivered room s d t before (Err fault)) before
        a b x y p (is_new, commit_as (Unit {0}) Outcome room before d (command.Receive s t.number t.effect) fault p.events p.such)

-- ---- causes

-- a later call's cause is a cause of both
pub cause_after : {A : Type 0} (m n : ℕ) (result : Result A DeskFault) (a b c : Counts) → m ≤ n → NoneFalls a b → HasCause m result b c → HasCause n result a c
cause_after m n (Ok x) a b c le falls cause = tt
cause_after m n (Err (faults.Volume v)) a b c le falls cause = (omega (arith, le, cause.0), rises_after 1 (side.Volume v) a b c falls cause.1)
cause_after m n (Err (faults.Full v)) a b c le falls cause = omega (arith, le, cause)
cause_after m n (Err (faults.Damaged v offset)) a b c le falls cause = omega (arith, le, cause)
cause_after m n (Err (faults.Disagree from to sent last settled received)) a b c le falls cause = tt
cause_after m n (Err faults.OutOfMemory) a b c le falls cause = tt

pub cause_as : (A B : Type 0) (n : ℕ) (fault : DeskFault) (a b : Counts) → HasCause {A = A} n (Err fault) a b → HasCause {A = B} n (Err fault) a b
cause_as A B n (faults.Volume v) a b cause = cause
cause_as A B n (faults.Full v) a b cause = cause
cause_as A B n (faults.Damaged v offset) a b cause = cause
cause_as A B n (faults.Disagree from to sent last settled received) a b cause = cause
cause_as A B n faults.OutOfMemory a b cause = cause

-- ---- a pair that disagrees

pub told_cause : (A : Type 0) (n : ℕ) (fault : DeskFault) (a b : Counts) → IsDisagreement fault → HasCause {A = A} n (Err fault) a b
told_cause A n (faults.Volume v) a b is = absurd is
told_cause A n (faults.Full v) a b is = absurd is
told_cause A n (faults.Damaged v offset) a b is = absurd is
told_cause A n (faults.Disagree from to sent last settled received) a b is = tt
told_cause A n faults.OutOfMemory a b is = absurd is

pub told_fails : (room : ℕ → ℕ) (s d : ℕ) (now : Events) (fault : DeskFault) → IsDisagreement fault → IsSome (known now s) → IsSome (known now d)
    → pair_fault s d (history_at now s) (history_at now d) ≡ Some fault → Fails room s d now [] fault
told_fails room s d now (faults.Volume v) is from to told = absurd is
told_fails room s d now (faults.Full v) is from to told = absurd is
told_fails room s d now (faults.Damaged v offset) is from to told = absurd is
told_fails room s d now (faults.Disagree from' to' sent last settled received) is from to told = (refl, from, to, told)
told_fails room s d now faults.OutOfMemory is from to told = absurd is

pub told_no_volume : (v : ℕ) (fault : DeskFault) → IsDisagreement fault → fails_at {A = CopyOutcome} v (Err fault) ≤ 0
told_no_volume v (faults.Volume u) is = absurd is
told_no_volume v (faults.Full u) is = absurd is
told_no_volume v (faults.Damaged u offset) is = absurd is
told_no_volume v (faults.Disagree from to sent last settled received) is = omega arith
told_no_volume v faults.OutOfMemory is = absurd is

-- ---- no damage

pub told_no_damage : (fault : DeskFault) → IsDisagreement fault → IsNoDamage fault
told_no_damage (faults.Volume u) is = tt
told_no_damage (faults.Full u) is = tt
told_no_damage (faults.Damaged u offset) is = is
told_no_damage (faults.Disagree from to sent last settled received) is = tt
told_no_damage faults.OutOfMemory is = tt

pub starved_no_damage : (fault : DeskFault) → fault ≡ faults.OutOfMemory → IsNoDamage fault
starved_no_damage fault is = subst IsNoDamage (sym is) tt

pub damage_none : {A : Type 0} (n : ℕ) (c : Image) (result : Result A DeskFault) → IfErr result IsNoDamage → IsDamage n c result
damage_none n c (Ok x) none = tt
damage_none n c (Err (faults.Volume u)) none = tt
damage_none n c (Err (faults.Full u)) none = tt
damage_none n c (Err (faults.Damaged u offset)) none = absurd none
damage_none n c (Err (faults.Disagree from to sent last settled received)) none = tt
damage_none n c (Err faults.OutOfMemory) none = tt

-- ---- a missed turn

pub missed_at : (s d : ℕ) (fault : DeskFault) → is_missed fault s d ≡ true → FailsAt {A = Unit {0}} d (Err fault) → fault ≡ faults.Volume d
missed_at s d (faults.Volume v) e at = ap (λ (u : ℕ). faults.Volume u) at
missed_at s d (faults.Full v) e at = absurd cc
missed_at s d (faults.Damaged v offset) e at = absurd cc
missed_at s d (faults.Disagree from to sent last settled received) e at = absurd cc
missed_at s d faults.OutOfMemory e at = absurd cc

-- the receiver's fault was counted before what is told of the turn
pub missed_cause : (m n d : ℕ) (fault : DeskFault) (result : Result CopyOutcome DeskFault) (a b c e : Counts) → m ≤ n → d < n → NoneFalls a b → NoneFalls b c
    → NoneFalls c e → fault ≡ faults.Volume d → HasCause {A = Unit {0}} m (Err fault) b c → (result ≡ Err (faults.Volume d)) ⊎ HasCause m result c e
    → HasCause n result a e
missed_cause m n d fault result a b c e le lt first second third is cause told = ⊎_elim
    (λ same.
    let why = subst (λ (f : DeskFault). HasCause {A = Unit {0}} m (Err f) b c) is cause in
    subst (λ (r : Result CopyOutcome DeskFault). HasCause n r a e) (sym same)
    (lt, rises_after 1 (side.Volume d) a b e first (rises_before 1 (side.Volume d) b c e why.1 third)))
    (λ later. cause_after m n result a c e le (falls_then a b c first second) later)
    told
