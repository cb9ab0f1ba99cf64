-- The calls of a turn of the copier, one after another.
use Rattle.std.proofs.Common.{◌≡◌, ◌≢◌, ℕ, ◌+◌, ◌≤◌, ◌==◌, true, false, cond, List, [], ◌++◌, length, Some, None, IsSome, Result, Ok, Err, refl, sym, subst, inl, inr, append_assoc, arith}
use Rattle.std.proofs.lemmas.List.{append-nil}
use Rattle.s3r_world.specs.declared.world.Side.TheVariants as side
use Rattle.s3r_world.specs.Outside.{Outside, Counts, NoneFalls, Rises}
use Rattle.s3r_world.specs.Moments.{rises_none}
use Rattle.s3r_names.specs.declared.outcome.Outcome.{Outcome}
use Rattle.s3r_history.specs.declared.due.Due.{Due}
use Rattle.s3r_store.specs.declared.store.Store.{Store}
use Rattle.s3r_desk.specs.declared.copy_outcome.CopyOutcome.{CopyOutcome}
use Rattle.s3r_desk.specs.declared.fault.DeskFault.{DeskFault}
use Rattle.s3r_desk.specs.declared.fault.DeskFault.TheVariants as faults
use Rattle.s3r_desk.specs.Events.{Events, known, history_at}
use Rattle.s3r_desk.specs.Keeping.{Keeps}
use Rattle.s3r_desk.specs.Progress.{Happens}
use Rattle.s3r_desk.specs.Responds.{HasCause}
use Rattle.s3r_desk.specs.Copying.{due_of, IsDue, TurnsOut, is_missed, fails_at}
use Rattle.s3r_desk.specs.Happened.{Happened, IsTried, IsSettled, IsDelivered, Carries, Misses}
use Rattle.s3r_desk.proofs.Stepping.{looks_none, happens_none, happens_then}
use Rattle.s3r_desk.proofs.CopyCarrying.{missed_is_volume, noted, carry_fails, carry_missed, settled_so}
use Rattle.s3r_desk.proofs.CopyCounts.{rises_fewer, volume_counted, cause_counted, counted_then, attempts_then, fails_same, tried_one, settled_none, delivered_none}

-- ---- one after another

module _ (A B Such : Events → Type 0) (before : Events) (a b e : List Store) (x y z : Outside) where
  pub happened_then : (p : Happened A before a b x y) (q : Happened B (p.events ++ before) b e y z) → length b ≡ length a → Such (q.events ++ p.events)
      → Happened Such before a e x z
  happened_then p q same such = record {
    events = q.events ++ p.events;
    such = such;
    keeps = subst (λ (l : Events). Keeps l e z) (sym (append_assoc q.events p.events before)) q.keeps;
    happens = happens_then (length a) p.events q.events x y z p.happens (subst (λ (n : ℕ). Happens n q.events y z) same q.happens);
  }

pub happened_as : (A Such : Events → Type 0) (before : Events) (a b : List Store) (x y : Outside) (p : Happened A before a b x y) → Such p.events
    → Happened Such before a b x y
happened_as A Such before a b x y p such = record { events = p.events; such = such; keeps = p.keeps; happens = p.happens }

unfoldable pub happened_none : (Such : Events → Type 0) (before : Events) (a : List Store) (x : Outside) → Keeps before a x → Such []
    → Happened Such before a a x x
happened_none Such before a x keeps such = record { events = []; such = such; keeps = keeps; happens = happens_none (length a) x x (looks_none x) }

-- nothing was committed
pub carries_none : (room : ℕ → ℕ) (s d : ℕ) (now : Events) (result : Result CopyOutcome DeskFault) (a : List Store) (x : Outside) (f : Counts)
    → Keeps now a x → TurnsOut room s d now [] result → ((v : ℕ) → fails_at v result ≤ 0) → Happened (Carries room s d now result f f) now a a x x
carries_none room s d now result a x f keeps comes none =
    happened_none (Carries room s d now result f f) now a x keeps (record {
      comes = comes;
      counted = λ v. rises_fewer 0 (0 + fails_at v result) (side.Volume v) f f (let least = none v in omega (arith, least)) (rises_none (side.Volume v) f f
          (record { most = refl; volume = λ u. omega arith; input = omega arith; output = omega arith; door = omega arith }));
    })

-- there was no memory
pub carries_starved : (room : ℕ → ℕ) (s d : ℕ) (now : Events) (fault : DeskFault) (a : List Store) (x : Outside) (f : Counts) → Keeps now a x
    → fault ≡ faults.OutOfMemory → Happened (Carries room s d now (Err fault) f f) now a a x x
carries_starved room s d now fault a x f keeps is = subst (λ (e : DeskFault). Happened (Carries room s d now (Err e) f f) now a a x x) (sym is)
    (carries_none room s d now (Err faults.OutOfMemory) a x f keeps (inl refl) (λ v. omega arith))

-- ---- a task is carried

module _ (room : ℕ → ℕ) (s d : ℕ) (now : Events) (t : Due) (due : IsDue s d now t) (a b : List Store) (x y : Outside) (f g : Counts) (n : ℕ)
    (falls : NoneFalls f g) where
  -- the delivery failed
  pub carried_not : (fault : DeskFault) → is_missed fault s d ≡ false → Happened (IsDelivered room s d t now (Err fault)) now a b x y
      → HasCause {A = Outcome} n (Err fault) f g → Happened (Carries room s d now (Err fault) f g) now a b x y
  carried_not fault e p cause =
      happened_as (IsDelivered room s d t now (Err fault)) (Carries room s d now (Err fault) f g) now a b x y p (record {
        comes = carry_fails room s d now t due fault p.events e p.such;
        counted = counted_then (Err fault) p.events (λ v. fails_at {A = Outcome} v (Err fault)) (λ v. 0) f g g falls
            (record { most = refl; volume = λ u. omega arith; input = omega arith; output = omega arith; door = omega arith })
            (λ v. cause_counted {A = Outcome} n v (Err fault) f g falls cause)
            (λ v. rises_none (side.Volume v) g g
            (record { most = refl; volume = λ u. omega arith; input = omega arith; output = omega arith; door = omega arith }))
            (λ v. omega (arith, delivered_none room s d t v now (Err fault) p.events p.such, fails_same Outcome CopyOutcome v fault));
      })

  module _ (e : List Store) (z : Outside) (h : Counts) (later : NoneFalls g h) (m : ℕ) (same : length b ≡ length a) (room' : ℕ → ℕ) (rooms : room' ≡ room) where
    -- it was settled, or not
    pub carried : (outcome : Outcome) (result : Result CopyOutcome DeskFault) (p : Happened (IsDelivered room s d t now (Ok outcome)) now a b x y)
        → Happened (IsSettled room' s d t.number outcome (p.events ++ now) result) (p.events ++ now) b e y z → HasCause m result g h
        → Happened (Carries room s d now result f h) now a e x z
    carried outcome result p q' cause =
        let q = subst (λ (o : ℕ → ℕ). Happened (IsSettled o s d t.number outcome (p.events ++ now) result) (p.events ++ now) b e y z) rooms q' in
        happened_then (IsDelivered room s d t now (Ok outcome)) (IsSettled room s d t.number outcome (p.events ++ now) result)
        (Carries room s d now result f h) now a b e x y z p q same (record {
          comes = settled_so room s d now t due outcome p.events p.such result q.events q.such;
          counted = counted_then result (q.events ++ p.events) (λ v. 0) (λ v. fails_at v result) f g h falls later
              (λ v. rises_none (side.Volume v) f g falls)
              (λ v. cause_counted m v result g h later cause)
              (λ v. omega (
                arith,
                attempts_then v q.events p.events,
                settled_none room s d t.number outcome v (p.events ++ now) result q.events q.such,
                delivered_none room s d t v now (Ok outcome) p.events p.such,
              ));
        })

    -- the receiver failed, and an attempt was noted, or not
    pub carried_missed : (fault : DeskFault) (result : Result CopyOutcome DeskFault) → is_missed fault s d ≡ true
        → (p : Happened (IsDelivered room s d t now (Err fault)) now a b x y) → HasCause {A = Outcome} n (Err fault) f g
        → Happened (IsTried room' s d t.number t.attempts (p.events ++ now) result) (p.events ++ now) b e y z → HasCause m result g h
        → Happened (Carries room s d now result f h) now a e x z
    carried_missed fault result missed p first q' cause =
        let q = subst (λ (o : ℕ → ℕ). Happened (IsTried o s d t.number t.attempts (p.events ++ now) result) (p.events ++ now) b e y z) rooms q' in
        happened_then (IsDelivered room s d t now (Err fault)) (IsTried room s d t.number t.attempts (p.events ++ now) result)
        (Carries room s d now result f h) now a b e x y z p q same (record {
          comes = noted room s d now t p.events (carry_missed room s d now t due fault p.events missed p.such) result q.events q.such;
          counted = counted_then result (q.events ++ p.events) (λ v. cond (d == v) 1 0) (λ v. fails_at v result) f g h falls later
              (λ v. at_receiver v)
              (λ v. cause_counted m v result g h later cause)
              (λ v. omega (
                arith,
                attempts_then v q.events p.events,
                tried_one room s d t.number t.attempts v (p.events ++ now) result q.events q.such,
                delivered_none room s d t v now (Err fault) p.events p.such,
              ));
        })
      where
        at_receiver : (v : ℕ) → Rises (cond (d == v) 1 0) (side.Volume v) f g
        at_receiver v =
            let which = missed_is_volume s d fault missed in
            let did = subst (λ (o : DeskFault). IsDelivered room s d t now (Err o) p.events) which.1 p.such in
            let so = subst (λ (o : DeskFault). HasCause {A = Outcome} n (Err o) f g) which.1 first in
            volume_counted d v f g falls (subst (λ (u : ℕ). Rises 1 (side.Volume u) f g) did.1.0 so.1)

-- ---- a turn whose receiver couldn't be read

pub missed_first : (room : ℕ → ℕ) (s d : ℕ) (now : Events) (t : Due) (a b : List Store) (x y : Outside) (f g : Counts) (n : ℕ)
    (result : Result CopyOutcome DeskFault) → s ≢ d → IsSome (known now s) → known now d ≡ None → due_of s d (history_at now s) ≡ Some t
    → Happened (IsTried room s d t.number t.attempts now result) now a b x y → NoneFalls f g → HasCause n result f g
    → Happened (Misses room s d now result f g) now a b x y
missed_first room s d now t a b x y f g n result apart from unread due p falls cause =
    happened_as (IsTried room s d t.number t.attempts now result) (Misses room s d now result f g) now a b x y p (record {
      comes = subst (λ (l : Events). TurnsOut room s d now l result) (append-nil p.events)
          (noted room s d now t [] (record { apart = apart; from = from; due = due; missed = inl (unread, refl) }) result p.events p.such);
      counted = λ start rises before.
          counted_then result p.events (λ v. cond (d == v) 1 0) (λ v. fails_at v result) start f g before falls
          (λ v. volume_counted d v start f before rises)
          (λ v. cause_counted n v result f g falls cause)
          (λ v. omega (arith, tried_one room s d t.number t.attempts v now result p.events p.such));
    })

-- no task is pending
pub misses_none : (room : ℕ → ℕ) (s d : ℕ) (now : Events) (a : List Store) (x : Outside) (f : Counts) → Keeps now a x → IsSome (known now s)
    → known now d ≡ None → due_of s d (history_at now s) ≡ None → Happened (Misses room s d now (Err (faults.Volume d)) f f) now a a x x
misses_none room s d now a x f keeps from unread none =
    happened_none (Misses room s d now (Err (faults.Volume d)) f f) now a x keeps (record {
      comes = inl (refl, inr (refl, from, unread), λ some. none);
      counted = λ start rises before v.
          rises_fewer (cond (d == v) 1 0) (0 + cond (d == v) 1 0) (side.Volume v) start f (omega arith) (volume_counted d v start f before rises);
    })

-- there was no memory
pub misses_starved : (room : ℕ → ℕ) (s d : ℕ) (now : Events) (fault : DeskFault) (a : List Store) (x : Outside) (f : Counts) → Keeps now a x
    → fault ≡ faults.OutOfMemory → Happened (Misses room s d now (Err fault) f f) now a a x x
misses_starved room s d now fault a x f keeps is = subst (λ (e : DeskFault). Happened (Misses room s d now (Err e) f f) now a a x x) (sym is)
    (happened_none (Misses room s d now (Err faults.OutOfMemory) f f) now a x keeps (record {
      comes = inl refl;
      counted = λ start rises before v. rises_none (side.Volume v) start f before;
    }))
