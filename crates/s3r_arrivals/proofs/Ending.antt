-- What ended a task.
use Rattle.std.proofs.Common.{◌≡◌, ◌⊎◌, inl, inr, ℕ, zero, suc, ◌+◌, ◌≤◌, ◌<◌, Bool, true, false, cond, ◌==◌, ◌&&◌, ◌||◌, nat_lt, List, [], ◌∷◌, ◌++◌, Option, Some, None, refl, sym, subst, ap, ◌∙◌, eqb-true, arith, true≢false}
use Rattle.std.specs.List.{list_any}
use Rattle.std.proofs.lemmas.Bool.{and_parts}
use Rattle.std.proofs.lemmas.Bool.Decides.{nat_tests}
use Rattle.s3r_names.specs.declared.outcome.Outcome.{Outcome}
use Rattle.s3r_names.specs.declared.outcome.Outcome.TheVariants as outcomes
use Rattle.s3r_names.specs.declared.outcome.Reason.{Reason}
use Rattle.s3r_record.specs.declared.command.Command.TheVariants as command
use Rattle.s3r_queue.specs.declared.task.TaskState.{TaskState}
use Rattle.s3r_queue.specs.declared.task.TaskState.TheVariants as states
use Rattle.s3r_queue.specs.Tasks.{state_by, is_pending, waits, first_of}
use Rattle.s3r_history.specs.Words.{History}
use Rattle.s3r_history.specs.Past.{Carried}
use Rattle.s3r_history.specs.Carried.{target_of, key_of, id_of}
use Rattle.s3r_history.specs.Deeds.{deeds}
use Rattle.s3r_history.specs.Placed.{prescribed}
use Rattle.s3r_history.specs.Tasks.{sent, settled_with, attempts, task_state, tasks_from, next_task}
use Rattle.s3r_history.specs.Accepts.{IsLawful}
use Rattle.s3r_history.proofs.Ahead.{accepted-next, IsNext, next-is}
use Rattle.s3r_history.proofs.Agreeing.{least, pending, first-is}
use Rattle.s3r_history.specs.Told.{told}
use Rattle.s3r_arrivals.specs.Arrivals.{has_version, CameOver, HasArrived, WasGivenUp}
use Rattle.s3r_arrivals.specs.ArrivalLaws.{CompletedHasArrived, FailedWasRefused, ExhaustedWasGivenUp, NothingIsLost}
use Rattle.s3r_arrivals.proofs.Standing.{stands-told, stands-later, stands-received}
use Rattle.s3r_arrivals.proofs.Receipts.{settled-came-over}

-- ---- by a state

came-completed : (o : Option Outcome) (tries : ℕ) → state_by o tries ≡ states.Completed → o ≡ Some outcomes.Applied
came-completed None tries is = go (nat_lt tries 8) is
  where
    go : (t : Bool) → cond t states.Pending states.Exhausted ≡ states.Completed → None ≡ Some outcomes.Applied
    go true is = absurd cc
    go false is = absurd cc
came-completed (Some outcomes.Applied) tries is = refl
came-completed (Some (outcomes.Refused reason)) tries is = absurd cc

came-failed : (o : Option Outcome) (tries : ℕ) (reason : Reason) → state_by o tries ≡ states.Failed reason → o ≡ Some (outcomes.Refused reason)
came-failed None tries reason is = go (nat_lt tries 8) is
  where
    go : (t : Bool) → cond t states.Pending states.Exhausted ≡ states.Failed reason → None ≡ Some (outcomes.Refused reason)
    go true is = absurd cc
    go false is = absurd cc
came-failed (Some outcomes.Applied) tries reason is = absurd cc
came-failed (Some (outcomes.Refused other)) tries reason is = let same : other ≡ reason = cc in ap (λ x. Some (outcomes.Refused x)) same

came-exhausted : (o : Option Outcome) (tries : ℕ) → state_by o tries ≡ states.Exhausted → (o ≡ None) × (8 ≤ tries)
came-exhausted None tries is = (refl, go (nat_lt tries 8) refl is)
  where
    go : (t : Bool) → nat_lt tries 8 ≡ t → cond t states.Pending states.Exhausted ≡ states.Exhausted → 8 ≤ tries
    go true e is = absurd cc
    go false e is = grind (arith, nat_tests)
came-exhausted (Some outcomes.Applied) tries is = absurd cc
came-exhausted (Some (outcomes.Refused reason)) tries is = absurd cc

-- ---- no task has more than eight attempts

few-tried : (o : Option Outcome) (tries : ℕ) → is_pending (state_by o tries) ≡ true → tries < 8
few-tried None tries is = go (nat_lt tries 8) refl is
  where
    go : (t : Bool) → nat_lt tries 8 ≡ t → is_pending (cond t states.Pending states.Exhausted) ≡ true → tries < 8
    go true e is = grind (arith, nat_tests)
    go false e is = absurd (true≢false (sym is))
few-tried (Some outcomes.Applied) tries is = absurd (true≢false (sym is))
few-tried (Some (outcomes.Refused reason)) tries is = absurd (true≢false (sym is))

-- the first task that waits is pending
first-pends : (h : History) (d n m : ℕ) (es : List Carried) → list_any waits (tasks_from h d n es) ≡ true → m + 1 ≡ first_of (tasks_from h d n es) + n
    → pending h d m ≡ true
first-pends h d n m [] some is = absurd (true≢false (sym some))
first-pends h d n m (e ∷ es) some is = go (pending h d n) refl (first-pends h d (suc n) m es) some is
  where
    go : (t : Bool) → pending h d n ≡ t
        → (list_any waits (tasks_from h d (suc n) es) ≡ true → m + 1 ≡ first_of (tasks_from h d (suc n) es) + suc n → pending h d m ≡ true)
        → (t || list_any waits (tasks_from h d (suc n) es)) ≡ true
        → m + 1 ≡ cond t 1 (suc (first_of (tasks_from h d (suc n) es))) + n → pending h d m ≡ true
    go true pends rest some is = let same : n ≡ m = omega (arith, is) in subst (λ x. pending h d x ≡ true) same pends
    go false pends rest some is = rest some (omega (arith, is))

eight-at-most : (n s : ℕ) (h : History) → IsLawful n s h → (d m : ℕ) → attempts h d m ≤ 8
eight-at-most n s [] lawful d m = omega arith
eight-at-most n s (command.Attempt to number ∷ h) lawful d m = go ((to == d) && (number == m)) refl (eight-at-most n s h lawful.2 d m)
  where
    next : IsNext h (deeds s h) to number
    next = next-is h (deeds s h) to number lawful.0.above (accepted-next n to number (next_task h (deeds s h) to) lawful.1)

    go : (t : Bool) → ((to == d) && (number == m)) ≡ t → attempts h d m ≤ 8 → cond t (suc (attempts h d m)) (attempts h d m) ≤ 8
    go true e ih =
        let parts = and_parts (to == d) (number == m) e in
        let pends = first-pends h to 1 number (prescribed (deeds s h) to) next.pending (omega (arith, next.first)) in
        let here = subst (λ x. pending h x number ≡ true) (eqb-true to d parts.0) pends in
        let there = subst (λ x. pending h d x ≡ true) (eqb-true number m parts.1) here in
        let few = few-tried (settled_with h d m) (attempts h d m) there in
        omega (arith, few)
    go false e ih = ih
eight-at-most n s (c ∷ h) lawful d m = eight-at-most n s h lawful.2 d m

-- ---- the laws

arrived : (n s d number : ℕ) (h k : History) → IsLawful n d k → CameOver s d h k number outcomes.Applied → HasArrived s d h k number
arrived n s d number h k lawful came = record {
  came = came;
  stands = λ brings unremoved.
      let w = came.was_received in
      let all = subst (λ (x : History). IsLawful n d x) w.there lawful in
      subst (λ (x : History). has_version (key_of came.effect) (id_of came.effect) (told d x (target_of came.effect)) ≡ true) (sym w.there)
      (stands-told d (w.later ++ command.Receive s number came.effect ∷ w.earlier) (target_of came.effect) (key_of came.effect) (id_of came.effect)
      (stands-later n d w.later (command.Receive s number came.effect ∷ w.earlier) (target_of came.effect) (key_of came.effect) (id_of came.effect)
      all unremoved
      (stands-received d w.earlier s number came.effect w.came brings)));
}

pub completed_has_arrived : CompletedHasArrived
completed_has_arrived n s d number h k lawful agrees is =
    arrived n s d number h k lawful
    (settled-came-over s d h k number outcomes.Applied agrees (came-completed (settled_with h d number) (attempts h d number) is))

pub failed_was_refused : FailedWasRefused
failed_was_refused s d number h k reason agrees is =
    settled-came-over s d h k number (outcomes.Refused reason) agrees (came-failed (settled_with h d number) (attempts h d number) reason is)

pub exhausted_was_given_up : ExhaustedWasGivenUp
exhausted_was_given_up n s d number h lawful is =
    let parts = came-exhausted (settled_with h d number) (attempts h d number) is in
    record { unanswered = parts.0; eight = omega (arith, parts.1, eight-at-most n s h lawful d number) }

-- a number below the least that passes doesn't pass
below-least : (p : ℕ → Bool) (a n m : ℕ) → a ≤ m → m < least p a n → p m ≡ false
below-least p a zero m from below = absurd (omega (arith, from, below))
below-least p a (suc n) m from below = go (p a) refl below (m == a) refl (below-least p (suc a) n m)
  where
    go : (t : Bool) → p a ≡ t → m < cond t a (least p (suc a) n) → (u : Bool) → (m == a) ≡ u
        → (suc a ≤ m → m < least p (suc a) n → p m ≡ false) → p m ≡ false
    go true e below u same rest = absurd (omega (arith, from, below))
    go false e below true same rest = ap p (eqb-true m a same) ∙ e
    go false e below false other rest = rest (grind (arith, nat_tests)) below

pub nothing_is_lost : NothingIsLost
nothing_is_lost n s d number h k lawful lawful_there agrees none above within =
    let ended : pending h d number ≡ false = below-least (pending h d) 1 (sent (deeds s h) d) number above
    (omega (arith, within, none, first-is h (deeds s h) d)) in
    go (task_state h d number) refl ended
  where
    go : (state : TaskState) → task_state h d number ≡ state → is_pending state ≡ false
        → HasArrived s d h k number ⊎ (((reason : Reason) × CameOver s d h k number (outcomes.Refused reason)) ⊎ WasGivenUp h d number)
    go states.Pending is ended = absurd (true≢false ended)
    go states.Completed is ended = inl (completed_has_arrived n s d number h k lawful_there agrees is)
    go (states.Failed reason) is ended = inr (inl (reason, failed_was_refused s d number h k reason agrees is))
    go states.Exhausted is ended = inr (inr (exhausted_was_given_up n s d number h lawful is))
