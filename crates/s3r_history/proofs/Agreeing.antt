-- Two regions that agree go on to agree.
use Rattle.std.proofs.Common.{◌≡◌, ℕ, zero, suc, ◌+◌, ◌-◌, ◌<◌, ◌≤◌, inr, Bool, true, false, cond, ◌&&◌, ◌==◌, nat_lt, List, [], ◌∷◌, ◌++◌, length, Option, Some, None, refl, sym, subst, ap, ◌∙◌, arith, length-append, eq-eqb}
use Rattle.std.specs.Prelude.{slice_get}
use Rattle.std.specs.List.{AllByRecursion}
use Rattle.std.proofs.lemmas.Bool.Decides.{nat_tests}
use Rattle.s3r_names.specs.declared.outcome.Outcome.{Outcome}
use Rattle.s3r_names.specs.declared.outcome.Outcome.TheVariants as outcomes
use Rattle.s3r_record.specs.declared.command.Command.{Command}
use Rattle.s3r_record.specs.declared.command.Command.TheVariants as command
use Rattle.s3r_queue.specs.declared.task.TaskState.TheVariants as states
use Rattle.s3r_queue.specs.Tasks.{state_by, is_pending, first_of}
use Rattle.s3r_queue.specs.Received.{watermark_of}
use Rattle.s3r_history.specs.Words.{History, or_else}
use Rattle.s3r_history.specs.Past.{Carried, Deed, Past}
use Rattle.s3r_history.specs.Deeds.{deeds, deed, judge}
use Rattle.s3r_history.specs.Placed.{sends_to, prescribed}
use Rattle.s3r_history.specs.Tasks.{sent, settled_with, attempts, task_state, tasks_from, first, Received, receipt, received, last_of}
use Rattle.s3r_history.proofs.TaskSteps.{settled-quiet}
use Rattle.s3r_history.proofs.QueueSteps.{received-elsewhere}
use Rattle.s3r_history.specs.Agree.{Rise, IsSent, CameTo, Agrees}
use Rattle.s3r_history.specs.AgreeLaws.{StaysAtSender, StaysAtReceiver, StaysWithItself, MayArrive, StaysAtReceive, StaysAtOwnReceive, StaysAtSettle, StaysAtOwnSettle, MayArriveLater, WasReceivedLater}

-- ---- the first pending task

-- the least of so many numbers from a on that passes, one above all where none does
abbrev pub least : (ℕ → Bool) → ℕ → ℕ → ℕ
least p a zero = a
least p a (suc n) = cond (p a) a (least p (suc a) n)

abbrev pub pending : History → ℕ → ℕ → Bool
pending h d n = is_pending (task_state h d n)

pub first-least : (h : History) (d n : ℕ) (es : List Carried) → first_of (tasks_from h d n es) + n ≡ least (pending h d) n (length es) + 1
first-least h d n [] = omega arith
first-least h d n (e ∷ es) = go (pending h d n) (first-least h d (suc n) es)
  where
    go : (t : Bool) → first_of (tasks_from h d (suc n) es) + suc n ≡ least (pending h d) (suc n) (length es) + 1
        → cond t 1 (suc (first_of (tasks_from h d (suc n) es))) + n ≡ cond t n (least (pending h d) (suc n) (length es)) + 1
    go true ih = omega arith
    go false ih = omega (arith, ih)

pub first-is : (h : History) (past : Past) (d : ℕ) → first h past d ≡ least (pending h d) 1 (sent past d)
first-is h past d = omega (arith, first-least h d 1 (prescribed past d))

pub least-from : (p : ℕ → Bool) (a n : ℕ) → a ≤ least p a n
least-from p a zero = omega arith
least-from p a (suc n) = go (p a) (least-from p (suc a) n)
  where
    go : (t : Bool) → suc a ≤ least p (suc a) n → a ≤ cond t a (least p (suc a) n)
    go true h = omega arith
    go false h = omega arith

-- with more numbers to look at it is no less
pub least-more : (p : ℕ → Bool) (a n m : ℕ) → n ≤ m → least p a n ≤ least p a m
least-more p a zero m h = least-from p a m
least-more p a (suc n) zero h = absurd (omega arith)
least-more p a (suc n) (suc m) h = go (p a) (least-more p (suc a) n m (omega arith))
  where
    go : (t : Bool) → least p (suc a) n ≤ least p (suc a) m → cond t a (least p (suc a) n) ≤ cond t a (least p (suc a) m)
    go true h = omega arith
    go false h = h

-- nor where less passes
pub least-less : (p q : ℕ → Bool) (a n : ℕ) → ((i : ℕ) → q i ≡ true → p i ≡ true) → least p a n ≤ least q a n
least-less p q a zero h = omega arith
least-less p q a (suc n) h = go (p a) (q a) (h a) (least-less p q (suc a) n h) (least-from q (suc a) n)
  where
    go : (t u : Bool) → (u ≡ true → t ≡ true) → least p (suc a) n ≤ least q (suc a) n → suc a ≤ least q (suc a) n
        → cond t a (least p (suc a) n) ≤ cond u a (least q (suc a) n)
    go true true f h k = omega arith
    go true false f h k = omega arith
    go false true f h k = absurd (cc (f refl))
    go false false f h k = h

-- a task that is pending was so before
fewer_attempts : (o : Option Outcome) (k : ℕ) → is_pending (state_by o (suc k)) ≡ true → is_pending (state_by o k) ≡ true
fewer_attempts (Some outcomes.Applied) k h = h
fewer_attempts (Some (outcomes.Refused reason)) k h = h
fewer_attempts None k h = go (nat_lt k 8) refl
  where
    go : (t : Bool) → nat_lt k 8 ≡ t → is_pending (cond t states.Pending states.Exhausted) ≡ true
    go true e = refl
    go false e = let more : nat_lt (suc k) 8 ≡ false = grind (arith, nat_tests) in absurd (cc)

pub pending-before : (d n : ℕ) (c : Command) (h : History) → pending (c ∷ h) d n ≡ true → pending h d n ≡ true
pending-before d n (command.Settle to number outcome) h p = go ((to == d) && (number == n)) outcome p
  where
    go : (t : Bool) (outcome : Outcome) → is_pending (state_by (or_else (cond t (Some outcome) None) (settled_with h d n)) (attempts h d n)) ≡ true
        → pending h d n ≡ true
    go true outcomes.Applied p = absurd cc
    go true (outcomes.Refused reason) p = absurd cc
    go false outcome p = p
pending-before d n (command.Attempt to number) h p = go ((to == d) && (number == n)) p
  where
    go : (t : Bool) → is_pending (state_by (settled_with h d n) (cond t (suc (attempts h d n)) (attempts h d n))) ≡ true → pending h d n ≡ true
    go true p = fewer_attempts (settled_with h d n) (attempts h d n) p
    go false p = p
pending-before d n _ h p = p

pub first-more : (h : History) (past : Past) (d : ℕ) (c : Command) (e : Deed) → first h past d ≤ first (c ∷ h) (e ∷ past) d
first-more h past d c e =
    let longer : sent past d ≤ sent (e ∷ past) d = omega (arith, length-append (prescribed past d) (sends_to d e.sends)) in
    omega (
      arith,
      first-is h past d,
      first-is (c ∷ h) (e ∷ past) d,
      least-more (pending h d) 1 (sent past d) (sent (e ∷ past) d) longer,
      least-less (pending h d) (pending (c ∷ h) d) 1 (sent (e ∷ past) d) (λ n. pending-before d n c h),
    )

-- ---- what was prescribed stays

pub slice_get-append : {X : Type 0} (xs ys : List X) (i : ℕ) (x : X) → slice_get xs i ≡ Some x → slice_get (xs ++ ys) i ≡ Some x
slice_get-append [] ys i x h = absurd cc
slice_get-append (y ∷ xs) ys zero x h = h
slice_get-append (y ∷ xs) ys (suc i) x h = slice_get-append xs ys i x h

pub each-of : {X : Type 0} (P Q : X → Type 0) → ((x : X) → P x → Q x) → (xs : List X) → AllByRecursion P xs → AllByRecursion Q xs
each-of P Q f [] h = tt
each-of P Q f (x ∷ xs) h = (f x h.0, each-of P Q f xs h.1)

still_sent : (h : History) (past : Past) (d : ℕ) (c : Command) (e : Deed) (r : Received) → IsSent h past d r → IsSent (c ∷ h) (e ∷ past) d r
still_sent h past d c e r w = record {
  above = w.above;
  to_first = omega (arith, w.to_first, first-more h past d c e);
  to_sent = omega (arith, w.to_sent, length-append (prescribed past d) (sends_to d e.sends));
  prescribed_there = slice_get-append (prescribed past d) (sends_to d e.sends) (r.number - 1) r.effect w.prescribed_there;
}

all_still_sent : (s d : ℕ) (h k : History) (c : Command) → Agrees s d h k → AllByRecursion (IsSent (c ∷ h) (deeds s (c ∷ h)) d) (received (deeds d k) s)
all_still_sent s d h k c a =
    each-of (IsSent h (deeds s h) d) (IsSent (c ∷ h) (deeds s (c ∷ h)) d) (still_sent h (deeds s h) d c (deed s h (deeds s h) c))
    (received (deeds d k) s) a.sent_so

pub at_sender : StaysAtSender
at_sender s d h k c elsewhere a = record {
  rising = a.rising;
  sent_so = all_still_sent s d h k c a;
  settled = λ n outcome w. a.settled n outcome (sym (settled-quiet d n c h elsewhere) ∙ w);
}

agrees-along : (s d : ℕ) (h k l : History) → received (deeds d l) s ≡ received (deeds d k) s → Agrees s d h k → Agrees s d h l
agrees-along s d h k l e a = record {
  rising = subst Rise (sym e) a.rising;
  sent_so = subst (AllByRecursion (IsSent h (deeds s h) d)) (sym e) a.sent_so;
  settled = λ n outcome w. subst (CameTo n outcome) (sym e) (a.settled n outcome w);
}

pub at_receiver : StaysAtReceiver
at_receiver s d h k c elsewhere a = agrees-along s d h k (c ∷ k) (received-elsewhere s d k c elsewhere) a

pub with_itself : StaysWithItself
with_itself s h c no_settle no_receive a = at_receiver s s (c ∷ h) h c no_receive (at_sender s s h h c no_settle a)

-- ---- an effect is received

pub received-next : (s d : ℕ) (k : History) (n : ℕ) (e : Carried)
    → received (deeds d (command.Receive s n e ∷ k)) s ≡ record { number = n; effect = e; outcome = judge d k e } ∷ received (deeds d k) s
received-next s d k n e = ap (λ t. cond t (record { number = n; effect = e; outcome = judge d k e } ∷ []) [] ++ received (deeds d k) s) (eq-eqb s s refl)

all-below : (rs : List Received) (n : ℕ) → Rise rs → watermark_of (last_of rs) < n → AllByRecursion (λ (r : Received). r.number < n) rs
all-below [] n up h = tt
all-below (r ∷ rs) n up h = (h, each-of (λ (x : Received). x.number < r.number) (λ (x : Received). x.number < n) (λ x below. omega (arith, below, h)) rs up.0)

pub at_receive : StaysAtReceive
at_receive s d h k n e may above a = record {
  rising = subst Rise (sym next) (all-below (received (deeds d k) s) n a.rising above, a.rising);
  sent_so =
      subst (AllByRecursion (IsSent h (deeds s h) d)) (sym next) (
        record {
          above = omega
              (arith, above);
          to_first = may.to_first;
          to_sent = may.to_sent;
          prescribed_there = may.prescribed_there;
        },
        a.sent_so,
      );
  settled = λ m outcome w. subst (CameTo m outcome) (sym next) (inr (a.settled m outcome w));
}
  where
    next : received (deeds d (command.Receive s n e ∷ k)) s ≡ record { number = n; effect = e; outcome = judge d k e } ∷ received (deeds d k) s
    next = received-next s d k n e

pub at_own_receive : StaysAtOwnReceive
at_own_receive s h n e may above a = at_sender s s h (command.Receive s n e ∷ h) (command.Receive s n e) refl (at_receive s s h h n e may above a)

-- ---- a task is settled

pub at_settle : StaysAtSettle
at_settle s d h k n o came a = record {
  rising = a.rising;
  sent_so = all_still_sent s d h k (command.Settle d n o) a;
  settled = λ m outcome w. go m outcome (n == m) refl (sym (ap (λ t. or_else (cond (t && (n == m)) (Some o) None) (settled_with h d m)) (eq-eqb d d refl)) ∙ w);
}
  where
    go : (m : ℕ) (outcome : Outcome) (t : Bool) → (n == m) ≡ t → or_else (cond t (Some o) None) (settled_with h d m) ≡ Some outcome
        → CameTo m outcome (received (deeds d k) s)
    go m outcome true e w =
        let same : n ≡ m = grind (arith, nat_tests) in
        let as' : o ≡ outcome = cc in
        subst (λ x. CameTo x outcome (received (deeds d k) s)) same (subst (λ x. CameTo n x (received (deeds d k) s)) as' came)
    go m outcome false e w = a.settled m outcome w

pub at_own_settle : StaysAtOwnSettle
at_own_settle s h n o came a = at_receiver s s (command.Settle s n o ∷ h) h (command.Settle s n o) refl (at_settle s s h h n o came a)

-- ---- any further commands

may_next : (s d : ℕ) (h : History) (c : Command) (n : ℕ) (e : Carried) → MayArrive s d h n e → MayArrive s d (c ∷ h) n e
may_next s d h c n e w = record {
  to_first = omega (arith, w.to_first, first-more h (deeds s h) d c (deed s h (deeds s h) c));
  to_sent = omega (arith, w.to_sent, length-append (prescribed (deeds s h) d) (sends_to d (deed s h (deeds s h) c).sends));
  prescribed_there = slice_get-append (prescribed (deeds s h) d) (sends_to d (deed s h (deeds s h) c).sends) (n - 1) e w.prescribed_there;
}

pub may_arrive_later : MayArriveLater
may_arrive_later s d h [] n e w = w
may_arrive_later s d h (c ∷ more) n e w = may_next s d (more ++ h) c n e (may_arrive_later s d h more n e w)

came_after : (n : ℕ) (o : Outcome) (newer rs : List Received) → CameTo n o rs → CameTo n o (newer ++ rs)
came_after n o [] rs h = h
came_after n o (r ∷ newer) rs h = inr (came_after n o newer rs h)

pub was_received_later : WasReceivedLater
was_received_later s d k [] n o w = w
was_received_later s d k (c ∷ more) n o w =
    came_after n o (receipt s (deed d (more ++ k) (deeds d (more ++ k)) c).outcome c) (received (deeds d (more ++ k)) s) (was_received_later s d k more n o w)
