-- The queues of a region, one command after another.
use Rattle.std.proofs.Common.{◌≡◌, ℕ, suc, ◌<◌, Bool, true, false, cond, ◌||◌, ◌==◌, nat_lt, List, [], ◌∷◌, ◌++◌, map, length, get_or, set, replicate, Option, Some, None, refl, sym, ap, ap₂, ◌∙◌, arith, append_assoc, append-nil, length-append, get_or-set_same, get_or-set_other, length-set, ltb-true, eqb-true}
use Rattle.std.specs.List.{list_any}
use Rattle.std.proofs.lemmas.List.{length-replicate, get_or-replicate}
use Rattle.std.proofs.lemmas.Bool.Decides.{nat_tests}
use Rattle.s3r_names.specs.declared.outcome.Outcome.{Outcome}
use Rattle.s3r_record.specs.declared.command.Command.{Command}
use Rattle.s3r_record.specs.declared.command.Command.TheVariants as command
use Rattle.s3r_queue.specs.declared.inbox.Noted.{Noted}
use Rattle.s3r_queue.specs.declared.task.Task.{Task}
use Rattle.s3r_queue.specs.Tasks.{is_pending, waits, first_of, new_task, with_outcome, one_attempt_more, on_first}
use Rattle.s3r_queue.specs.Queues.{to_region}
use Rattle.s3r_queue.specs.Received as queue
use Rattle.s3r_history.specs.declared.sent.Sent.{Sent}
use Rattle.s3r_history.specs.declared.sent.Prescribed.{Prescribed}
use Rattle.s3r_history.specs.Words.{History}
use Rattle.s3r_history.specs.Past.{Carried, Deed, Past}
use Rattle.s3r_history.specs.Placed.{sends_to, prescribed, placed_to, placed}
use Rattle.s3r_history.specs.Deeds.{deeds, deed, effects_after, judge, next_stamp}
use Rattle.s3r_history.specs.Tasks.{sent, task_state, tasks_from, placed_tasks, received, last_of}
use Rattle.s3r_history.specs.RegionView.{view}
use Rattle.s3r_history.specs.Kept.{QueuesAfter, push_one, push_all}
use Rattle.s3r_history.specs.AgreeLaws.{settles_to, receives_from}
use Rattle.s3r_history.proofs.TaskSteps.{tries_to, tasks-quiet, tasks-pushed, tasks-settled, tasks-tried}
use Rattle.s3r_history.proofs.Ahead.{none_at_first, IsNext, IsWithin, ahead-kept}

-- ---- effects with and without places

length-placed_to : (place d : ℕ) (sends : List Sent) → length (placed_to place d sends) ≡ length (sends_to d sends)
length-placed_to place d [] = refl
length-placed_to place d (s ∷ sends) = go (s.region == d) (length-placed_to place d sends)
  where
    go : (t : Bool) → length (placed_to place d sends) ≡ length (sends_to d sends)
        → length (cond t (record { effect = s.effect; place = place } ∷ placed_to place d sends) (placed_to place d sends))
        ≡ length (cond t (s.effect ∷ sends_to d sends) (sends_to d sends))
    go true ih = ap suc ih
    go false ih = ih

pub length-placed : (past : Past) (d : ℕ) → length (placed past d) ≡ sent past d
length-placed [] d = refl
length-placed (e ∷ past) d =
    omega (
      arith,
      length-append (placed past d) (placed_to e.stamp.index d e.sends),
      length-append (prescribed past d) (sends_to d e.sends),
      length-placed past d,
      length-placed_to e.stamp.index d e.sends,
    )

-- which task is the first pending one doesn't depend on what the effects are
pub same-first : {E F : Type 0} (h : History) (d n : ℕ) (es : List E) (fs : List F) → length es ≡ length fs
    → (list_any waits (tasks_from h d n es) ≡ list_any waits (tasks_from h d n fs)) × (first_of (tasks_from h d n es) ≡ first_of (tasks_from h d n fs))
same-first h d n [] [] same = (refl, refl)
same-first h d n [] (f ∷ fs) same = absurd (omega arith)
same-first h d n (e ∷ es) [] same = absurd (omega arith)
same-first h d n (e ∷ es) (f ∷ fs) same =
    let rest = same-first h d (suc n) es fs (omega arith) in
    (ap (λ t. is_pending (task_state h d n) || t) rest.0, ap (λ k. cond (is_pending (task_state h d n)) 1 (suc k)) rest.1)

-- ---- what is pushed

push-length : (place : ℕ) (s : Sent) (outbox : List (List (Task Prescribed))) → length (push_one place s outbox) ≡ length outbox
push-length place s outbox = go (nat_lt s.region (length outbox))
  where
    go : (t : Bool) → length (cond t (set outbox s.region (to_region outbox s.region ++ new_task (record { effect = s.effect; place = place }) ∷ [])) outbox)
        ≡ length outbox
    go true = length-set outbox s.region (to_region outbox s.region ++ new_task (record { effect = s.effect; place = place }) ∷ [])
    go false = refl

pub push_all-length : (place : ℕ) (sends : List Sent) (outbox : List (List (Task Prescribed))) → length (push_all place sends outbox) ≡ length outbox
push_all-length place [] outbox = refl
push_all-length place (s ∷ sends) outbox = push_all-length place sends (push_one place s outbox) ∙ push-length place s outbox

push-one : (place d : ℕ) (s : Sent) (outbox : List (List (Task Prescribed))) → d < length outbox
    → to_region (push_one place s outbox) d ≡ cond (s.region == d) (to_region outbox d ++ new_task (record { effect = s.effect; place = place }) ∷ [])
    (to_region outbox d)
push-one place d s outbox within = go (nat_lt s.region (length outbox)) (s.region == d) refl refl
  where
    pushed : List (Task Prescribed)
    pushed = to_region outbox s.region ++ new_task (record { effect = s.effect; place = place }) ∷ []

    go : (t u : Bool) → nat_lt s.region (length outbox) ≡ t → (s.region == d) ≡ u
        → to_region (cond t (set outbox s.region pushed) outbox) d ≡ cond u (to_region outbox d ++ new_task (record { effect = s.effect; place = place }) ∷ [])
        (to_region outbox d)
    go true true lt e =
        let same = eqb-true s.region d e in
        ap (λ (x : ℕ). get_or (set outbox s.region pushed) x []) (sym same)
        ∙ get_or-set_same outbox s.region pushed [] (ltb-true s.region (length outbox) lt)
        ∙ ap (λ (x : ℕ). to_region outbox x ++ new_task (record { effect = s.effect; place = place }) ∷ []) same
    go true false lt e =
        get_or-set_other outbox s.region d pushed [] (λ (same : d ≡ s.region). absurd (let both : (s.region == d) ≡ true = grind (arith, nat_tests) in cc))
    go false true lt e =
        absurd (let same : s.region ≡ d = eqb-true s.region d e in let both : nat_lt s.region (length outbox) ≡ true = grind (arith, nat_tests) in cc)
    go false false lt e = refl

-- All that a command sends is put behind the tasks to its region.
pub push-all : (place d : ℕ) (sends : List Sent) (outbox : List (List (Task Prescribed))) → d < length outbox
    → to_region (push_all place sends outbox) d ≡ to_region outbox d ++ map new_task (placed_to place d sends)
push-all place d [] outbox within = sym (append-nil (to_region outbox d))
push-all place d (s ∷ sends) outbox within =
    push-all place d sends (push_one place s outbox) (omega (arith, within, push-length place s outbox))
    ∙ ap (λ xs. xs ++ map new_task (placed_to place d sends)) (push-one place d s outbox within)
    ∙ go (s.region == d)
  where
    go : (t : Bool) → cond t (to_region outbox d ++ new_task (record { effect = s.effect; place = place }) ∷ []) (to_region outbox d)
        ++ map new_task (placed_to place d sends)
        ≡ to_region outbox d ++ map new_task (cond t (record { effect = s.effect; place = place } ∷ placed_to place d sends) (placed_to place d sends))
    go true = append_assoc (to_region outbox d) (new_task (record { effect = s.effect; place = place }) ∷ []) (map new_task (placed_to place d sends))
    go false = refl

-- ---- command by command

pub queues-new : (r regions : ℕ) → QueuesAfter r regions (replicate regions []) (replicate regions None) []
queues-new r regions = record {
  boxes = length-replicate regions [];
  notes = length-replicate regions None;
  tasks = λ d within. get_or-replicate regions d [] [] within;
  last = λ s within. get_or-replicate regions s None None within;
  ahead = none_at_first;
}

-- the command receives, settles and tries nothing
pub record IsPlain (c : Command) : Type 0 where
  pub settles : (d : ℕ) → settles_to d c ≡ false
  pub tries : (d : ℕ) → tries_to d c ≡ false
  pub receives : (s : ℕ) → receives_from s c ≡ false

pub received-elsewhere : (s d : ℕ) (k : History) (c : Command) → receives_from s c ≡ false → received (deeds d (c ∷ k)) s ≡ received (deeds d k) s
received-elsewhere s d k (command.Receive from number effect) e =
    ap (λ t. cond t (record { number = number; effect = effect; outcome = judge d k effect } ∷ []) [] ++ received (deeds d k) s) e
received-elsewhere s d k _ e = refl

-- A command that receives, settles and tries nothing pushes what it sends.
pub queues-push : (r regions : ℕ) (outbox : List (List (Task Prescribed))) (inbox : List (Option Noted)) (h : History) (c : Command) → IsPlain c
    → IsWithin (deeds r h) c
    → QueuesAfter r regions outbox inbox h → QueuesAfter r regions (push_all (next_stamp r (deeds r h)).index (effects_after r h c) outbox) inbox (c ∷ h)
queues-push r regions outbox inbox h c plain within a = record {
  boxes = push_all-length (next_stamp r (deeds r h)).index (effects_after r h c) outbox ∙ a.boxes;
  notes = a.notes;
  tasks = λ d lt.
      push-all (next_stamp r (deeds r h)).index d (effects_after r h c) outbox (omega (arith, lt, a.boxes))
      ∙ ap (λ xs. xs ++ map new_task (placed_to (next_stamp r (deeds r h)).index d (effects_after r h c))) (a.tasks d lt)
      ∙ sym (tasks-pushed d h (deeds r h) c (placed (deeds r h) d) (placed_to (next_stamp r (deeds r h)).index d (effects_after r h c)) (plain.settles d)
      (plain.tries d) a.ahead (length-placed (deeds r h) d));
  last = λ s lt. a.last s lt ∙ sym (ap last_of (received-elsewhere s r h c (plain.receives s)));
  ahead = ahead-kept h (deeds r h) c (deed r h (deeds r h) c) within a.ahead;
}

-- A command that sends nothing leaves what is placed.
placed-same : (past : Past) (d : ℕ) (e : Deed) → e.sends ≡ [] → placed (e ∷ past) d ≡ placed past d
placed-same past d e none = ap (λ sends. placed past d ++ placed_to e.stamp.index d sends) none ∙ append-nil (placed past d)

-- An effect that is received is noted with what it comes to.
pub queues-receive : (r regions : ℕ) (outbox : List (List (Task Prescribed))) (inbox : List (Option Noted)) (h : History) (from number : ℕ) (e : Carried)
    → from < regions → QueuesAfter r regions outbox inbox h
    → QueuesAfter r regions outbox (set inbox from (Some (record { number = number; outcome = judge r h e }))) (command.Receive from number e ∷ h)
queues-receive r regions outbox inbox h from number e there a = record {
  boxes = a.boxes;
  notes = length-set inbox from (Some (record { number = number; outcome = judge r h e })) ∙ a.notes;
  tasks = λ d lt.
      a.tasks d lt
      ∙ sym (ap (tasks_from (command.Receive from number e ∷ h) d 1) (placed-same (deeds r h) d (deed r h (deeds r h) (command.Receive from number e)) refl)
      ∙ tasks-quiet d 1 (command.Receive from number e) h (placed (deeds r h) d) refl refl);
  last = λ s lt. noted s lt (from == s) refl;
  ahead = ahead-kept h (deeds r h) (command.Receive from number e) (deed r h (deeds r h) (command.Receive from number e)) tt a.ahead;
}
  where
    last : Option Noted
    last = Some (record { number = number; outcome = judge r h e })

    noted : (s : ℕ) → s < regions → (t : Bool) → (from == s) ≡ t
        → queue.last_from (set inbox from last) s ≡ last_of (cond t (record { number = number; effect = e; outcome = judge r h e } ∷ []) []
        ++ received (deeds r h) s)
    noted s lt true e' =
        ap (λ (x : ℕ). get_or (set inbox from last) x None) (sym (eqb-true from s e')) ∙ get_or-set_same inbox from last None (omega (arith, there, a.notes))
    noted s lt false e' =
        get_or-set_other inbox from s last None (λ (same : s ≡ from). absurd (let both : (from == s) ≡ true = grind (arith, nat_tests) in cc)) ∙ a.last s lt

-- A task that is settled is the first pending one.
pub queues-settle : (r regions : ℕ) (outbox : List (List (Task Prescribed))) (inbox : List (Option Noted)) (h : History) (to number : ℕ) (o : Outcome)
    → to < regions → IsNext h (deeds r h) to number
    → QueuesAfter r regions outbox inbox h → QueuesAfter r regions (set outbox to (on_first (with_outcome o) (to_region outbox to))) inbox
    (command.Settle to number o ∷ h)
queues-settle r regions outbox inbox h to number o there next a = record {
  boxes = length-set outbox to (on_first (with_outcome o) (to_region outbox to)) ∙ a.boxes;
  notes = a.notes;
  tasks =
      λ d lt. at d lt (to == d) refl ∙ sym (ap (tasks_from (command.Settle to number o ∷ h) d 1)
      (placed-same (deeds r h) d (deed r h (deeds r h) (command.Settle to number o)) refl));
  last = a.last;
  ahead = ahead-kept h (deeds r h) (command.Settle to number o) (deed r h (deeds r h) (command.Settle to number o)) next.within a.ahead;
}
  where
    first : (list_any waits (placed_tasks h (deeds r h) to) ≡ true) × (number ≡ first_of (placed_tasks h (deeds r h) to))
    first =
        let same = same-first h to 1 (placed (deeds r h) to) (prescribed (deeds r h) to) (length-placed (deeds r h) to) in
        (same.0 ∙ next.pending, next.first ∙ sym same.1)

    at : (d : ℕ) → d < regions → (t : Bool) → (to == d) ≡ t
        → to_region (set outbox to (on_first (with_outcome o) (to_region outbox to))) d ≡ tasks_from (command.Settle to number o ∷ h) d 1 (placed (deeds r h) d)
    at d lt true e =
        let same = eqb-true to d e in
        ap (λ (x : ℕ). get_or (set outbox to (on_first (with_outcome o) (to_region outbox to))) x []) (sym same)
        ∙ get_or-set_same outbox to (on_first (with_outcome o) (to_region outbox to)) [] (omega (arith, there, a.boxes))
        ∙ ap (on_first (with_outcome o)) (a.tasks to there)
        ∙ sym (tasks-settled to number o h (placed (deeds r h) to) first.0 first.1)
        ∙ ap (λ (x : ℕ). tasks_from (command.Settle to number o ∷ h) x 1 (placed (deeds r h) x)) same
    at d lt false e =
        get_or-set_other outbox to d (on_first (with_outcome o) (to_region outbox to)) []
        (λ (same : d ≡ to). absurd (let both : (to == d) ≡ true = grind (arith, nat_tests) in cc))
        ∙ a.tasks d lt
        ∙ sym (tasks-quiet d 1 (command.Settle to number o) h (placed (deeds r h) d) e refl)

-- One attempt more is made for the first pending task.
pub queues-attempt : (r regions : ℕ) (outbox : List (List (Task Prescribed))) (inbox : List (Option Noted)) (h : History) (to number : ℕ) → to < regions
    → IsNext h (deeds r h) to number
    → QueuesAfter r regions outbox inbox h → QueuesAfter r regions (set outbox to (on_first one_attempt_more (to_region outbox to))) inbox
    (command.Attempt to number ∷ h)
queues-attempt r regions outbox inbox h to number there next a = record {
  boxes = length-set outbox to (on_first one_attempt_more (to_region outbox to)) ∙ a.boxes;
  notes = a.notes;
  tasks =
      λ d lt. at d lt (to == d) refl ∙ sym (ap (tasks_from (command.Attempt to number ∷ h) d 1)
      (placed-same (deeds r h) d (deed r h (deeds r h) (command.Attempt to number)) refl));
  last = a.last;
  ahead = ahead-kept h (deeds r h) (command.Attempt to number) (deed r h (deeds r h) (command.Attempt to number)) next.within a.ahead;
}
  where
    first : (list_any waits (placed_tasks h (deeds r h) to) ≡ true) × (number ≡ first_of (placed_tasks h (deeds r h) to))
    first =
        let same = same-first h to 1 (placed (deeds r h) to) (prescribed (deeds r h) to) (length-placed (deeds r h) to) in
        (same.0 ∙ next.pending, next.first ∙ sym same.1)

    at : (d : ℕ) → d < regions → (t : Bool) → (to == d) ≡ t
        → to_region (set outbox to (on_first one_attempt_more (to_region outbox to))) d ≡ tasks_from (command.Attempt to number ∷ h) d 1 (placed (deeds r h) d)
    at d lt true e =
        let same = eqb-true to d e in
        ap (λ (x : ℕ). get_or (set outbox to (on_first one_attempt_more (to_region outbox to))) x []) (sym same)
        ∙ get_or-set_same outbox to (on_first one_attempt_more (to_region outbox to)) [] (omega (arith, there, a.boxes))
        ∙ ap (on_first one_attempt_more) (a.tasks to there)
        ∙ sym (tasks-tried to number h (placed (deeds r h) to) first.0 first.1)
        ∙ ap (λ (x : ℕ). tasks_from (command.Attempt to number ∷ h) x 1 (placed (deeds r h) x)) same
    at d lt false e =
        get_or-set_other outbox to d (on_first one_attempt_more (to_region outbox to)) []
        (λ (same : d ≡ to). absurd (let both : (to == d) ≡ true = grind (arith, nat_tests) in cc))
        ∙ a.tasks d lt
        ∙ sym (tasks-quiet d 1 (command.Attempt to number) h (placed (deeds r h) d) refl e)

-- ---- what is told of them

-- The number of the first pending task is read off the queue.
pub next-queued : (r regions : ℕ) (outbox : List (List (Task Prescribed))) (inbox : List (Option Noted)) (h : History) (d : ℕ) → d < regions
    → QueuesAfter r regions outbox inbox h
    → (view r h).next d ≡ cond (list_any waits (to_region outbox d)) (first_of (to_region outbox d)) 0
next-queued r regions outbox inbox h d there a =
    let same = same-first h d 1 (prescribed (deeds r h) d) (placed (deeds r h) d) (sym (length-placed (deeds r h) d)) in
    ap₂ (λ t n. cond t n 0) same.0 same.1 ∙ ap (λ ts. cond (list_any waits ts) (first_of ts) 0) (sym (a.tasks d there))

-- The number that was received last is read off what is noted.
pub last-noted : (r regions : ℕ) (outbox : List (List (Task Prescribed))) (inbox : List (Option Noted)) (h : History) (s : ℕ) → s < regions
    → QueuesAfter r regions outbox inbox h → (view r h).last s ≡ queue.watermark_of (queue.last_from inbox s)
last-noted r regions outbox inbox h s there a = ap queue.watermark_of (sym (a.last s there))
