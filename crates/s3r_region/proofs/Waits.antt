-- The queues after one command more.
use Rattle.std.proofs.Common.{◌≡◌, ℕ, ◌<◌, ◌≤◌, Bool, true, false, cond, ◌==◌, nat_le, List, [], ◌∷◌, ◌++◌, set, reverse, replicate, Option, Some, None, refl, sym, subst, ap, ◌∙◌, arith, lt-ltb}
use Rattle.std.specs.List.{list_any}
use Rattle.std.proofs.lemmas.List.{reverse-append}
use Rattle.std.proofs.lemmas.Bool.Decides.{nat_tests}
use Rattle.s3r_names.specs.declared.outcome.Outcome.{Outcome}
use Rattle.s3r_record.specs.declared.command.Command.TheVariants as command
use Rattle.s3r_queue.specs.declared.inbox.Noted.{Noted}
use Rattle.s3r_queue.specs.declared.inbox.Arrival.TheVariants as arrivals
use Rattle.s3r_queue.specs.declared.task.Task.{Task}
use Rattle.s3r_queue.specs.Tasks.{waits, with_outcome, one_attempt_more, on_first}
use Rattle.s3r_queue.specs.Queues.{to_region}
use Rattle.s3r_queue.specs.Received as queue
use Rattle.s3r_queue.specs.Received.{watermark_of, arrival_of}
use Rattle.s3r_history.specs.declared.refusal.Refusal.TheVariants as refusals
use Rattle.s3r_history.specs.declared.sent.Sent.{Sent}
use Rattle.s3r_history.specs.declared.sent.Prescribed.{Prescribed}
use Rattle.s3r_history.specs.Words.{History}
use Rattle.s3r_history.specs.Past.{Carried}
use Rattle.s3r_history.specs.Placed.{prescribed, placed}
use Rattle.s3r_history.specs.Deeds.{deeds, judge}
use Rattle.s3r_history.specs.Tasks.{next_task, last_from}
use Rattle.s3r_history.specs.Accepts.{Cause, first_of_causes, in_region, of_receipt, of_task, refusal}
use Rattle.s3r_history.specs.Kept.{QueuesAfter, push_one, push_all}
use Rattle.s3r_history.proofs.Ahead.{IsNext, accepted-next, next-is}
use Rattle.s3r_history.proofs.QueueSteps.{queues-receive, queues-new, queues-settle, queues-attempt, same-first, length-placed}
use Rattle.s3r_region.specs.Waiting.{Waiting, IsAfter}

pub after-new : (r n : ℕ) (outbox : List (List (Task Prescribed))) (inbox : List (Option Noted)) → outbox ≡ replicate n [] → inbox ≡ replicate n None
    → QueuesAfter r n outbox inbox []
after-new r n outbox inbox is at =
    subst (λ (o : List (List (Task Prescribed))). QueuesAfter r n o inbox []) (sym is) (subst (λ (i : List (Option Noted)). QueuesAfter r n
    (replicate n []) i []) (sym at) (queues-new r n))

-- a command that is accepted is about a region that is there
in-region : (n r : ℕ) (more : List Cause) → first_of_causes (in_region n r more) ≡ None → r < n
in-region n r more ok = go (nat_le n r) refl ok
  where
    go : (t : Bool) → nat_le n r ≡ t → cond t (Some (refusals.NoSuchRegion r)) (first_of_causes more) ≡ None → r < n
    go true e ok = absurd cc
    go false e ok = grind (arith, nat_tests)

-- ---- an effect is received

pub after-noted : (r n from number : ℕ) (o : Outcome) (outbox : List (List (Task Prescribed))) (inbox new : List (Option Noted)) → new
    ≡ set inbox from (Some (record { number = number; outcome = o }))
    → (h : History) (e : Carried) → refusal n r h (command.Receive from number e) ≡ None → o ≡ judge r h e → QueuesAfter r n outbox inbox h
    → QueuesAfter r n outbox new (command.Receive from number e ∷ h)
after-noted r n from number o outbox inbox new is h e ok came a =
    subst (λ (i : List (Option Noted)). QueuesAfter r n outbox i (command.Receive from number e ∷ h))
    (sym (is ∙ ap (λ (x : Outcome). set inbox from (Some (record { number = number; outcome = x }))) came))
    (queues-receive r n outbox inbox h from number e (in-region n from (of_receipt number (watermark_of (last_from (deeds r h) from))) ok) a)

is-new : (last : Option Noted) (number : ℕ) → watermark_of last < number → arrival_of last number ≡ arrivals.New
is-new None number lt = refl
is-new (Some last) number lt = ap (λ t. cond t arrivals.New (cond (number == last.number) (arrivals.Again last.outcome) (arrivals.Behind last.number)))
    (lt-ltb last.number number lt)

above : (n from number last : ℕ) → first_of_causes (in_region n from (of_receipt number last)) ≡ None → last < number
above n from number last ok = go (nat_le n from) (nat_le number last) refl ok
  where
    go : (t u : Bool) → nat_le number last ≡ u → cond t (Some (refusals.NoSuchRegion from)) (cond u (Some (refusals.NotNext last)) None) ≡ None → last < number
    go true u e ok = absurd cc
    go false true e ok = absurd cc
    go false false e ok = grind (arith, nat_tests)

-- one that is accepted is new
pub accepted-new : (r n from number : ℕ) (outbox : List (List (Task Prescribed))) (inbox : List (Option Noted)) (h : History) (e : Carried)
    → refusal n r h (command.Receive from number e) ≡ None → QueuesAfter r n outbox inbox h → arrival_of (queue.last_from inbox from) number ≡ arrivals.New
accepted-new r n from number outbox inbox h e ok a =
    is-new (queue.last_from inbox from) number
    (let same = a.last from (in-region n from (of_receipt number (watermark_of (last_from (deeds r h) from))) ok) in subst (λ
    (last : Option Noted). watermark_of last < number) (sym same) (above n from number (watermark_of (last_from (deeds r h) from)) ok))

pub not-beyond-receive : {A : Type 0} (r n from number : ℕ) (h : History) (e : Carried) → n ≤ from → refusal n r h (command.Receive from number e) ≡ None → A
not-beyond-receive r n from number h e le ok = absurd (let lt = in-region n from (of_receipt number (watermark_of (last_from
    (deeds r h) from))) ok in omega arith)

-- ---- a task is settled, or tried

next : (r n to number : ℕ) (h : History) → 1 ≤ number → first_of_causes (in_region n to (of_task number (next_task h (deeds r h) to))) ≡ None
    → IsNext h (deeds r h) to number
next r n to number h above ok = next-is h (deeds r h) to number above (accepted-next n to number (next_task h (deeds r h) to) ok)

-- a task is pending then
pub some-pending : (r n to number : ℕ) (outbox : List (List (Task Prescribed))) (inbox : List (Option Noted)) (h : History) → 1 ≤ number
    → first_of_causes (in_region n to (of_task number (next_task h (deeds r h) to))) ≡ None → QueuesAfter r n outbox inbox h
    → list_any waits (to_region outbox to) ≡ true
some-pending r n to number outbox inbox h above ok a =
    ap (list_any waits) (a.tasks to (in-region n to (of_task number (next_task h (deeds r h) to)) ok))
    ∙ (same-first h to 1 (placed (deeds r h) to) (prescribed (deeds r h) to) (length-placed (deeds r h) to)).0
    ∙ (next r n to number h above ok).pending

pub after-settled : (r n to number claimed : ℕ) (o : Outcome) (outbox new : List (List (Task Prescribed))) (inbox : List (Option Noted)) → claimed ≡ to → new
    ≡ set outbox claimed (on_first (with_outcome o) (to_region outbox claimed)) → 1 ≤ number
    → (h : History) → refusal n r h (command.Settle to number o) ≡ None → QueuesAfter r n outbox inbox h
    → QueuesAfter r n new inbox (command.Settle to number o ∷ h)
after-settled r n to number claimed o outbox new inbox same is above h ok a =
    subst (λ (x : List (List (Task Prescribed))). QueuesAfter r n x inbox (command.Settle to number o ∷ h)) (sym (is
    ∙ ap (λ (x : ℕ). set outbox x (on_first (with_outcome o) (to_region outbox x))) same))
    (queues-settle r n outbox inbox h to number o (in-region n to (of_task number (next_task h (deeds r h) to)) ok) (next r n to number h above ok) a)

pub after-tried : (r n to number claimed : ℕ) (outbox new : List (List (Task Prescribed))) (inbox : List (Option Noted)) → claimed ≡ to → new
    ≡ set outbox claimed (on_first one_attempt_more (to_region outbox claimed)) → 1 ≤ number
    → (h : History) → refusal n r h (command.Attempt to number) ≡ None → QueuesAfter r n outbox inbox h
    → QueuesAfter r n new inbox (command.Attempt to number ∷ h)
after-tried r n to number claimed outbox new inbox same is above h ok a =
    subst (λ (x : List (List (Task Prescribed))). QueuesAfter r n x inbox (command.Attempt to number ∷ h)) (sym (is
    ∙ ap (λ (x : ℕ). set outbox x (on_first one_attempt_more (to_region outbox x))) same))
    (queues-attempt r n outbox inbox h to number (in-region n to (of_task number (next_task h (deeds r h) to)) ok) (next r n to number h above ok) a)

pub not-beyond : {A : Type 0} (n to number next : ℕ) → n ≤ to → first_of_causes (in_region n to (of_task number next)) ≡ None → A
not-beyond n to number next le ok = absurd (let lt = in-region n to (of_task number next) ok in omega arith)

pub not-none : {A : Type 0} (r n to number : ℕ) (outbox : List (List (Task Prescribed))) (inbox : List (Option Noted)) (h : History) → 1 ≤ number
    → list_any waits (to_region outbox to) ≡ false
    → first_of_causes (in_region n to (of_task number (next_task h (deeds r h) to))) ≡ None → QueuesAfter r n outbox inbox h → A
not-none r n to number outbox inbox h above none ok a = absurd (let some = some-pending r n to number outbox inbox h above ok a in cc)

-- ---- one effect after another

-- the last of the effects that are left is the first of them turned round
pub pushed-next : (place : ℕ) (before after : List Sent) (s : Sent) (outbox new : List (List (Task Prescribed))) (all : List (List (Task Prescribed)))
    → before ≡ after ++ s ∷ [] → new ≡ push_one place s outbox
    → push_all place (reverse before) outbox ≡ all → push_all place (reverse after) new ≡ all
pushed-next place before after s outbox new all is made so =
    ap (push_all place (reverse after)) made ∙ sym (ap (λ (xs : List Sent). push_all place xs outbox) (ap reverse is ∙ reverse-append after (s ∷ []))) ∙ so

-- ---- over what is kept

pub settled-now : (r : ℕ) (w now : Waiting) (claimed t to number : ℕ) (o : Outcome) (box new : List (List (Task Prescribed))) → w ≡ now → box ≡ w.outbox
    → claimed ≡ t → t ≡ to
    → new ≡ set box claimed (on_first (with_outcome o) (to_region box claimed)) → 1 ≤ number
    → (h : History) → refusal now.regions r h (command.Settle to number o) ≡ None → IsAfter r now h
    → QueuesAfter r w.regions new w.inbox (command.Settle to number o ∷ h)
settled-now r w now claimed t to number o box new view same first second is above h ok a =
    after-settled r w.regions to number claimed o w.outbox new w.inbox (first ∙ second) (is
    ∙ ap (λ (x : List (List (Task Prescribed))). set x claimed (on_first (with_outcome o) (to_region x claimed))) same) above h
    (subst (λ (x : Waiting). refusal x.regions r h (command.Settle to number o) ≡ None) (sym view) ok) (subst (λ (x : Waiting). IsAfter r x h) (sym view) a)

pub tried-now : (r : ℕ) (w now : Waiting) (claimed t to number : ℕ) (box new : List (List (Task Prescribed))) → w ≡ now → box ≡ w.outbox → claimed ≡ t → t ≡ to
    → new ≡ set box claimed (on_first one_attempt_more (to_region box claimed)) → 1 ≤ number
    → (h : History) → refusal now.regions r h (command.Attempt to number) ≡ None → IsAfter r now h
    → QueuesAfter r w.regions new w.inbox (command.Attempt to number ∷ h)
tried-now r w now claimed t to number box new view same first second is above h ok a =
    after-tried r w.regions to number claimed w.outbox new w.inbox (first ∙ second) (is
    ∙ ap (λ (x : List (List (Task Prescribed))). set x claimed (on_first one_attempt_more (to_region x claimed))) same) above h
    (subst (λ (x : Waiting). refusal x.regions r h (command.Attempt to number) ≡ None) (sym view) ok) (subst (λ (x : Waiting). IsAfter r x h) (sym view) a)

-- where none is pending, nothing is accepted
pub none-settled : {A : Type 0} (r : ℕ) (w now : Waiting) (t to number : ℕ) (o : Outcome) → w ≡ now → t ≡ to → 1 ≤ number
    → list_any waits (to_region w.outbox t) ≡ false
    → (h : History) → refusal now.regions r h (command.Settle to number o) ≡ None → IsAfter r now h → A
none-settled r w now t to number o view second above none h ok a =
    not-none r w.regions to number w.outbox w.inbox h above (sym (ap (λ (x : ℕ). list_any waits (to_region w.outbox x)) second) ∙ none)
    (subst (λ (x : Waiting). refusal x.regions r h (command.Settle to number o) ≡ None) (sym view) ok) (subst (λ (x : Waiting). IsAfter r x h) (sym view) a)

pub none-tried : {A : Type 0} (r : ℕ) (w now : Waiting) (t to number : ℕ) → w ≡ now → t ≡ to → 1 ≤ number → list_any waits (to_region w.outbox t) ≡ false
    → (h : History) → refusal now.regions r h (command.Attempt to number) ≡ None → IsAfter r now h → A
none-tried r w now t to number view second above none h ok a =
    not-none r w.regions to number w.outbox w.inbox h above (sym (ap (λ (x : ℕ). list_any waits (to_region w.outbox x)) second) ∙ none)
    (subst (λ (x : Waiting). refusal x.regions r h (command.Attempt to number) ≡ None) (sym view) ok) (subst (λ (x : Waiting). IsAfter r x h) (sym view) a)
