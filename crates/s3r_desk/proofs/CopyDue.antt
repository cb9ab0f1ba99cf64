-- The first pending task from one region to another, and what is accepted of it.
use Rattle.std.proofs.Common.{◌≡◌, ℕ, suc, ◌+◌, ◌-◌, ◌<◌, ◌≤◌, ◌==◌, ◌&&◌, ◌||◌, not, Bool, true, false, cond, List, [], ◌∷◌, length, Option, Some, None, refl, sym, ◌∙◌, ap, subst, inl, arith}
use Rattle.std.specs.Prelude.{nat_le, nat_lt, option_map, slice_get}
use Rattle.std.specs.List.{list_any}
use Rattle.std.proofs.lemmas.Bool.{and_parts}
use Rattle.std.proofs.lemmas.Bool.Decides.{nat_tests}
use Rattle.std.proofs.lemmas.List.{append-nil}
use Rattle.std.proofs.lemmas.Option.{slice_get_within}
use Rattle.s3r_names.specs.declared.outcome.Outcome.{Outcome}
use Rattle.s3r_record.specs.declared.command.Command.TheVariants as command
use Rattle.s3r_queue.specs.declared.inbox.Noted.{Noted}
use Rattle.s3r_queue.specs.declared.inbox.Arrival.TheVariants as arrivals
use Rattle.s3r_queue.specs.declared.task.Task.{Task}
use Rattle.s3r_queue.specs.Received.{watermark_of, arrival_of}
use Rattle.s3r_queue.specs.Tasks.{waits, first_of, answered_of}
use Rattle.s3r_history.specs.declared.refusal.Refusal.{Refusal}
use Rattle.s3r_history.specs.declared.due.Due.{Due}
use Rattle.s3r_history.specs.Words.{History}
use Rattle.s3r_history.specs.Past.{Carried, Past}
use Rattle.s3r_history.specs.Placed.{prescribed}
use Rattle.s3r_history.specs.Tasks.{sent, settled_with, attempts, tasks_from, tasks_to, first, next_task, Received, last_of, last_from}
use Rattle.s3r_history.specs.Deeds.{deeds}
use Rattle.s3r_history.specs.Accepts.{first_of_causes, refusal}
use Rattle.s3r_history.specs.Agree.{CameTo}
use Rattle.s3r_history.specs.AgreeLaws.{MayArrive}
use Rattle.s3r_desk.specs.declared.fault.DeskFault.{DeskFault}
use Rattle.s3r_desk.specs.declared.fault.DeskFault.TheVariants as faults
use Rattle.s3r_desk.specs.Comparing.{is_within, fault_by, pair_fault}
use Rattle.s3r_desk.specs.Copying.{due_of}

-- ---- the first task that is due

pub record IsFirst (s d : ℕ) (h : History) (t : Due) : Type 0 where
  pub first_is : t.number ≡ first h (deeds s h) d
  pub positive : 1 ≤ t.number
  pub to_sent : t.number ≤ sent (deeds s h) d
  pub there : slice_get (prescribed (deeds s h) d) (t.number - 1) ≡ Some t.effect
  pub tries : t.attempts ≡ attempts h d t.number
  pub next : t.number ≡ next_task h (deeds s h) d

length-tasks : (h : History) (d n : ℕ) (es : List Carried) → length (tasks_from h d n es) ≡ length es
length-tasks h d n [] = refl
length-tasks h d n (e ∷ es) = ap suc (length-tasks h d (suc n) es)

first-above : {E : Type 0} (tasks : List (Task E)) → 1 ≤ first_of tasks
first-above [] = omega arith
first-above (task ∷ tasks) = go (waits task)
  where
    go : (t : Bool) → 1 ≤ cond t 1 (suc (first_of tasks))
    go true = omega arith
    go false = omega arith

some-waits : {E : Type 0} (tasks : List (Task E)) → first_of tasks ≤ length tasks → list_any waits tasks ≡ true
some-waits [] le = absurd (omega (arith, le))
some-waits (task ∷ tasks) le = go (waits task) le (some-waits tasks)
  where
    go : (t : Bool) → cond t 1 (suc (first_of tasks)) ≤ suc (length tasks) → (first_of tasks ≤ length tasks → list_any waits tasks ≡ true)
        → (t || list_any waits tasks) ≡ true
    go true le ih = refl
    go false le ih = ih (omega (arith, le))

pub next_there : (h : History) (past : Past) (d n : ℕ) → n ≡ first h past d → n ≤ sent past d → n ≡ next_task h past d
next_there h past d n is within =
    let some = some-waits (tasks_to h past d) (omega (arith, is, within, length-tasks h d 1 (prescribed past d))) in
    is ∙ sym (ap (λ t. cond t (first h past d) 0) some)

due_is : (s d : ℕ) (h : History) (t : Due) (o : Option Carried) → slice_get (prescribed (deeds s h) d) (first h (deeds s h) d - 1) ≡ o
    → option_map (λ (e : Carried). record { number = first h (deeds s h) d; attempts = attempts h d (first h (deeds s h) d); effect = e }) o ≡ Some t
    → IsFirst s d h t
due_is s d h t None is e = absurd cc
due_is s d h t (Some effect) is e =
    let number : first h (deeds s h) d ≡ t.number = cc in
    let same : effect ≡ t.effect = cc in
    let tries : attempts h d (first h (deeds s h) d) ≡ t.attempts = cc in
    let from : 1 ≤ first h (deeds s h) d = first-above (tasks_to h (deeds s h) d) in
    let within : first h (deeds s h) d - 1 < sent (deeds s h) d =
    slice_get_within (prescribed (deeds s h) d) (first h (deeds s h) d - 1) effect is in
    let to_sent : t.number ≤ sent (deeds s h) d = omega (arith, within, number, from) in
    record {
      first_is = sym number;
      positive = omega (arith, from, number);
      to_sent = to_sent;
      there = subst (λ (n : ℕ). slice_get (prescribed (deeds s h) d) (n - 1) ≡ Some t.effect) number (is ∙ ap (λ (x : Carried). Some x) same);
      tries = sym tries ∙ ap (attempts h d) number;
      next = next_there h (deeds s h) d t.number (sym number) to_sent;
    }

pub is_first : (s d : ℕ) (h : History) (t : Due) → due_of s d h ≡ Some t → IsFirst s d h t
is_first s d h t e = due_is s d h t (slice_get (prescribed (deeds s h) d) (first h (deeds s h) d - 1)) refl e

pub may_arrive : (s d : ℕ) (h : History) (t : Due) → IsFirst s d h t → MayArrive s d h t.number t.effect
may_arrive s d h t due = record { to_first = omega (arith, due.first_is); to_sent = due.to_sent; prescribed_there = due.there }

-- ---- what is accepted

none_of_two : (a b : Bool) (x y : Refusal) → a ≡ false → b ≡ false → first_of_causes ((a, x) ∷ (b, y) ∷ []) ≡ None
none_of_two true b x y ea eb = absurd cc
none_of_two false true x y ea eb = absurd cc
none_of_two false false x y ea eb = refl

no_le : (a b : ℕ) → b < a → nat_le a b ≡ false
no_le a b lt = grind (arith, nat_tests)

pub receive_accepted : (n s d : ℕ) (k : History) (number : ℕ) (effect : Carried) → s < n → watermark_of (last_from (deeds d k) s) < number
    → refusal n d k (command.Receive s number effect) ≡ None
receive_accepted n s d k number effect lt above = none_of_two _ _ _ _ (no_le n s lt) (no_le number (watermark_of (last_from (deeds d k) s)) above)

not_other : (number next : ℕ) → number ≡ next → not (number == next) ≡ false
not_other number next e = grind (arith, nat_tests)

pub settle_accepted : (n s d : ℕ) (h : History) (number : ℕ) (outcome : Outcome) → d < n → number ≡ next_task h (deeds s h) d
    → refusal n s h (command.Settle d number outcome) ≡ None
settle_accepted n s d h number outcome lt is = none_of_two _ _ _ _ (no_le n d lt) (not_other number (next_task h (deeds s h) d) is)

pub attempt_accepted : (n s d : ℕ) (h : History) (number : ℕ) → d < n → number ≡ next_task h (deeds s h) d
    → refusal n s h (command.Attempt d number) ≡ None
attempt_accepted n s d h number lt is = none_of_two _ _ _ _ (no_le n d lt) (not_other number (next_task h (deeds s h) d) is)

-- ---- a Receive prescribes nothing

prescribed_same : (r s number d : ℕ) (effect : Carried) (h : History)
    → prescribed (deeds r (command.Receive s number effect ∷ h)) d ≡ prescribed (deeds r h) d
prescribed_same r s number d effect h = append-nil (prescribed (deeds r h) d)

tasks_same : (s number d n : ℕ) (effect : Carried) (h : History) (es : List Carried)
    → tasks_from (command.Receive s number effect ∷ h) d n es ≡ tasks_from h d n es
tasks_same s number d n effect h [] = refl
tasks_same s number d n effect h (e ∷ es) =
    ap (λ (l : List (Task Carried)). record { effect = e; outcome = settled_with h d n; attempts = attempts h d n } ∷ l)
    (tasks_same s number d (suc n) effect h es)

-- the next task stays the next
pub next_same : (r s number d : ℕ) (effect : Carried) (h : History)
    → next_task (command.Receive s number effect ∷ h) (deeds r (command.Receive s number effect ∷ h)) d ≡ next_task h (deeds r h) d
next_same r s number d effect h =
    let same : tasks_to (command.Receive s number effect ∷ h) (deeds r (command.Receive s number effect ∷ h)) d ≡ tasks_to h (deeds r h) d =
    ap (λ (l : List Carried). tasks_from (command.Receive s number effect ∷ h) d 1 l) (prescribed_same r s number d effect h)
    ∙ tasks_same s number d 1 effect h (prescribed (deeds r h) d) in
    ap (λ (l : List (Task Carried)). cond (list_any waits l) (first_of l) 0) same

pub first_behind : (r s number d : ℕ) (effect : Carried) (h : History)
    → (first (command.Receive s number effect ∷ h) (deeds r (command.Receive s number effect ∷ h)) d ≡ first h (deeds r h) d)
    × (sent (deeds r (command.Receive s number effect ∷ h)) d ≡ sent (deeds r h) d)
first_behind r s number d effect h =
    let same = prescribed_same r s number d effect h in (
      ap (λ (l : List Carried). first_of (tasks_from (command.Receive s number effect ∷ h) d 1 l)) same
          ∙ ap (λ (l : List (Task Carried)). first_of l) (tasks_same s number d 1 effect h (prescribed (deeds r h) d)),
      ap (λ (l : List Carried). length l) same,
    )

-- ---- what a number is at the receiver

pub new_above : (o : Option Noted) (number : ℕ) → 1 ≤ number → arrival_of o number ≡ arrivals.New → watermark_of o < number
new_above None number positive e = positive
new_above (Some last) number positive e = go (nat_lt last.number number) (number == last.number) refl e
  where
    go : (t u : Bool) → nat_lt last.number number ≡ t → cond t arrivals.New (cond u (arrivals.Again last.outcome) (arrivals.Behind last.number)) ≡ arrivals.New
        → last.number < number
    go true u is e' = grind (arith, nat_tests)
    go false true is e' = absurd cc
    go false false is e' = absurd cc

pub again_came : (rs : List Received) (number : ℕ) (outcome : Outcome) → arrival_of (last_of rs) number ≡ arrivals.Again outcome → CameTo number outcome rs
again_came [] number outcome e = absurd cc
again_came (r ∷ rs) number outcome e = go (nat_lt r.number number) (number == r.number) refl e
  where
    go : (t u : Bool) → (number == r.number) ≡ u
        → cond t arrivals.New (cond u (arrivals.Again r.outcome) (arrivals.Behind r.number)) ≡ arrivals.Again outcome → CameTo number outcome (r ∷ rs)
    go true u is e' = absurd cc
    go false true is e' = let same : r.number ≡ number = grind (arith, nat_tests) in let as_is : r.outcome ≡ outcome = cc in inl (same, as_is)
    go false false is e' = absurd cc

pub never_behind : (o : Option Noted) (number m : ℕ) → watermark_of o ≤ number → arrival_of o number ≡ arrivals.Behind m → ⊥
never_behind None number m le e = absurd cc
never_behind (Some last) number m le e = go (nat_lt last.number number) (number == last.number) refl refl e
  where
    go : (t u : Bool) → nat_lt last.number number ≡ t → (number == last.number) ≡ u
        → cond t arrivals.New (cond u (arrivals.Again last.outcome) (arrivals.Behind last.number)) ≡ arrivals.Behind m → ⊥
    go true u a b e' = absurd cc
    go false true a b e' = absurd cc
    go false false a b e' = absurd (grind (arith, nat_tests, le))

-- ---- a pair that doesn't disagree

le_of : (a b : ℕ) → nat_le a b ≡ true → a ≤ b
le_of a b e = grind (arith, nat_tests)

within_by : (from to all answered settled last : ℕ) → fault_by from to all answered settled last ≡ None → last ≤ settled + 1
within_by from to all answered settled last = go (is_within all answered settled last) refl
  where
    told : DeskFault
    told = faults.Disagree from to all answered settled last

    go : (t : Bool) → is_within all answered settled last ≡ t → cond t None (Some told) ≡ None → last ≤ settled + 1
    go true is e = le_of last (settled + 1) (and_parts (nat_le last (settled + 1)) (nat_le last all)
        (and_parts (nat_le answered last) (nat_le last (settled + 1) && nat_le last all) is).1).0
    go false is e = absurd cc

-- the receiver isn't past the first pending task
pub not_past : (s d : ℕ) (h k : History) → pair_fault s d h k ≡ None → watermark_of (last_from (deeds d k) s) ≤ first h (deeds s h) d
not_past s d h k none =
    let all : ℕ = sent (deeds s h) d in
    let last : ℕ = answered_of (tasks_to h (deeds s h) d) in
    let settled : ℕ = first h (deeds s h) d - 1 in
    let to = within_by s d all last settled (watermark_of (last_from (deeds d k) s)) none in
    omega (arith, to, first-above (tasks_to h (deeds s h) d))
