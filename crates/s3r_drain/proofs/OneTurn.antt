-- One clean turn.
use Rattle.std.proofs.Common.{◌≡◌, ℕ, suc, ◌-◌, ◌<◌, ◌≤◌, ◌==◌, ◌&&◌, Bool, true, false, cond, List, [], ◌∷◌, ◌++◌, Option, Some, None, option_map, slice_get, refl, sym, ◌∙◌, ap, subst, ⊎_elim, append-nil, eq-eqb, arith}
use Rattle.std.specs.List.{list_any}
use Rattle.std.proofs.lemmas.Bool.{and_parts}
use Rattle.std.proofs.lemmas.Bool.Decides.{nat_tests}
use Rattle.std.proofs.lemmas.Option.{slice_get_within, slice_get_cases}
use Rattle.s3r_names.specs.declared.outcome.Outcome.{Outcome}
use Rattle.s3r_record.specs.declared.command.Command.TheVariants as command
use Rattle.s3r_queue.specs.declared.inbox.Arrival.{Arrival}
use Rattle.s3r_queue.specs.declared.inbox.Arrival.TheVariants as arrivals
use Rattle.s3r_queue.specs.declared.task.Task.{Task}
use Rattle.s3r_queue.specs.Tasks.{waits, first_of, with_outcome, on_first}
use Rattle.s3r_history.specs.declared.due.Due.{Due}
use Rattle.s3r_history.specs.Words.{History, or_else}
use Rattle.s3r_history.specs.Past.{Carried}
use Rattle.s3r_history.specs.Placed.{prescribed}
use Rattle.s3r_history.specs.Deeds.{deeds}
use Rattle.s3r_history.specs.Tasks.{sent, settled_with, attempts, tasks_from, tasks_to, first}
use Rattle.s3r_history.proofs.TaskSteps.{tasks-settled}
use Rattle.s3r_desk.specs.Steps.{Histories, after_commit, after_commits}
use Rattle.s3r_desk.specs.Copying.{due_of, arrival_at, outcome_at, receive, delivery, settle}
use Rattle.s3r_drain.specs.Drain.{turned_by, turned, pending, NothingIsDue, IsTheTask, SettlesOnly, OneTurnSettlesTheFirst}
use Rattle.s3r_drain.proofs.Counting.{count, one-fewer, none-waits, some-waits, some-counted, first-above, length-tasks}

-- ---- the task that is due

pub record IsFirst (s d : ℕ) (h : History) (t : Due) : Type 0 where
  pub first_is : t.number ≡ first h (deeds s h) d
  pub positive : 1 ≤ t.number
  pub to_sent : t.number ≤ sent (deeds s h) d
  pub there : slice_get (prescribed (deeds s h) d) (t.number - 1) ≡ Some t.effect

-- the task that is due where this effect stands at the first pending number
abbrev due-with : ℕ → ℕ → History → Carried → Due
due-with s d h e = record { number = first h (deeds s h) d; attempts = attempts h d (first h (deeds s h) d); effect = e }

due-is : (s d : ℕ) (h : History) (t : Due) (o : Option Carried) → slice_get (prescribed (deeds s h) d) (first h (deeds s h) d - 1) ≡ o
    → option_map (due-with s d h) o ≡ Some t
    → IsFirst s d h t
due-is s d h t None is e = absurd cc
due-is s d h t (Some effect) is e =
    let number : first h (deeds s h) d ≡ t.number = cc in
    let same : effect ≡ t.effect = cc in
    let from : 1 ≤ first h (deeds s h) d = first-above (tasks_to h (deeds s h) d) in
    let within : first h (deeds s h) d - 1 < sent (deeds s h) d =
    slice_get_within (prescribed (deeds s h) d) (first h (deeds s h) d - 1) effect is in
    record {
      first_is = sym number;
      positive = omega (arith, from, number);
      to_sent = omega (arith, within, number, from);
      there = subst (λ (n : ℕ). slice_get (prescribed (deeds s h) d) (n - 1) ≡ Some t.effect) number (is ∙ ap (λ (x : Carried). Some x) same);
    }

pub is-first : (s d : ℕ) (h : History) (t : Due) → due_of s d h ≡ Some t → IsFirst s d h t
is-first s d h t e = due-is s d h t (slice_get (prescribed (deeds s h) d) (first h (deeds s h) d - 1)) refl e

-- the first pending number has a task that is due, where it isn't above all
pub first-due : (s d : ℕ) (h : History) → first h (deeds s h) d ≤ sent (deeds s h) d → (t : Due) × (due_of s d h ≡ Some t)
first-due s d h le = ⊎_elim
    (λ w. (due-with s d h w.0, ap (option_map (due-with s d h)) w.2))
    (λ w. absurd (omega (arith, w.0, le, first-above (tasks_to h (deeds s h) d))))
    (slice_get_cases (prescribed (deeds s h) d) (first h (deeds s h) d - 1)).1

pub due-waits : (s d : ℕ) (h : History) (t : Due) → due_of s d h ≡ Some t → list_any waits (tasks_to h (deeds s h) d) ≡ true
due-waits s d h t due =
    let it = is-first s d h t due in
    some-waits (tasks_to h (deeds s h) d) (omega (arith, it.first_is, it.to_sent, length-tasks h d 1 (prescribed (deeds s h) d)))

none-there : (s d : ℕ) (h : History) (o : Option Carried)
    → option_map (due-with s d h) o ≡ None → o ≡ None
none-there s d h None e = refl
none-there s d h (Some effect) e = absurd cc

none-due : (s d : ℕ) (h : History) → due_of s d h ≡ None → pending s d h ≡ 0
none-due s d h none = none-waits (tasks_to h (deeds s h) d) (⊎_elim
    (λ w. absurd (let some = none-there s d h (slice_get (prescribed (deeds s h) d) (first h (deeds s h) d - 1)) none in let there = w.2 in cc))
    (λ w. omega (arith, w.0, first-above (tasks_to h (deeds s h) d), length-tasks h d 1 (prescribed (deeds s h) d)))
    (slice_get_cases (prescribed (deeds s h) d) (first h (deeds s h) d - 1)).1)

none-pending : (s d : ℕ) (h : History) (o : Option Due) → due_of s d h ≡ o → pending s d h ≡ 0 → o ≡ None
none-pending s d h None is none = refl
none-pending s d h (Some t) is none = absurd (omega (arith, none, some-counted (tasks_to h (deeds s h) d) (due-waits s d h t is)))

pub nothing_due : NothingIsDue
nothing_due s d h = (none-due s d h, none-pending s d h (due_of s d h) refl)

-- ---- a Receive changes no task

-- the tasks of region r are the same
record SameTasks (r : ℕ) (h k : History) : Type 0 where
  pub outcomes : (to n : ℕ) → settled_with k to n ≡ settled_with h to n
  pub tries : (to n : ℕ) → attempts k to n ≡ attempts h to n
  pub prescribes : (to : ℕ) → prescribed (deeds r k) to ≡ prescribed (deeds r h) to

same-tasks : (r : ℕ) (h : History) → SameTasks r h h
same-tasks r h = record { outcomes = λ to n. refl; tries = λ to n. refl; prescribes = λ to. refl }

received-same : (r s number : ℕ) (effect : Carried) (h : History) → SameTasks r h (command.Receive s number effect ∷ h)
received-same r s number effect h = record {
  outcomes = λ to n. refl;
  tries = λ to n. refl;
  prescribes = λ to. append-nil (prescribed (deeds r h) to);
}

received-at : (s d : ℕ) (at : Histories) (t : Due) (r : ℕ) → SameTasks r (at r) (after_commit (receive s d t) at r)
received-at s d at t r = go (r == d)
  where
    go : (b : Bool) → SameTasks r (at r) (cond b (command.Receive s t.number t.effect ∷ at r) (at r))
    go true = received-same r s t.number t.effect (at r)
    go false = same-tasks r (at r)

tasks-alike : {E : Type 0} (h k : History) (d n : ℕ) (es : List E) → ((m : ℕ) → settled_with k d m ≡ settled_with h d m)
    → ((m : ℕ) → attempts k d m ≡ attempts h d m) → tasks_from k d n es ≡ tasks_from h d n es
tasks-alike h k d n [] a b = refl
tasks-alike {E} h k d n (e ∷ es) a b =
    ap (λ (o : Option Outcome). record { effect = e; outcome = o; attempts = attempts k d n } ∷ tasks_from k d (suc n) es) (a n)
    ∙ ap (λ (i : ℕ). record { effect = e; outcome = settled_with h d n; attempts = i } ∷ tasks_from k d (suc n) es) (b n)
    ∙ ap (λ (l : List (Task E)). record { effect = e; outcome = settled_with h d n; attempts = attempts h d n } ∷ l) (tasks-alike h k d (suc n) es a b)

tasks-same : (r d : ℕ) (h k : History) → SameTasks r h k → tasks_to k (deeds r k) d ≡ tasks_to h (deeds r h) d
tasks-same r d h k same =
    ap (λ (l : List Carried). tasks_from k d 1 l) (same.prescribes d) ∙ tasks-alike h k d 1 (prescribed (deeds r h) d) (same.outcomes d) (same.tries d)

-- ---- a Settle changes one

here : (d n : ℕ) → ((d == d) && (n == n)) ≡ true
here d n = grind (arith, nat_tests)

same-number : (a b : ℕ) → (a == b) ≡ true → a ≡ b
same-number a b e = grind (arith, nat_tests)

-- the task is settled, and no other
record SettlesIt (s d number : ℕ) (outcome : Outcome) (at later : Histories) : Type 0 where
  pub settled : settled_with (later s) d number ≡ Some outcome
  pub only : SettlesOnly (IsTheTask s d number) at later

settled-one : (s d : ℕ) (at : Histories) (t : Due) (outcome : Outcome) → SettlesIt s d t.number outcome at (after_commit (settle s d t outcome) at)
settled-one s d at t outcome = record {
  settled = ap (λ b. settled_with (cond b (command.Settle d t.number outcome ∷ at s) (at s)) d t.number) (eq-eqb s s refl)
      ∙ ap (λ b. or_else (cond b (Some outcome) None) (settled_with (at s) d t.number)) (here d t.number);
  only = record {
    others = λ r to n other. elsewhere r to n other (r == s) refl;
    tries = λ r to n. tried r to n (r == s);
    prescribes = λ r to. placed r to (r == s);
  };
}
  where
    elsewhere : (r to n : ℕ) → (IsTheTask s d t.number r to n → ⊥) → (b : Bool) → (r == s) ≡ b
        → settled_with (cond b (command.Settle d t.number outcome ∷ at r) (at r)) to n ≡ settled_with (at r) to n
    elsewhere r to n other false e = refl
    elsewhere r to n other true e = go ((d == to) && (t.number == n)) refl
      where
        go : (b : Bool) → ((d == to) && (t.number == n)) ≡ b → or_else (cond b (Some outcome) None) (settled_with (at r) to n) ≡ settled_with (at r) to n
        go false e' = refl
        go true e' =
            let parts = and_parts (d == to) (t.number == n) e' in
            absurd (other (same-number r s e, sym (same-number d to parts.0), sym (same-number t.number n parts.1)))

    tried : (r to n : ℕ) (b : Bool) → attempts (cond b (command.Settle d t.number outcome ∷ at r) (at r)) to n ≡ attempts (at r) to n
    tried r to n true = refl
    tried r to n false = refl

    placed : (r to : ℕ) (b : Bool) → prescribed (deeds r (cond b (command.Settle d t.number outcome ∷ at r) (at r))) to ≡ prescribed (deeds r (at r)) to
    placed r to true = append-nil (prescribed (deeds r (at r)) to)
    placed r to false = refl

settled-behind : (s d number : ℕ) (outcome : Outcome) (at mid later : Histories) → ((r : ℕ) → SameTasks r (at r) (mid r))
    → SettlesIt s d number outcome mid later → SettlesIt s d number outcome at later
settled-behind s d number outcome at mid later same one = record {
  settled = one.settled;
  only = record {
    others = λ r to n other. one.only.others r to n other ∙ (same r).outcomes to n;
    tries = λ r to n. one.only.tries r to n ∙ (same r).tries to n;
    prescribes = λ r to. one.only.prescribes r to ∙ (same r).prescribes to;
  };
}

-- the histories behind the delivery
abbrev pub delivered : ℕ → ℕ → Histories → Due → Arrival → Histories
delivered s d at t arrivals.New = after_commit (receive s d t) at
delivered s d at t (arrivals.Again outcome) = at
delivered s d at t (arrivals.Behind watermark) = at

pub delivered-then : (s d : ℕ) (at : Histories) (t : Due) (a : Arrival) (outcome : Outcome)
    → after_commits (delivery s d t a ++ settle s d t outcome ∷ []) at ≡ after_commit (settle s d t outcome) (delivered s d at t a)
delivered-then s d at t arrivals.New outcome = refl
delivered-then s d at t (arrivals.Again o) outcome = refl
delivered-then s d at t (arrivals.Behind m) outcome = refl

delivered-same : (s d : ℕ) (at : Histories) (t : Due) (a : Arrival) (r : ℕ) → SameTasks r (at r) (delivered s d at t a r)
delivered-same s d at t arrivals.New r = received-at s d at t r
delivered-same s d at t (arrivals.Again o) r = same-tasks r (at r)
delivered-same s d at t (arrivals.Behind m) r = same-tasks r (at r)

-- ---- a whole turn

pub turned-is : (s d : ℕ) (at : Histories) (t : Due) → due_of s d (at s) ≡ Some t
    → turned s d at ≡ after_commit (settle s d t (outcome_at s d (at d) t)) (delivered s d at t (arrival_at s d (at d) t))
turned-is s d at t due =
    ap (λ (o : Option Due). turned_by s d at o) due ∙ delivered-then s d at t (arrival_at s d (at d) t) (outcome_at s d (at d) t)

settles-it : (s d : ℕ) (at : Histories) (t : Due) → due_of s d (at s) ≡ Some t → SettlesIt s d t.number (outcome_at s d (at d) t) at (turned s d at)
settles-it s d at t due =
    let a = arrival_at s d (at d) t in
    let outcome = outcome_at s d (at d) t in
    subst (λ (later : Histories). SettlesIt s d t.number outcome at later) (sym (turned-is s d at t due))
    (settled-behind s d t.number outcome at (delivered s d at t a) _ (delivered-same s d at t a) (settled-one s d (delivered s d at t a) t outcome))

pub one_turn : OneTurnSettlesTheFirst
one_turn s d at t due = let it = settles-it s d at t due in ((is-first s d (at s) t due).first_is, it.settled, it.only)

tasks-one : (s d n : ℕ) (outcome : Outcome) (h g : History) → SameTasks s h g → list_any waits (tasks_to h (deeds s h) d) ≡ true → n ≡ first h (deeds s h) d
    → tasks_to (command.Settle d n outcome ∷ g) (deeds s (command.Settle d n outcome ∷ g)) d ≡ on_first (with_outcome outcome) (tasks_to h (deeds s h) d)
tasks-one s d n outcome h g alike some is =
    let same = tasks-same s d h g alike in
    ap (λ (l : List Carried). tasks_from (command.Settle d n outcome ∷ g) d 1 l) (append-nil (prescribed (deeds s g) d))
    ∙ tasks-settled d n outcome g (prescribed (deeds s g) d) (ap (λ (l : List (Task Carried)). list_any waits l) same ∙ some)
    (is ∙ sym (ap (λ (l : List (Task Carried)). first_of l) same))
    ∙ ap (λ (l : List (Task Carried)). on_first (with_outcome outcome) l) same

-- the first pending task is settled, and the others stay as they are
pub tasks-turned : (s d : ℕ) (at : Histories) (t : Due) → due_of s d (at s) ≡ Some t
    → tasks_to (turned s d at s) (deeds s (turned s d at s)) d ≡ on_first (with_outcome (outcome_at s d (at d) t)) (tasks_to (at s) (deeds s (at s)) d)
tasks-turned s d at t due =
    let outcome = outcome_at s d (at d) t in
    let a = arrival_at s d (at d) t in
    let mid : History = delivered s d at t a s in
    let more : History = command.Settle d t.number outcome ∷ mid in
    ap (λ (l : Histories). tasks_to (l s) (deeds s (l s)) d) (turned-is s d at t due)
    ∙ ap (λ b. tasks_to (cond b more mid) (deeds s (cond b more mid)) d) (eq-eqb s s refl)
    ∙ tasks-one s d t.number outcome (at s) mid (delivered-same s d at t a s) (due-waits s d (at s) t due) (is-first s d (at s) t due).first_is

pub one_less : (s d : ℕ) (at : Histories) → pending s d (turned s d at s) ≡ pending s d (at s) - 1
one_less s d at = go (due_of s d (at s)) refl
  where
    go : (o : Option Due) → due_of s d (at s) ≡ o → pending s d (turned s d at s) ≡ pending s d (at s) - 1
    go None e =
        ap (λ (o : Option Due). pending s d (turned_by s d at o s)) e ∙ (let none = none-due s d (at s) e in omega (arith, none))
    go (Some t) e =
        ap (λ (l : List (Task Carried)). count l) (tasks-turned s d at t e) ∙ one-fewer (outcome_at s d (at d) t) (tasks_to (at s) (deeds s (at s)) d)
