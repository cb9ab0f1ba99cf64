-- How many tasks are pending, and which.
use Rattle.std.proofs.Common.{◌≡◌, ℕ, suc, ◌+◌, ◌-◌, ◌<◌, ◌≤◌, Bool, true, false, cond, ◌||◌, List, [], ◌∷◌, length, filter, refl, sym, ap, ◌∙◌, subst, ⊎_elim, arith}
use Rattle.std.specs.Prelude.{nat_le}
use Rattle.std.specs.List.{list_all, list_any}
use Rattle.std.proofs.lemmas.Bool.{and_parts, cases_lt}
use Rattle.std.proofs.lemmas.Bool.Decides.{nat_tests}
use Rattle.s3r_names.specs.declared.outcome.Outcome.{Outcome}
use Rattle.s3r_queue.specs.declared.task.Task.{Task}
use Rattle.s3r_queue.specs.Tasks.{is_pending, waits, first_of, settled_of, are_in_turn, with_outcome, on_first}
use Rattle.s3r_queue.proofs.InTurn.{settled-waits, first-settled}
use Rattle.s3r_history.specs.Words.{History}
use Rattle.s3r_history.specs.Tasks.{task_state, tasks_from}

-- how many wait
abbrev pub count : {E : Type 0} → List (Task E) → ℕ
count tasks = length (filter waits tasks)

-- what is settled waits no longer
pub one-fewer : {E : Type 0} (o : Outcome) (tasks : List (Task E)) → count (on_first (with_outcome o) tasks) ≡ count tasks - 1
one-fewer o [] = omega arith
one-fewer {E} o (task ∷ tasks) = go (waits task) refl (one-fewer o tasks)
  where
    go : (t : Bool) → waits task ≡ t → count (on_first (with_outcome o) tasks) ≡ count tasks - 1
        → count (cond t (with_outcome o task ∷ tasks) (task ∷ on_first (with_outcome o) tasks))
        ≡ length (cond t (task ∷ filter waits tasks) (filter waits tasks)) - 1
    go true w ih =
        let fewer : count (with_outcome o task ∷ tasks) ≡ count tasks =
        ap (λ t. length (cond t (with_outcome o task ∷ filter waits tasks) (filter waits tasks))) (settled-waits o task) in
        omega (arith, fewer)
    go false w ih =
        ap (λ t. length (cond t (task ∷ filter waits (on_first (with_outcome o) tasks)) (filter waits (on_first (with_outcome o) tasks)))) w ∙ ih

-- each waits or is settled
counted : {E : Type 0} (tasks : List (Task E)) → count tasks + settled_of tasks ≡ length tasks
counted [] = refl
counted {E} (task ∷ tasks) = go (waits task) (counted tasks)
  where
    go : (t : Bool) → count tasks + settled_of tasks ≡ length tasks
        → length (cond t (task ∷ filter waits tasks) (filter waits tasks)) + cond t (settled_of tasks) (suc (settled_of tasks)) ≡ suc (length tasks)
    go true ih = omega (arith, ih)
    go false ih = omega (arith, ih)

-- tasks in turn wait from the first on
pub in-turn-count : {E : Type 0} (tasks : List (Task E)) → are_in_turn tasks ≡ true → first_of tasks + count tasks ≡ length tasks + 1
in-turn-count tasks turn = omega (arith, counted tasks, first-settled tasks turn)

-- ---- where none waits, and where one does

pub none-waits : {E : Type 0} (tasks : List (Task E)) → length tasks < first_of tasks → count tasks ≡ 0
none-waits [] lt = refl
none-waits {E} (task ∷ tasks) lt = go (waits task) lt (none-waits tasks)
  where
    go : (t : Bool) → suc (length tasks) < cond t 1 (suc (first_of tasks)) → (length tasks < first_of tasks → count tasks ≡ 0)
        → length (cond t (task ∷ filter waits tasks) (filter waits tasks)) ≡ 0
    go true lt ih = absurd (omega (arith, lt))
    go false lt ih = ih (omega (arith, lt))

pub some-waits : {E : Type 0} (tasks : List (Task E)) → first_of tasks ≤ length tasks → list_any waits tasks ≡ true
some-waits [] le = absurd (omega (arith, le))
some-waits (task ∷ tasks) le = go (waits task) le (some-waits tasks)
  where
    go : (t : Bool) → cond t 1 (suc (first_of tasks)) ≤ suc (length tasks) → (first_of tasks ≤ length tasks → list_any waits tasks ≡ true)
        → (t || list_any waits tasks) ≡ true
    go true le ih = refl
    go false le ih = ih (omega (arith, le))

pub some-counted : {E : Type 0} (tasks : List (Task E)) → list_any waits tasks ≡ true → 1 ≤ count tasks
some-counted [] some = absurd cc
some-counted {E} (task ∷ tasks) some = go (waits task) some (some-counted tasks)
  where
    go : (t : Bool) → (t || list_any waits tasks) ≡ true → (list_any waits tasks ≡ true → 1 ≤ count tasks)
        → 1 ≤ length (cond t (task ∷ filter waits tasks) (filter waits tasks))
    go true some ih = omega arith
    go false some ih = ih some

pub first-above : {E : Type 0} (tasks : List (Task E)) → 1 ≤ first_of tasks
first-above [] = omega arith
first-above (task ∷ tasks) = go (waits task)
  where
    go : (t : Bool) → 1 ≤ cond t 1 (suc (first_of tasks))
    go true = omega arith
    go false = omega arith

-- ---- which number waits

abbrev is_open : History → ℕ → ℕ → Bool
is_open h d i = is_pending (task_state h d i)

pub length-tasks : {E : Type 0} (h : History) (d n : ℕ) (es : List E) → length (tasks_from h d n es) ≡ length es
length-tasks h d n [] = refl
length-tasks h d n (e ∷ es) = ap suc (length-tasks h d (suc n) es)

all-open : {E : Type 0} (h : History) (d n i : ℕ) (es : List E) → list_all waits (tasks_from h d n es) ≡ true → n ≤ i → i < n + length es
    → is_open h d i ≡ true
all-open h d n i [] all from to = absurd (omega (arith, from, to))
all-open h d n i (e ∷ es) all from to =
    let parts = and_parts (is_open h d n) (list_all waits (tasks_from h d (suc n) es)) all in
    ⊎_elim
    (λ lt. all-open h d (suc n) i es parts.1 (omega (arith, lt)) (omega (arith, to)))
    (λ ge. let same : n ≡ i = omega (arith, from, ge) in subst (λ (x : ℕ). is_open h d x ≡ true) same parts.0)
    (cases_lt n i)

le-true : (a b : ℕ) → a ≤ b → nat_le a b ≡ true
le-true a b le = grind (arith, nat_tests)

le-false : (a b : ℕ) → b < a → nat_le a b ≡ false
le-false a b lt = grind (arith, nat_tests)

le-same : (a b c : ℕ) → a ≡ b → nat_le a c ≡ nat_le b c
le-same a b c e = ap (λ (x : ℕ). nat_le x c) e

-- among tasks in turn those from the first on
open-from : {E : Type 0} (h : History) (d n i : ℕ) (es : List E) → are_in_turn (tasks_from h d n es) ≡ true → n ≤ i → i < n + length es
    → is_open h d i ≡ nat_le (first_of (tasks_from h d n es) + n) (i + 1)
open-from h d n i [] turn from to = absurd (omega (arith, from, to))
open-from {E} h d n i (e ∷ es) turn from to = go (is_open h d n) refl turn (open-from h d (suc n) i es)
  where
    rest : List (Task E)
    rest = tasks_from h d (suc n) es

    go : (t : Bool) → is_open h d n ≡ t → cond t (list_all waits rest) (are_in_turn rest) ≡ true
        → (are_in_turn rest ≡ true → suc n ≤ i → i < suc n + length es → is_open h d i ≡ nat_le (first_of rest + suc n) (i + 1))
        → is_open h d i ≡ nat_le (cond t 1 (suc (first_of rest)) + n) (i + 1)
    go true is all ih =
        ⊎_elim
        (λ lt. all-open h d (suc n) i es all (omega (arith, lt)) (omega (arith, to)))
        (λ ge. let same : n ≡ i = omega (arith, from, ge) in subst (λ (x : ℕ). is_open h d x ≡ true) same is)
        (cases_lt n i)
        ∙ sym (le-true (1 + n) (i + 1) (omega (arith, from)))
    go false is turn ih = ⊎_elim
        (λ lt. ih turn (omega (arith, lt)) (omega (arith, to)) ∙ le-same (first_of rest + suc n) (suc (first_of rest) + n) (i + 1) (omega arith))
        (λ ge.
        let same : n ≡ i = omega (arith, from, ge) in
        subst (λ (x : ℕ). is_open h d x ≡ false) same is
        ∙ sym (le-false (suc (first_of rest) + n) (i + 1) (omega (arith, ge, first-above rest))))
        (cases_lt n i)

pub open-in-turn : {E : Type 0} (h : History) (d i : ℕ) (es : List E) → are_in_turn (tasks_from h d 1 es) ≡ true → 1 ≤ i → i ≤ length es
    → is_open h d i ≡ nat_le (first_of (tasks_from h d 1 es)) i
open-in-turn h d i es turn from to =
    open-from h d 1 i es turn from (omega (arith, to)) ∙ grind (arith, nat_tests)
