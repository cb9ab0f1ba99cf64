-- Tasks of which those that are no longer pending stand first.
use Rattle.std.proofs.Common.{◌≡◌, ℕ, option_map, suc, ◌+◌, ◌<◌, ◌≤◌, max, Bool, true, false, cond, ◌||◌, nat_lt, List, [], ◌∷◌, ◌++◌, Option, Some, None, is_some, find, length, get_or, set, refl, sym, ap, ◌∙◌, arith, ltb-true, lt-ltb}
use Rattle.std.specs.List.{list_all, list_any}
use Rattle.std.proofs.lemmas.Bool.{and_parts, and_from}
use Rattle.std.proofs.lemmas.Bool.Decides.{nat_tests}
use Rattle.s3r_names.specs.declared.outcome.Outcome.{Outcome}
use Rattle.s3r_names.specs.declared.outcome.Outcome.TheVariants as outcomes
use Rattle.s3r_queue.specs.declared.task.Task.{Task}
use Rattle.s3r_queue.specs.declared.task.TaskState.TheVariants as states
use Rattle.s3r_queue.specs.Tasks.{state_by, is_pending, waits, first_of, settled_of, are_in_turn, answered_from, new_task, with_outcome, one_attempt_more, on_first}

-- a pending task came to nothing, and has fewer than eight attempts
pub waits-open : {E : Type 0} (task : Task E) → waits task ≡ true → (task.outcome ≡ None) × (task.attempts < 8)
waits-open task w = go task.outcome refl w
  where
    go : (o : Option Outcome) → task.outcome ≡ o → is_pending (state_by o task.attempts) ≡ true → (task.outcome ≡ None) × (task.attempts < 8)
    go None e w = (e, few (nat_lt task.attempts 8) refl w)
      where
        few : (t : Bool) → nat_lt task.attempts 8 ≡ t → is_pending (cond t states.Pending states.Exhausted) ≡ true → task.attempts < 8
        few true h w = ltb-true task.attempts 8 h
        few false h w = absurd cc
    go (Some outcomes.Applied) e w = absurd cc
    go (Some (outcomes.Refused reason)) e w = absurd cc

pub settled-waits : {E : Type 0} (outcome : Outcome) (task : Task E) → waits (with_outcome outcome task) ≡ false
settled-waits outcomes.Applied task = refl
settled-waits (outcomes.Refused reason) task = refl

-- one attempt more leaves a task pending below eight
pub attempt-waits : {E : Type 0} (task : Task E) → waits task ≡ true → waits (one_attempt_more task) ≡ nat_lt (task.attempts + 1) 8
attempt-waits task w = ap (λ o. is_pending (state_by o (task.attempts + 1))) (waits-open task w).0 ∙ go (nat_lt (task.attempts + 1) 8)
  where
    go : (t : Bool) → is_pending (cond t states.Pending states.Exhausted) ≡ t
    go true = refl
    go false = refl

-- ---- words of the lemmas

-- one more where the test fails
abbrev more_unless : Bool → ℕ → ℕ
more_unless t n = cond t n (suc n)

-- the task stands behind those that are settled
abbrev IsNext : {E : Type 0} → List (Task E) → Task E → Type 0
IsNext tasks task = task ≡ get_or tasks (settled_of tasks) task

-- ---- tasks that all are pending

all-settled : {E : Type 0} (tasks : List (Task E)) → list_all waits tasks ≡ true → settled_of tasks ≡ 0
all-settled [] all = refl
all-settled (task ∷ tasks) all =
    let parts = and_parts (waits task) (list_all waits tasks) all in
    ap (λ t. more_unless t (settled_of tasks)) parts.0 ∙ all-settled tasks parts.1

all-answered : {E : Type 0} (n : ℕ) (tasks : List (Task E)) → list_all waits tasks ≡ true → answered_from n tasks ≡ 0
all-answered n [] all = refl
all-answered n (task ∷ tasks) all =
    let parts = and_parts (waits task) (list_all waits tasks) all in
    ap (λ (o : Option Outcome). max (cond (is_some o) n 0) (answered_from (suc n) tasks)) (waits-open task parts.0).0
    ∙ ap (max 0) (all-answered (suc n) tasks parts.1)

all-turn : {E : Type 0} (tasks : List (Task E)) → list_all waits tasks ≡ true → are_in_turn tasks ≡ true
all-turn [] all = refl
all-turn (task ∷ tasks) all =
    let parts = and_parts (waits task) (list_all waits tasks) all in
    ap (λ t. cond t (list_all waits tasks) (are_in_turn tasks)) parts.0 ∙ parts.1

-- ---- the first pending task

pub first-settled : {E : Type 0} (tasks : List (Task E)) → are_in_turn tasks ≡ true → first_of tasks ≡ settled_of tasks + 1
first-settled [] turn = refl
first-settled (task ∷ tasks) turn = go (waits task) turn (first-settled tasks)
  where
    go : (t : Bool) → cond t (list_all waits tasks) (are_in_turn tasks) ≡ true → (are_in_turn tasks ≡ true → first_of tasks ≡ settled_of tasks + 1)
        → cond t 1 (suc (first_of tasks)) ≡ more_unless t (settled_of tasks) + 1
    go true all ih = omega (arith, all-settled tasks all)
    go false turn ih = omega (arith, ih turn)

-- one is pending where fewer are settled than there are
pub pending-more : {E : Type 0} (tasks : List (Task E)) → are_in_turn tasks ≡ true → list_any waits tasks ≡ nat_lt (settled_of tasks) (length tasks)
pending-more [] turn = refl
pending-more (task ∷ tasks) turn = go (waits task) turn (pending-more tasks)
  where
    go : (t : Bool) → cond t (list_all waits tasks) (are_in_turn tasks) ≡ true
        → (are_in_turn tasks ≡ true → list_any waits tasks ≡ nat_lt (settled_of tasks) (length tasks))
        → (t || list_any waits tasks) ≡ nat_lt (more_unless t (settled_of tasks)) (suc (length tasks))
    go true all ih = sym (lt-ltb (settled_of tasks) (suc (length tasks)) (omega (arith, all-settled tasks all)))
    go false turn ih = ih turn ∙ grind (arith, nat_tests)

-- the task behind those that are settled
pub first-found : {E : Type 0} (tasks : List (Task E)) (task : Task E) → are_in_turn tasks ≡ true → list_any waits tasks ≡ true → IsNext tasks task
    → (waits task ≡ true) × (find waits tasks ≡ Some task)
first-found [] task turn some is = absurd cc
first-found {E} (other ∷ tasks) task turn some is = go (waits other) refl turn some is (first-found tasks task)
  where
    go : (t : Bool) → waits other ≡ t → cond t (list_all waits tasks) (are_in_turn tasks) ≡ true → (t || list_any waits tasks) ≡ true
        → task ≡ get_or (other ∷ tasks) (more_unless t (settled_of tasks)) task
        → (are_in_turn tasks ≡ true → list_any waits tasks ≡ true → IsNext tasks task → (waits task ≡ true) × (find waits tasks ≡ Some task))
        → (waits task ≡ true) × (cond t (Some other) (find waits tasks) ≡ Some task)
    go true w all some is ih =
        let same : task ≡ other = is ∙ ap (λ n. get_or (other ∷ tasks) n task) (all-settled tasks all) in
        (ap waits same ∙ w, ap Some (sym same))
    go false w turn some is ih = ih turn some is

-- it is changed, and no other
pub first-changed : {E : Type 0} (f : Task E → Task E) (tasks : List (Task E)) (task : Task E) → are_in_turn tasks ≡ true
    → list_any waits tasks ≡ true → IsNext tasks task → set tasks (settled_of tasks) (f task) ≡ on_first f tasks
first-changed f [] task turn some is = absurd cc
first-changed {E} f (other ∷ tasks) task turn some is = go (waits other) turn some is (first-changed f tasks task)
  where
    go : (t : Bool) → cond t (list_all waits tasks) (are_in_turn tasks) ≡ true → (t || list_any waits tasks) ≡ true
        → task ≡ get_or (other ∷ tasks) (more_unless t (settled_of tasks)) task
        → (are_in_turn tasks ≡ true → list_any waits tasks ≡ true → IsNext tasks task → set tasks (settled_of tasks) (f task) ≡ on_first f tasks)
        → set (other ∷ tasks) (more_unless t (settled_of tasks)) (f task) ≡ cond t (f other ∷ tasks) (other ∷ on_first f tasks)
    go true all some is ih =
        let same : task ≡ other = is ∙ ap (λ n. get_or (other ∷ tasks) n task) (all-settled tasks all) in
        ap (λ n. set (other ∷ tasks) n (f task)) (all-settled tasks all) ∙ ap (λ x. f x ∷ tasks) same
    go false turn some is ih = ap (λ xs. other ∷ xs) (ih turn some is)

-- the tasks are in turn then
pub turn-kept : {E : Type 0} (f : Task E → Task E) (tasks : List (Task E)) → are_in_turn tasks ≡ true → are_in_turn (on_first f tasks) ≡ true
turn-kept f [] turn = refl
turn-kept {E} f (task ∷ tasks) turn = go (waits task) refl turn (turn-kept f tasks)
  where
    go : (t : Bool) → waits task ≡ t → cond t (list_all waits tasks) (are_in_turn tasks) ≡ true
        → (are_in_turn tasks ≡ true → are_in_turn (on_first f tasks) ≡ true)
        → are_in_turn (cond t (f task ∷ tasks) (task ∷ on_first f tasks)) ≡ true
    go true w all ih = more (waits (f task))
      where
        more : (u : Bool) → cond u (list_all waits tasks) (are_in_turn tasks) ≡ true
        more true = all
        more false = all-turn tasks all
    go false w turn ih = ap (λ t. cond t (list_all waits (on_first f tasks)) (are_in_turn (on_first f tasks))) w ∙ ih turn

-- one more is settled where the task doesn't wait any longer
pub settled-next : {E : Type 0} (f : Task E → Task E) (tasks : List (Task E)) (task : Task E) → are_in_turn tasks ≡ true
    → list_any waits tasks ≡ true → IsNext tasks task → settled_of (on_first f tasks) ≡ more_unless (waits (f task)) (settled_of tasks)
settled-next f [] task turn some is = absurd cc
settled-next {E} f (other ∷ tasks) task turn some is = go (waits other) refl turn some is (settled-next f tasks task)
  where
    go : (t : Bool) → waits other ≡ t → cond t (list_all waits tasks) (are_in_turn tasks) ≡ true → (t || list_any waits tasks) ≡ true
        → task ≡ get_or (other ∷ tasks) (more_unless t (settled_of tasks)) task
        → (are_in_turn tasks ≡ true → list_any waits tasks ≡ true → IsNext tasks task
        → settled_of (on_first f tasks) ≡ more_unless (waits (f task)) (settled_of tasks))
        → settled_of (cond t (f other ∷ tasks) (other ∷ on_first f tasks))
        ≡ more_unless (waits (f task)) (more_unless t (settled_of tasks))
    go true w all some is ih =
        let same : task ≡ other = is ∙ ap (λ n. get_or (other ∷ tasks) n task) (all-settled tasks all) in
        sym (ap (λ x. more_unless (waits (f x)) (settled_of tasks)) same)
    go false w turn some is ih =
        ap (λ t. more_unless t (settled_of (on_first f tasks))) w
        ∙ ap suc (ih turn some is)
        ∙ more (waits (f task))
      where
        more : (u : Bool) → suc (more_unless u (settled_of tasks)) ≡ more_unless u (suc (settled_of tasks))
        more true = refl
        more false = refl

-- it answers where the task came to something
pub answered-next : {E : Type 0} (f : Task E → Task E) (n : ℕ) (tasks : List (Task E)) (task : Task E) → are_in_turn tasks ≡ true
    → list_any waits tasks ≡ true → IsNext tasks task
    → answered_from n (on_first f tasks) ≡ cond (is_some (f task).outcome) (n + settled_of tasks) (answered_from n tasks)
answered-next f n [] task turn some is = absurd cc
answered-next {E} f n (other ∷ tasks) task turn some is = go (waits other) refl turn some is (answered-next f (suc n) tasks task)
  where
    go : (t : Bool) → waits other ≡ t → cond t (list_all waits tasks) (are_in_turn tasks) ≡ true → (t || list_any waits tasks) ≡ true
        → task ≡ get_or (other ∷ tasks) (more_unless t (settled_of tasks)) task
        → (are_in_turn tasks ≡ true → list_any waits tasks ≡ true → IsNext tasks task
        → answered_from (suc n) (on_first f tasks) ≡ cond (is_some (f task).outcome) (suc n + settled_of tasks) (answered_from (suc n) tasks))
        → answered_from n (cond t (f other ∷ tasks) (other ∷ on_first f tasks))
        ≡ cond (is_some (f task).outcome) (n + more_unless t (settled_of tasks))
        (max (cond (is_some other.outcome) n 0) (answered_from (suc n) tasks))
    go true w all some is ih =
        let same : task ≡ other = is ∙ ap (λ k. get_or (other ∷ tasks) k task) (all-settled tasks all) in
        let none : answered_from (suc n) tasks ≡ 0 = all-answered (suc n) tasks all in
        let unsettled : is_some other.outcome ≡ false = ap is_some (waits-open other w).0 in
        ap (max (cond (is_some (f other).outcome) n 0)) none
        ∙ first_one (is_some (f other).outcome)
        ∙ ap (λ x. cond (is_some (f x).outcome) n 0) (sym same)
        ∙ last_one (is_some (f task).outcome) (is_some other.outcome) unsettled (all-settled tasks all) none
      where
        first_one : (u : Bool) → max (cond u n 0) 0 ≡ cond u n 0
        first_one true = omega arith
        first_one false = refl

        last_one : (u v : Bool) → v ≡ false → settled_of tasks ≡ 0 → answered_from (suc n) tasks ≡ 0
            → cond u n 0 ≡ cond u (n + settled_of tasks) (max (cond v n 0) (answered_from (suc n) tasks))
        last_one true v e z none = omega (arith, z)
        last_one false true e z none = absurd cc
        last_one false false e z none = omega (arith, none)
    go false w turn some is ih =
        ap (max (cond (is_some other.outcome) n 0)) (ih turn some is)
        ∙ more (is_some (f task).outcome) (is_some other.outcome)
      where
        more : (u v : Bool) → max (cond v n 0) (cond u (suc n + settled_of tasks) (answered_from (suc n) tasks))
            ≡ cond u (n + suc (settled_of tasks)) (max (cond v n 0) (answered_from (suc n) tasks))
        more true true = omega arith
        more true false = omega arith
        more false v = refl

-- ---- one task more

pub push-turn : {E : Type 0} (effect : E) (tasks : List (Task E)) → are_in_turn tasks ≡ true → are_in_turn (tasks ++ new_task effect ∷ []) ≡ true
push-turn effect [] turn = refl
push-turn {E} effect (task ∷ tasks) turn = go (waits task) turn (push-turn effect tasks)
  where
    all-more : (xs : List (Task E)) → list_all waits xs ≡ true → list_all waits (xs ++ new_task effect ∷ []) ≡ true
    all-more [] all = refl
    all-more (x ∷ xs) all = let parts = and_parts (waits x) (list_all waits xs) all in and_from _ _ parts.0 (all-more xs parts.1)

    go : (t : Bool) → cond t (list_all waits tasks) (are_in_turn tasks) ≡ true
        → (are_in_turn tasks ≡ true → are_in_turn (tasks ++ new_task effect ∷ []) ≡ true)
        → cond t (list_all waits (tasks ++ new_task effect ∷ [])) (are_in_turn (tasks ++ new_task effect ∷ [])) ≡ true
    go true all ih = all-more tasks all
    go false turn ih = ih turn

pub push-settled : {E : Type 0} (effect : E) (tasks : List (Task E)) → settled_of (tasks ++ new_task effect ∷ []) ≡ settled_of tasks
push-settled effect [] = refl
push-settled effect (task ∷ tasks) = ap (λ n. more_unless (waits task) n) (push-settled effect tasks)

pub push-answered : {E : Type 0} (effect : E) (n : ℕ) (tasks : List (Task E)) → answered_from n (tasks ++ new_task effect ∷ []) ≡ answered_from n tasks
push-answered effect n [] = refl
push-answered effect n (task ∷ tasks) = ap (max (cond (is_some task.outcome) n 0)) (push-answered effect (suc n) tasks)

-- ---- what a queue does, over its fields

-- the tasks are in turn, one of them is pending, and so many aren't
pub record IsAt {E : Type 0} (tasks : List (Task E)) (place : ℕ) : Type 0 where
  pub turn : are_in_turn tasks ≡ true
  pub some : list_any waits tasks ≡ true
  pub settled : place ≡ settled_of tasks

-- it is so of the tasks as they are seen
pub at-place : {E : Type 0} (tasks seen : List (Task E)) (place : ℕ) → tasks ≡ seen → are_in_turn tasks ≡ true → list_any waits seen ≡ true
    → place ≡ settled_of tasks → IsAt tasks place
at-place tasks seen place view turn some settled = record { turn = turn; some = ap (list_any waits) view ∙ some; settled = settled }

-- then there is a task at that place
pub place-below : {E : Type 0} (tasks : List (Task E)) (place len : ℕ) → IsAt tasks place → len ≡ length tasks → place < len
place-below tasks place len at is =
    let less = ltb-true (settled_of tasks) (length tasks) (sym (pending-more tasks at.turn) ∙ at.some) in
    omega (arith, less, at.settled)

-- the place of the first pending task, where there is one
pub first-answer : {E : Type 0} (tasks : List (Task E)) (place : ℕ) (t : Bool) → are_in_turn tasks ≡ true → place ≡ settled_of tasks
    → nat_lt place (length tasks) ≡ t → cond t (Some (place + 1)) None ≡ cond (list_any waits tasks) (Some (first_of tasks)) None
first-answer tasks place t turn settled is =
    ap (λ n. cond t (Some n) None) (ap (λ n. n + 1) settled ∙ sym (first-settled tasks turn))
    ∙ ap (λ u. cond u (Some (first_of tasks)) None) (sym is ∙ ap (λ n. nat_lt n (length tasks)) settled ∙ sym (pending-more tasks turn))

next-is : {E : Type 0} (tasks : List (Task E)) (place : ℕ) (task : Task E) → IsAt tasks place → task ≡ get_or tasks place task → IsNext tasks task
next-is tasks place task at is = is ∙ ap (λ n. get_or tasks n task) at.settled

-- the task at the place is changed
pub changed-at : {E : Type 0} (f : Task E → Task E) (tasks : List (Task E)) (place : ℕ) (task new : Task E) → IsAt tasks place
    → task ≡ get_or tasks place task → new ≡ f task → set tasks place new ≡ on_first f tasks
changed-at f tasks place task new at is made =
    ap (set tasks place) made
    ∙ ap (λ n. set tasks n (f task)) at.settled
    ∙ first-changed f tasks task at.turn at.some (next-is tasks place task at is)

-- the first pending task came to something
pub settled-so : {E : Type 0} (outcome : Outcome) (tasks : List (Task E)) (place : ℕ) (task new : Task E) → IsAt tasks place
    → task ≡ get_or tasks place task → new ≡ with_outcome outcome task
    → (are_in_turn (set tasks place new) ≡ true)
    × (place + 1 ≡ settled_of (set tasks place new))
    × (place + 1 ≡ answered_from 1 (set tasks place new))
settled-so outcome tasks place task new at is made =
    let changed = changed-at (with_outcome outcome) tasks place task new at is made in
    let here = next-is tasks place task at is in
    let settled = ap settled_of changed ∙ settled-next (with_outcome outcome) tasks task at.turn at.some here
    ∙ ap (λ t. more_unless t (settled_of tasks)) (settled-waits outcome task) in
    let answered = ap (answered_from 1) changed ∙ answered-next (with_outcome outcome) 1 tasks task at.turn at.some here in (
      ap are_in_turn changed ∙ turn-kept (with_outcome outcome) tasks at.turn,
      omega (arith, at.settled, settled),
      omega (arith, at.settled, answered),
    )

next-place : (t : Bool) (n m : ℕ) → n ≡ m → cond t n (n + 1) ≡ more_unless t m
next-place true n m e = e
next-place false n m e = omega (arith, e)

-- one attempt more was made for it; below eight it waits still
pub tried-so : {E : Type 0} (tasks : List (Task E)) (place answered : ℕ) (task new : Task E) (t : Bool) → IsAt tasks place
    → answered ≡ answered_from 1 tasks → task ≡ get_or tasks place task → new ≡ one_attempt_more task → nat_lt (task.attempts + 1) 8 ≡ t
    → (are_in_turn (set tasks place new) ≡ true)
    × (cond t place (place + 1) ≡ settled_of (set tasks place new))
    × (answered ≡ answered_from 1 (set tasks place new))
tried-so {E} tasks place answered task new t at was is made few =
    let changed = changed-at one_attempt_more tasks place task new at is made in
    let here = next-is tasks place task at is in
    let pending = (first-found tasks task at.turn at.some here).0 in
    let settled = ap settled_of changed ∙ settled-next one_attempt_more tasks task at.turn at.some here
    ∙ ap (λ u. more_unless u (settled_of tasks)) (attempt-waits task pending ∙ few) in
    let none = ap (λ (o : Option Outcome). cond (is_some o) (1 + settled_of tasks) (answered_from 1 tasks)) (waits-open task pending).0 in (
      ap are_in_turn changed ∙ turn-kept one_attempt_more tasks at.turn,
      next-place t place (settled_of tasks) at.settled ∙ sym settled,
      was ∙ sym (ap (answered_from 1) changed ∙ answered-next one_attempt_more 1 tasks task at.turn at.some here ∙ none),
    )

-- a task is put behind the others
pub pushed-so : {E : Type 0} (effect : E) (tasks new : List (Task E)) (place answered : ℕ) → are_in_turn tasks ≡ true → place ≡ settled_of tasks
    → answered ≡ answered_from 1 tasks → new ≡ tasks ++ new_task effect ∷ []
    → (are_in_turn new ≡ true) × (place ≡ settled_of new) × (answered ≡ answered_from 1 new)
pushed-so effect tasks new place answered turn settled was is = (
  ap are_in_turn is ∙ push-turn effect tasks turn,
  settled ∙ sym (ap settled_of is ∙ push-settled effect tasks),
  was ∙ sym (ap (answered_from 1) is ∙ push-answered effect 1 tasks),
)

-- the task at the place is the first pending one
pub here-found : {E : Type 0} (tasks : List (Task E)) (place : ℕ) (task : Task E) → IsAt tasks place → task ≡ get_or tasks place task
    → (waits task ≡ true) × (find waits tasks ≡ Some task)
here-found tasks place task at is = first-found tasks task at.turn at.some (next-is tasks place task at is)

-- and so many attempts were made for it
pub tried-more : {E : Type 0} (tasks seen : List (Task E)) (place made : ℕ) (task : Task E) → tasks ≡ seen → IsAt tasks place
    → task ≡ get_or tasks place task → made ≡ task.attempts + 1 → option_map (λ (t : Task E). t.attempts + 1) (find waits seen) ≡ Some made
tried-more {E} tasks seen place made task view at is so =
    ap (λ ts. option_map (λ (t : Task E). t.attempts + 1) (find waits ts)) (sym view)
    ∙ ap (option_map (λ (t : Task E). t.attempts + 1)) (here-found tasks place task at is).1
    ∙ ap Some (sym so)

pub is-less : {X : Type 0} (place len : ℕ) (xs : List X) → len ≡ length xs → place < len → nat_lt place (length xs) ≡ true
is-less place len xs is lt = lt-ltb place (length xs) (omega arith)

pub is-not-less : {X : Type 0} (place len : ℕ) (xs : List X) → len ≡ length xs → len ≤ place → nat_lt place (length xs) ≡ false
is-not-less place len xs is le = grind (arith, nat_tests)
