-- The tasks to a region, one command after another.
use Rattle.std.proofs.Common.{◌≡◌, ℕ, suc, ◌+◌, ◌<◌, ◌≤◌, Bool, true, false, cond, ◌&&◌, ◌||◌, ◌==◌, List, [], ◌∷◌, ◌++◌, map, length, Option, Some, None, refl, ap, ◌∙◌, arith}
use Rattle.std.specs.List.{list_any}
use Rattle.std.proofs.lemmas.Bool.Decides.{nat_tests}
use Rattle.s3r_names.specs.declared.outcome.Outcome.{Outcome}
use Rattle.s3r_record.specs.declared.command.Command.{Command}
use Rattle.s3r_record.specs.declared.command.Command.TheVariants as command
use Rattle.s3r_queue.specs.declared.task.Task.{Task}
use Rattle.s3r_queue.specs.Tasks.{waits, first_of, new_task, with_outcome, one_attempt_more, on_first}
use Rattle.s3r_history.specs.Words.{History, or_else}
use Rattle.s3r_history.specs.Past.{Past}
use Rattle.s3r_history.specs.Tasks.{sent, settled_with, attempts, tasks_from}
use Rattle.s3r_history.specs.AgreeLaws.{settles_to}
use Rattle.s3r_history.specs.Kept.{NoneAhead}

-- the command is an attempt for a task to the region
abbrev pub tries_to : ℕ → Command → Bool
tries_to d (command.CreateBucket name locked) = false
tries_to d (command.DeleteBucket name) = false
tries_to d (command.SetVersioning name enabled) = false
tries_to d (command.SetReplication name config regions) = false
tries_to d (command.DropReplication name) = false
tries_to d (command.Put bucket key tags hold class body) = false
tries_to d (command.Marker bucket key) = false
tries_to d (command.Remove bucket key id) = false
tries_to d (command.SetTags bucket key id tags) = false
tries_to d (command.SetHold bucket key id hold) = false
tries_to d (command.Receive from number effect) = false
tries_to d (command.Settle to number outcome) = false
tries_to d (command.Attempt to number) = to == d
tries_to d (command.CreateJob spec manifest) = false
tries_to d (command.MoveJob job state) = false
tries_to d (command.SetPriority job priority) = false
tries_to d (command.Prepare job) = false
tries_to d (command.Line job line) = false
tries_to d (command.Finish job body) = false

task_eq : {E : Type 0} (e : E) (o p : Option Outcome) (j k : ℕ) → o ≡ p → j ≡ k
    → ◌≡◌ {A = Task E} (record { effect = e; outcome = o; attempts = j }) (record { effect = e; outcome = p; attempts = k })
task_eq {E} e o p j k a b =
    ap (λ (x : Option Outcome). record { effect = e; outcome = x; attempts = j }) a ∙ ap (λ (x : ℕ). record { effect = e; outcome = p; attempts = x }) b

-- ---- a command that settles and tries nothing there

pub settled-quiet : (d n : ℕ) (c : Command) (h : History) → settles_to d c ≡ false → settled_with (c ∷ h) d n ≡ settled_with h d n
settled-quiet d n (command.Settle to number outcome) h e = ap (λ t. or_else (cond (t && (number == n)) (Some outcome) None) (settled_with h d n)) e
settled-quiet d n _ h e = refl

pub attempts-quiet : (d n : ℕ) (c : Command) (h : History) → tries_to d c ≡ false → attempts (c ∷ h) d n ≡ attempts h d n
attempts-quiet d n (command.Attempt to number) h e = ap (λ t. cond (t && (number == n)) (suc (attempts h d n)) (attempts h d n)) e
attempts-quiet d n _ h e = refl

pub tasks-quiet : {E : Type 0} (d n : ℕ) (c : Command) (h : History) (es : List E) → settles_to d c ≡ false → tries_to d c ≡ false
    → tasks_from (c ∷ h) d n es ≡ tasks_from h d n es
tasks-quiet d n c h [] s t = refl
tasks-quiet d n c h (e ∷ es) s t =
    ap (λ x. x ∷ tasks_from (c ∷ h) d (suc n) es) (task_eq e _ _ _ _ (settled-quiet d n c h s) (attempts-quiet d n c h t))
    ∙ ap (λ xs. record { effect = e; outcome = settled_with h d n; attempts = attempts h d n } ∷ xs) (tasks-quiet d (suc n) c h es s t)

tasks-append : {E : Type 0} (h : History) (d n : ℕ) (es fs : List E) → tasks_from h d n (es ++ fs) ≡ tasks_from h d n es ++ tasks_from h d (n + length es) fs
tasks-append h d n [] fs = let same : n ≡ n + 0 = omega arith in ap (λ m. tasks_from h d m fs) same
tasks-append h d n (e ∷ es) fs =
    let same : suc n + length es ≡ n + suc (length es) = omega arith in
    ap (λ xs. record { effect = e; outcome = settled_with h d n; attempts = attempts h d n } ∷ xs)
    (tasks-append h d (suc n) es fs ∙ ap (λ m. tasks_from h d (suc n) es ++ tasks_from h d m fs) same)

tasks-new : {E : Type 0} (h : History) (past : Past) (d n : ℕ) (es : List E) → NoneAhead h past → sent past d < n → tasks_from h d n es ≡ map new_task es
tasks-new h past d n [] none lt = refl
tasks-new h past d n (e ∷ es) none lt =
    ap (λ x. x ∷ tasks_from h d (suc n) es) (task_eq e _ _ _ _ (none d n lt).0 (none d n lt).1)
    ∙ ap (λ xs. new_task e ∷ xs) (tasks-new h past d (suc n) es none (omega arith))

-- What a command prescribes is put behind the tasks that there are.
pub tasks-pushed : {E : Type 0} (d : ℕ) (h : History) (past : Past) (c : Command) (es fs : List E) → settles_to d c ≡ false → tries_to d c ≡ false
    → NoneAhead h past → length es ≡ sent past d
    → tasks_from (c ∷ h) d 1 (es ++ fs) ≡ tasks_from h d 1 es ++ map new_task fs
tasks-pushed d h past c es fs s t none all =
    tasks-quiet d 1 c h (es ++ fs) s t ∙ tasks-append h d 1 es fs
    ∙ ap (λ xs. tasks_from h d 1 es ++ xs) (tasks-new h past d (1 + length es) fs none (omega (arith, all)))

-- ---- the first pending task is settled

eqb-other : (m n : ℕ) → m < n → (n == m) ≡ false
eqb-other m n lt = grind (arith, nat_tests)

first-above : {E : Type 0} (h : History) (d n : ℕ) (es : List E) → 1 ≤ first_of (tasks_from h d n es)
first-above h d n [] = omega arith
first-above {E} h d n (e ∷ es) = go (waits {E = E} (record { effect = e; outcome = settled_with h d n; attempts = attempts h d n }))
  where
    go : (t : Bool) → 1 ≤ cond t 1 (suc (first_of (tasks_from h d (suc n) es)))
    go true = omega arith
    go false = omega arith

-- settling or trying a number leaves the tasks behind it as they are
settle-behind : {E : Type 0} (d n k : ℕ) (o : Outcome) (h : History) (es : List E) → n < k → tasks_from (command.Settle d n o ∷ h) d k es ≡ tasks_from h d k es
settle-behind d n k o h [] lt = refl
settle-behind d n k o h (e ∷ es) lt =
    let other : ((d == d) && (n == k)) ≡ false = grind (arith, nat_tests) in
    ap (λ x. x ∷ tasks_from (command.Settle d n o ∷ h) d (suc k) es)
    (task_eq e _ _ _ _ (ap (λ t. or_else (cond t (Some o) None) (settled_with h d k)) other) refl)
    ∙ ap (λ xs. record { effect = e; outcome = settled_with h d k; attempts = attempts h d k } ∷ xs) (settle-behind d n (suc k) o h es (omega arith))

settle-from : {E : Type 0} (d n k : ℕ) (o : Outcome) (h : History) (es : List E) → list_any waits (tasks_from h d k es) ≡ true
    → n + 1 ≡ first_of (tasks_from h d k es) + k
    → tasks_from (command.Settle d n o ∷ h) d k es ≡ on_first (with_outcome o) (tasks_from h d k es)
settle-from d n k o h [] some at = absurd cc
settle-from {E} d n k o h (e ∷ es) some at = go (waits task) some at (settle-from d n (suc k) o h es) (first-above h d (suc k) es)
  where
    task : Task E
    task = record { effect = e; outcome = settled_with h d k; attempts = attempts h d k }

    go : (t : Bool) → (t || list_any waits (tasks_from h d (suc k) es)) ≡ true → n + 1 ≡ cond t 1 (suc (first_of (tasks_from h d (suc k) es))) + k
        → (list_any waits (tasks_from h d (suc k) es) ≡ true → n + 1 ≡ first_of (tasks_from h d (suc k) es) + suc k
        → tasks_from (command.Settle d n o ∷ h) d (suc k) es ≡ on_first (with_outcome o) (tasks_from h d (suc k) es))
        → 1 ≤ first_of (tasks_from h d (suc k) es)
        → tasks_from (command.Settle d n o ∷ h) d k (e ∷ es) ≡ cond t (with_outcome o task ∷ tasks_from h d (suc k) es)
        (task ∷ on_first (with_outcome o) (tasks_from h d (suc k) es))
    go true some at ih above =
        let here : ((d == d) && (n == k)) ≡ true = grind (arith, nat_tests) in
        ap (λ x. x ∷ tasks_from (command.Settle d n o ∷ h) d (suc k) es)
        (task_eq e _ _ _ _ (ap (λ t. or_else (cond t (Some o) None) (settled_with h d k)) here) refl)
        ∙ ap (λ xs. with_outcome o task ∷ xs) (settle-behind d n (suc k) o h es (omega arith))
    go false some at ih above =
        let other : ((d == d) && (n == k)) ≡ false = grind (arith, nat_tests) in
        ap (λ x. x ∷ tasks_from (command.Settle d n o ∷ h) d (suc k) es)
        (task_eq e _ _ _ _ (ap (λ t. or_else (cond t (Some o) None) (settled_with h d k)) other) refl)
        ∙ ap (λ xs. task ∷ xs) (ih some (omega arith))

-- A task that is settled is the first pending one, and the others stay as they are.
pub tasks-settled : {E : Type 0} (d n : ℕ) (o : Outcome) (h : History) (es : List E) → list_any waits (tasks_from h d 1 es) ≡ true
    → n ≡ first_of (tasks_from h d 1 es)
    → tasks_from (command.Settle d n o ∷ h) d 1 es ≡ on_first (with_outcome o) (tasks_from h d 1 es)
tasks-settled d n o h es some at = settle-from d n 1 o h es some (omega (arith, at))

-- ---- one attempt more is made for it

attempt-behind : {E : Type 0} (d n k : ℕ) (h : History) (es : List E) → n < k → tasks_from (command.Attempt d n ∷ h) d k es ≡ tasks_from h d k es
attempt-behind d n k h [] lt = refl
attempt-behind d n k h (e ∷ es) lt =
    let other : ((d == d) && (n == k)) ≡ false = grind (arith, nat_tests) in
    ap (λ x. x ∷ tasks_from (command.Attempt d n ∷ h) d (suc k) es) (task_eq e _ _ _ _ refl (ap (λ t. cond t (suc (attempts h d k)) (attempts h d k)) other))
    ∙ ap (λ xs. record { effect = e; outcome = settled_with h d k; attempts = attempts h d k } ∷ xs) (attempt-behind d n (suc k) h es (omega arith))

attempt-from : {E : Type 0} (d n k : ℕ) (h : History) (es : List E) → list_any waits (tasks_from h d k es) ≡ true → n + 1 ≡ first_of (tasks_from h d k es) + k
    → tasks_from (command.Attempt d n ∷ h) d k es ≡ on_first one_attempt_more (tasks_from h d k es)
attempt-from d n k h [] some at = absurd cc
attempt-from {E} d n k h (e ∷ es) some at = go (waits task) some at (attempt-from d n (suc k) h es) (first-above h d (suc k) es)
  where
    task : Task E
    task = record { effect = e; outcome = settled_with h d k; attempts = attempts h d k }

    go : (t : Bool) → (t || list_any waits (tasks_from h d (suc k) es)) ≡ true → n + 1 ≡ cond t 1 (suc (first_of (tasks_from h d (suc k) es))) + k
        → (list_any waits (tasks_from h d (suc k) es) ≡ true → n + 1 ≡ first_of (tasks_from h d (suc k) es) + suc k
        → tasks_from (command.Attempt d n ∷ h) d (suc k) es ≡ on_first one_attempt_more (tasks_from h d (suc k) es))
        → 1 ≤ first_of (tasks_from h d (suc k) es)
        → tasks_from (command.Attempt d n ∷ h) d k (e ∷ es) ≡ cond t (one_attempt_more task ∷ tasks_from h d (suc k) es)
        (task ∷ on_first one_attempt_more (tasks_from h d (suc k) es))
    go true some at ih above =
        let here : ((d == d) && (n == k)) ≡ true = grind (arith, nat_tests) in
        let more : suc (attempts h d k) ≡ attempts h d k + 1 = omega arith in
        ap (λ x. x ∷ tasks_from (command.Attempt d n ∷ h) d (suc k) es)
        (task_eq e _ _ _ _ refl (ap (λ t. cond t (suc (attempts h d k)) (attempts h d k)) here ∙ more))
        ∙ ap (λ xs. one_attempt_more task ∷ xs) (attempt-behind d n (suc k) h es (omega arith))
    go false some at ih above =
        let other : ((d == d) && (n == k)) ≡ false = grind (arith, nat_tests) in
        ap (λ x. x ∷ tasks_from (command.Attempt d n ∷ h) d (suc k) es)
        (task_eq e _ _ _ _ refl (ap (λ t. cond t (suc (attempts h d k)) (attempts h d k)) other))
        ∙ ap (λ xs. task ∷ xs) (ih some (omega arith))

-- One attempt more is made for the first pending task, and the others stay as they are.
pub tasks-tried : {E : Type 0} (d n : ℕ) (h : History) (es : List E) → list_any waits (tasks_from h d 1 es) ≡ true → n ≡ first_of (tasks_from h d 1 es)
    → tasks_from (command.Attempt d n ∷ h) d 1 es ≡ on_first one_attempt_more (tasks_from h d 1 es)
tasks-tried d n h es some at = attempt-from d n 1 h es some (omega (arith, at))

-- The effects of tasks are those that they were made of.
pub tasks-effects : {E : Type 0} (h : History) (d n : ℕ) (es : List E) → map (λ (task : Task E). task.effect) (tasks_from h d n es) ≡ es
tasks-effects h d n [] = refl
tasks-effects h d n (e ∷ es) = ap (λ xs. e ∷ xs) (tasks-effects h d (suc n) es)
