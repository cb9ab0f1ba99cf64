-- No task is settled or tried before it is prescribed, and what is settled or tried is the first pending one.
use Rattle.std.proofs.Common.{◌≡◌, ℕ, suc, ◌<◌, ◌≤◌, Bool, true, false, cond, not, ◌&&◌, ◌||◌, ◌==◌, nat_le, List, [], ◌∷◌, length, Some, None, refl, ap, ◌∙◌, arith, length-append, eqb-true}
use Rattle.std.specs.List.{list_any}
use Rattle.std.proofs.lemmas.Bool.Decides.{nat_tests}
use Rattle.s3r_record.specs.declared.command.Command.{Command}
use Rattle.s3r_record.specs.declared.command.Command.TheVariants as command
use Rattle.s3r_queue.specs.declared.task.Task.{Task}
use Rattle.s3r_queue.specs.Tasks.{waits, first_of}
use Rattle.s3r_history.specs.declared.refusal.Refusal.TheVariants as refusals
use Rattle.s3r_history.specs.Words.{History, or_else}
use Rattle.s3r_history.specs.Past.{Carried, Deed, Past}
use Rattle.s3r_history.specs.Placed.{sends_to, prescribed}
use Rattle.s3r_history.specs.Tasks.{sent, settled_with, attempts, tasks_from, tasks_to, first, next_task}
use Rattle.s3r_history.specs.Accepts.{first_of_causes, in_region, of_task}
use Rattle.s3r_history.specs.Kept.{NoneAhead}

pub none_at_first : NoneAhead [] []
none_at_first d n lt = (refl, refl)

-- a command that is accepted has the number that comes next
pub accepted-next : (n to number next : ℕ) → first_of_causes (in_region n to (of_task number next)) ≡ None → number ≡ next
accepted-next n to number next ok = go (nat_le n to) (number == next) refl ok
  where
    go : (t u : Bool) → (number == next) ≡ u → cond t (Some (refusals.NoSuchRegion to)) (cond (not u) (Some (refusals.NotFirst next)) None) ≡ None
        → number ≡ next
    go true u e ok = absurd cc
    go false true e ok = eqb-true number next e
    go false false e ok = absurd cc

pub length-tasks : (h : History) (d n : ℕ) (es : List Carried) → length (tasks_from h d n es) ≡ length es
length-tasks h d n [] = refl
length-tasks h d n (e ∷ es) = ap suc (length-tasks h d (suc n) es)

pub first-within : {E : Type 0} (tasks : List (Task E)) → list_any waits tasks ≡ true → first_of tasks ≤ length tasks
first-within [] some = absurd cc
first-within (task ∷ tasks) some = go (waits task) some (first-within tasks)
  where
    go : (t : Bool) → (t || list_any waits tasks) ≡ true → (list_any waits tasks ≡ true → first_of tasks ≤ length tasks)
        → cond t 1 (suc (first_of tasks)) ≤ suc (length tasks)
    go true some ih = omega arith
    go false some ih = omega (arith, ih some)

-- what comes next is the first pending task
pub record IsNext (h : History) (past : Past) (d n : ℕ) : Type 0 where
  pub pending : list_any waits (tasks_to h past d) ≡ true
  pub first : n ≡ first h past d
  pub within : n ≤ sent past d

pub next-is : (h : History) (past : Past) (d n : ℕ) → 1 ≤ n → n ≡ next_task h past d → IsNext h past d n
next-is h past d n above is = go (list_any waits (tasks_to h past d)) refl is
  where
    go : (t : Bool) → list_any waits (tasks_to h past d) ≡ t → n ≡ cond t (first h past d) 0 → IsNext h past d n
    go true some is =
        record { pending = some; first = is; within = omega (arith, is, first-within (tasks_to h past d) some, length-tasks h d 1 (prescribed past d)) }
    go false none is = absurd (omega (arith, is, above))

-- a command settles or tries no task that isn't prescribed yet
abbrev pub IsWithin : Past → Command → Type 0
IsWithin past (command.CreateBucket name locked) = Unit {0}
IsWithin past (command.DeleteBucket name) = Unit {0}
IsWithin past (command.SetVersioning name enabled) = Unit {0}
IsWithin past (command.SetReplication name config regions) = Unit {0}
IsWithin past (command.DropReplication name) = Unit {0}
IsWithin past (command.Put bucket key tags hold class body) = Unit {0}
IsWithin past (command.Marker bucket key) = Unit {0}
IsWithin past (command.Remove bucket key id) = Unit {0}
IsWithin past (command.SetTags bucket key id tags) = Unit {0}
IsWithin past (command.SetHold bucket key id hold) = Unit {0}
IsWithin past (command.Receive from number effect) = Unit {0}
IsWithin past (command.Settle to number outcome) = number ≤ sent past to
IsWithin past (command.Attempt to number) = number ≤ sent past to
IsWithin past (command.CreateJob spec manifest) = Unit {0}
IsWithin past (command.MoveJob job state) = Unit {0}
IsWithin past (command.SetPriority job priority) = Unit {0}
IsWithin past (command.Prepare job) = Unit {0}
IsWithin past (command.Line job line) = Unit {0}
IsWithin past (command.Finish job body) = Unit {0}

not-it : (to number d n k : ℕ) → (to ≡ d → number ≤ k) → k < n → ((to == d) && (number == n)) ≡ false
not-it to number d n k within lt = go (to == d) refl
  where
    go : (t : Bool) → (to == d) ≡ t → (t && (number == n)) ≡ false
    go true e = let le : number ≤ k = within (eqb-true to d e) in grind (arith, nat_tests)
    go false e = refl

settled-ahead : (past : Past) (d n : ℕ) (c : Command) (h : History) → IsWithin past c → sent past d < n → settled_with (c ∷ h) d n ≡ settled_with h d n
settled-ahead past d n (command.Settle to number outcome) h within lt =
    ap (λ t. or_else (cond t (Some outcome) None) (settled_with h d n)) (not-it to number d n (sent past d) (λ e. omega (arith, within, ap (sent past) e)) lt)
settled-ahead past d n _ h within lt = refl

attempts-ahead : (past : Past) (d n : ℕ) (c : Command) (h : History) → IsWithin past c → sent past d < n → attempts (c ∷ h) d n ≡ attempts h d n
attempts-ahead past d n (command.Attempt to number) h within lt =
    ap (λ t. cond t (suc (attempts h d n)) (attempts h d n)) (not-it to number d n (sent past d) (λ e. omega (arith, within, ap (sent past) e)) lt)
attempts-ahead past d n _ h within lt = refl

pub ahead-kept : (h : History) (past : Past) (c : Command) (e : Deed) → IsWithin past c → NoneAhead h past → NoneAhead (c ∷ h) (e ∷ past)
ahead-kept h past c e within none d n lt =
    let before : sent past d < n = omega (arith, lt, length-append (prescribed past d) (sends_to d e.sends)) in
    (settled-ahead past d n c h within before ∙ (none d n before).0, attempts-ahead past d n c h within before ∙ (none d n before).1)
