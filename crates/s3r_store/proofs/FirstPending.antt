-- The first pending task of a state is that of its history, and may be received elsewhere.
use Rattle.std.proofs.Common.{◌≡◌, ℕ, zero, suc, ◌+◌, ◌-◌, ◌<◌, ◌≤◌, ◌^◌, Bool, true, false, cond, ◌==◌, List, [], ◌∷◌, ◌++◌, map, length, find, ◌⊎◌, inl, inr, ◌||◌, not, nat_le, Option, Some, None, refl, sym, ap, ap₂, ◌∙◌, subst, arith}
use Rattle.std.specs.Prelude.{IfSome, option_map, slice_get}
use Rattle.std.proofs.lemmas.List.{map-append}
use Rattle.std.proofs.lemmas.Option.{slice_get-map, slice_get_past, slice_get_within}
use Rattle.std.proofs.lemmas.Bool.{cases_lt}
use Rattle.std.proofs.lemmas.Bool.Decides.{nat_tests}
use Rattle.std.specs.List.{list_any}
use Rattle.std.specs.Coded.{le_prop}
use Rattle.std.proofs.Math.Logic.{∥∥₁_elim}
use Rattle.s3r_record.specs.declared.command.Command.TheVariants as command
use Rattle.s3r_record.specs.declared.effect.Effect.TheVariants as effects
use Rattle.s3r_record.specs.Spelling.{IsCommand, IsEffect, EffectMeetsLimits}
use Rattle.s3r_queue.specs.declared.task.Task.{Task}
use Rattle.s3r_queue.specs.Tasks.{waits, first_of}
use Rattle.s3r_queue.specs.Queues.{to_region}
use Rattle.s3r_queue.proofs.InTurn.{waits-open}
use Rattle.s3r_history.specs.declared.due.Due.{Due}
use Rattle.s3r_history.specs.declared.sent.Sent.{Sent}
use Rattle.s3r_history.specs.declared.sent.Prescribed.{Prescribed}
use Rattle.s3r_history.specs.Words.{History}
use Rattle.s3r_history.specs.Past.{Carried, Past}
use Rattle.s3r_history.specs.Placed.{sends_to, prescribed, placed_to, placed}
use Rattle.s3r_history.specs.Deeds.{deeds}
use Rattle.s3r_history.specs.declared.refusal.Refusal.TheVariants as refusals
use Rattle.s3r_history.specs.Accepts.{IsLawful, first_of_causes, in_region, of_task}
use Rattle.s3r_history.specs.Tasks.{settled_with, attempts, tasks_from, tasks_to, placed_tasks, first, next_task}
use Rattle.s3r_history.specs.Due.{first_due}
use Rattle.s3r_history.proofs.ShortSends.{sent_short}
use Rattle.s3r_region.specs.Contents.{Contents}
use Rattle.s3r_region.specs.After.{IsAfter}
use Rattle.s3r_region.proofs.Views.{region-tasks}
use Rattle.s3r_region.proofs.Counts.{counts-are}
use Rattle.s3r_store.specs.declared.loaded_region.LoadedRegion.{LoadedRegion}
use Rattle.s3r_store.specs.declared.store.Store.{Store}
use Rattle.s3r_store.specs.Loaded.{IsLoaded}
use Rattle.s3r_store.specs.Knows.{IsStoreAfter}
use Rattle.s3r_store.proofs.Lawful.{region-of, regions-of, held-after}
use Rattle.s3r_store.specs.Pending.{first_task, seen_due, MayEnd}

-- ---- where it stands

first-above : {E : Type 0} (tasks : List (Task E)) → 1 ≤ first_of tasks
first-above [] = omega arith
first-above (task ∷ tasks) = go (waits task)
  where
    go : (t : Bool) → 1 ≤ cond t 1 (suc (first_of tasks))
    go true = omega arith
    go false = omega arith

-- it stands behind those that are no longer pending
pub first-there : {E : Type 0} (tasks : List (Task E)) (n : ℕ) → n + 1 ≡ first_of tasks → slice_get tasks n ≡ find waits tasks
first-there [] n at = slice_get_past [] n (omega arith)
first-there {E} (task ∷ tasks) n at = go (waits task) at (first-there tasks)
  where
    go : (t : Bool) → n + 1 ≡ cond t 1 (suc (first_of tasks)) → ((m : ℕ) → m + 1 ≡ first_of tasks → slice_get tasks m ≡ find waits tasks)
        → slice_get (task ∷ tasks) n ≡ cond t (Some task) (find waits tasks)
    go true at ih = let here : n ≡ 0 = omega (arith, at) in ap (slice_get (task ∷ tasks)) here
    go false at ih =
        let there : n ≡ suc (n - 1) = omega (arith, at, first-above tasks) in
        ap (slice_get (task ∷ tasks)) there ∙ ih (n - 1) (omega (arith, at, first-above tasks))

found-waits : {E : Type 0} (tasks : List (Task E)) → IfSome (find waits tasks) (λ (task : Task E). waits task ≡ true)
found-waits [] = tt
found-waits {E} (task ∷ tasks) = go (waits task) refl (found-waits tasks)
  where
    go : (t : Bool) → waits task ≡ t → IfSome (find waits tasks) (λ (u : Task E). waits u ≡ true)
        → IfSome (cond t (Some task) (find waits tasks)) (λ (u : Task E). waits u ≡ true)
    go true e ih = e
    go false e ih = ih

-- and has fewer than eight attempts
pub first-few : {E : Type 0} (tasks : List (Task E)) (task : Task E) → Some task ≡ find waits tasks → task.attempts ≤ 7
first-few {E} tasks task is =
    let pending = waits-open task (subst (λ (o : Option (Task E)). IfSome o (λ (u : Task E). waits u ≡ true)) (sym is) (found-waits tasks)) in
    omega (arith, pending.1)

-- ---- it is that of the history

effects-to : (place d : ℕ) (sends : List Sent) → map (λ (p : Prescribed). p.effect) (placed_to place d sends) ≡ sends_to d sends
effects-to place d [] = refl
effects-to place d (s ∷ sends) = go (s.region == d) (effects-to place d sends)
  where
    go : (t : Bool) → map (λ (p : Prescribed). p.effect) (placed_to place d sends) ≡ sends_to d sends
        → map (λ (p : Prescribed). p.effect) (cond t (record { effect = s.effect; place = place } ∷ placed_to place d sends) (placed_to place d sends))
        ≡ cond t (s.effect ∷ sends_to d sends) (sends_to d sends)
    go true ih = ap (λ es. s.effect ∷ es) ih
    go false ih = ih

effects-placed : (past : Past) (d : ℕ) → map (λ (p : Prescribed). p.effect) (placed past d) ≡ prescribed past d
effects-placed [] d = refl
effects-placed (e ∷ past) d =
    map-append (λ (p : Prescribed). p.effect) (placed past d) (placed_to e.stamp.index d e.sends)
    ∙ ap₂ (λ xs ys. xs ++ ys) (effects-placed past d) (effects-to e.stamp.index d e.sends)

-- an effect as the task of this number
abbrev as-task : {E : Type 0} → History → ℕ → ℕ → E → Task E
as-task h d n e = record { effect = e; outcome = settled_with h d n; attempts = attempts h d n }

task-at : {E : Type 0} (h : History) (d n i : ℕ) (es : List E) → slice_get (tasks_from h d n es) i ≡ option_map (as-task h d (n + i)) (slice_get es i)
task-at h d n i [] = slice_get_past [] i (omega arith)
task-at h d n zero (e ∷ es) = let same : n ≡ n + 0 = omega arith in ap (λ (m : ℕ). Some (as-task h d m e)) same
task-at h d n (suc i) (e ∷ es) =
    let same : suc n + i ≡ n + suc i = omega arith in task-at h d (suc n) i es ∙ ap (λ (m : ℕ). option_map (as-task h d m) (slice_get es i)) same

-- a task as it is due
abbrev as-due : ℕ → Task Prescribed → Due
as-due n t = record { number = n; attempts = t.attempts; effect = t.effect.effect }

due-of : (h : History) (d n m : ℕ) (o : Option Prescribed) → m ≡ n
    → option_map (as-due n) (option_map (as-task h d m) o)
    ≡ option_map (λ (e : Carried). record { number = n; attempts = attempts h d n; effect = e }) (option_map (λ (p : Prescribed). p.effect) o)
due-of h d n m None same = refl
due-of h d n m (Some p) same = ap (λ (k : ℕ). Some (as-due n (as-task h d k p))) same

pub due-is : (s : Contents) (h : History) (d : ℕ) → IsAfter s h → seen_due s d ≡ first_due h (deeds s.region h) d
due-is s h d after =
    let past = deeds s.region h in
    let n = first h past d in
    let tasks = placed_tasks h past d in
    let is = region-tasks s h after d in
    let at : first_of tasks ≡ n = sym (ap first_of is) ∙ (counts-are s h after d).2 in
    let above = first-above tasks in
    let behind : n - 1 + 1 ≡ first_of tasks = omega (arith, at, above) in
    let place : 1 + (n - 1) ≡ n = omega (arith, at, above) in
    ap (λ ts. option_map (as-due (first_of ts)) (find waits ts)) is
    ∙ ap₂ (λ k o. option_map (as-due k) o) at (sym (first-there tasks (n - 1) behind) ∙ task-at h d 1 (n - 1) (placed past d))
    ∙ due-of h d n (1 + (n - 1)) (slice_get (placed past d) (n - 1)) place
    ∙ ap (option_map (λ (e : Carried). record { number = n; attempts = attempts h d n; effect = e }))
    (sym (slice_get-map (λ (p : Prescribed). p.effect) (placed past d) (n - 1)) ∙ ap (λ es. slice_get es (n - 1)) (effects-placed past d))

-- ---- it may be received elsewhere

limits-prop : (e : Carried) → IsProp (EffectMeetsLimits e)
limits-prop (effects.Replica from to key id n tags tags_stamp hold hold_stamp class body) = hlevel le_prop
limits-prop (effects.Marker from to key id n) = hlevel le_prop
limits-prop (effects.Tags from to key id tags stamp) = hlevel le_prop
limits-prop (effects.Hold from to key id hold stamp) = hlevel le_prop

due-at : (due : Due) (n k : ℕ) (o : Option Carried) → Some due ≡ option_map (λ (e : Carried). record { number = n; attempts = k; effect = e }) o
    → (due.number ≡ n) × (o ≡ Some due.effect)
due-at due n k None is = absurd cc
due-at due n k (Some e) is =
    let same : ◌≡◌ {A = Due} due (record { number = n; attempts = k; effect = e }) = cc in
    (ap (λ (d : Due). d.number) same, ap (λ (d : Due). Some d.effect) (sym same))

short-one : (n v : ℕ) (held : LoadedRegion) (d : ℕ) (due : Due) → v ≤ 7 → held.state.commands < 2 ^ 64 → Some due ≡ seen_due held.state d → IsLoaded n v held
    → EffectMeetsLimits due.effect
short-one n v held d due region few is l =
    let past = deeds held.state.region l.0 in
    let at = due-at due (first l.0 past d) _ (slice_get (prescribed past d) (first l.0 past d - 1)) (is ∙ due-is held.state l.0 d l.1) in
    sent_short n held.state.region l.0 (omega (arith, region, l.2)) (omega (arith, few, l.1.commands))
    (subst (λ (r : ℕ). IsLawful n r l.0) (sym l.2) l.4) d (first l.0 past d - 1) due.effect at.1

seen-above : (s : Contents) (d : ℕ) (due : Due) → Some due ≡ seen_due s d → 1 ≤ due.number
seen-above s d due is = go (first_task s d) is
  where
    go : (o : Option (Task Prescribed)) → Some due ≡ option_map (as-due (first_of (to_region s.outbox d))) o → 1 ≤ due.number
    go None is = absurd cc
    go (Some task) is =
        let same : ◌≡◌ {A = Due} due (as-due (first_of (to_region s.outbox d)) task) = cc in
        omega (arith, ap (λ (x : Due). x.number) same, first-above (to_region s.outbox d))

pub due-fits : (n v : ℕ) (held : LoadedRegion) (d : ℕ) (o : Option Due) → v ≤ 7 → held.state.commands < 2 ^ 64 → ∥ IsLoaded n v held ∥₁
    → o ≡ seen_due held.state d
    → IfSome o (λ (due : Due). EffectMeetsLimits due.effect → IsEffect due.effect) → IfSome o (λ (due : Due). due.number < 2 ^ 64)
    → IfSome o (λ (due : Due). IsCommand (command.Receive v due.number due.effect))
due-fits n v held d None region few some is named small = tt
due-fits n v held d (Some due) region few some is named small = (
  record { region = region; above = seen-above held.state d due is; below = small },
  named (∥∥₁_elim some (limits-prop due.effect) (short-one n v held d due region few is)),
)

-- ---- it may be settled, or tried once more

length-tasks : {E : Type 0} (h : History) (d n : ℕ) (es : List E) → length (tasks_from h d n es) ≡ length es
length-tasks h d n [] = refl
length-tasks h d n (e ∷ es) = ap suc (length-tasks h d (suc n) es)

first-past : {E : Type 0} (tasks : List (Task E)) → list_any waits tasks ≡ false → first_of tasks ≡ suc (length tasks)
first-past [] none = refl
first-past (task ∷ tasks) none = go (waits task) none (first-past tasks)
  where
    go : (t : Bool) → (t || list_any waits tasks) ≡ false → (list_any waits tasks ≡ false → first_of tasks ≡ suc (length tasks))
        → cond t 1 (suc (first_of tasks)) ≡ suc (suc (length tasks))
    go true none ih = absurd cc
    go false none ih = ap suc (ih none)

module _ (s : Contents) (h : History) (after : IsAfter s h) (d : ℕ) (due : Due) (is : Some due ≡ first_due h (deeds s.region h) d) where
  abbrev past : Past
  past = deeds s.region h

  found : (due.number ≡ first h past d) × (slice_get (prescribed past d) (first h past d - 1) ≡ Some due.effect)
  found = due-at due (first h past d) _ (slice_get (prescribed past d) (first h past d - 1)) is

  is-there : d < s.regions
  is-there = go (cases_lt d s.regions)
    where
      go : (d < s.regions) ⊎ (s.regions ≤ d) → d < s.regions
      go (inl lt) = lt
      go (inr le) =
          let none : prescribed past d ≡ [] = sym (effects-placed past d) ∙ ap (map (λ (p : Prescribed). p.effect)) (after.beyond d le) in
          absurd (let got = sym (slice_get_past [] (first h past d - 1) (omega arith))
          ∙ sym (ap (λ es. slice_get es (first h past d - 1)) none) ∙ found.1 in cc)

  is-next : next_task h past d ≡ due.number
  is-next = go (list_any waits (tasks_to h past d)) refl
    where
      go : (t : Bool) → list_any waits (tasks_to h past d) ≡ t → cond t (first h past d) 0 ≡ due.number
      go true e = sym found.0
      go false e =
          absurd (omega (
            arith,
            first-past (tasks_to h past d) e,
            length-tasks h d 1 (prescribed past d),
            slice_get_within (prescribed past d) (first h past d - 1) due.effect found.1,
          ))

  accepted : first_of_causes (in_region s.regions d (of_task due.number (next_task h past d))) ≡ None
  accepted = go (nat_le s.regions d) (due.number == next_task h past d) refl refl
    where
      go : (t u : Bool) → nat_le s.regions d ≡ t → (due.number == next_task h past d) ≡ u
          → cond t (Some (refusals.NoSuchRegion d)) (cond (not u) (Some (refusals.NotFirst (next_task h past d))) None) ≡ None
      go true u e f = absurd (let lt = is-there in grind (arith, nat_tests))
      go false true e f = refl
      go false false e f = absurd (let same = is-next in grind (arith, nat_tests))

  pub may-end : MayEnd s.regions s.region h d due.number
  may-end = (λ outcome. accepted, accepted)

pub store-may-end : (store : Store) (held : LoadedRegion) (d : ℕ) (o : Option Due) → store.held ≡ Some held → o ≡ seen_due held.state d
    → IfSome o (λ (due : Due). (h : History) → IsStoreAfter store h → MayEnd store.regions store.v h d due.number)
store-may-end store held d None e is = tt
store-may-end store held d (Some due) e is = λ h after.
    let here = held-after store held h e after in
    let lawful = store.lawful held e in
    subst (λ (n : ℕ). MayEnd n store.v h d due.number) (regions-of store.regions store.v held lawful)
    (subst (λ (r : ℕ). MayEnd held.state.regions r h d due.number) (region-of store.regions store.v held lawful)
    (may-end held.state h here d due (is ∙ due-is held.state h d here)))
