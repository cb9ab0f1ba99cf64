-- All tasks, region by region.
use Rattle.std.proofs.Common.{◌≡◌, ℕ, suc, ◌+◌, ◌-◌, ◌<◌, Bool, true, false, cond, ◌||◌, List, [], ◌∷◌, ◌++◌, Option, Some, refl, sym, ap, ◌∙◌, arith}
use Rattle.std.specs.List.{list_any}
use Rattle.s3r_queue.specs.declared.task.Task.{Task}
use Rattle.s3r_queue.specs.declared.task.TaskState.{TaskState}
use Rattle.s3r_queue.specs.Tasks.{state_of}
use Rattle.s3r_queue.specs.Queues.{to_region}
use Rattle.s3r_history.specs.declared.sent.Prescribed.{Prescribed}
use Rattle.s3r_region.specs.Status.{tasks_from, worse_of, worst}

-- those to so many regions are none of these, or these and more
pub any-from : (p : Task Prescribed → Bool) (outbox : List (List (Task Prescribed))) (d n : ℕ)
    → list_any p (tasks_from outbox d (suc n)) ≡ (list_any p (to_region outbox d) || list_any p (tasks_from outbox (suc d) n))
any-from p outbox d n = any-append (to_region outbox d) (tasks_from outbox (suc d) n)
  where
    or-assoc : (a b c : Bool) → (a || (b || c)) ≡ ((a || b) || c)
    or-assoc true b c = refl
    or-assoc false b c = refl

    any-append : (xs ys : List (Task Prescribed)) → list_any p (xs ++ ys) ≡ (list_any p xs || list_any p ys)
    any-append [] ys = refl
    any-append (x ∷ xs) ys = ap (λ t. p x || t) (any-append xs ys) ∙ or-assoc (p x) (list_any p xs) (list_any p ys)

worst-append : (p : Task Prescribed → Bool) (so_far : Option TaskState) (xs ys : List (Task Prescribed))
    → worst p so_far (xs ++ ys) ≡ worst p (worst p so_far xs) ys
worst-append p so_far [] ys = refl
worst-append p so_far (x ∷ xs) ys = worst-append p (cond (p x) (Some (worse_of so_far (state_of x))) so_far) xs ys

pub worst-from : (p : Task Prescribed → Bool) (so_far : Option TaskState) (outbox : List (List (Task Prescribed))) (d n : ℕ)
    → worst p so_far (tasks_from outbox d (suc n)) ≡ worst p (worst p so_far (to_region outbox d)) (tasks_from outbox (suc d) n)
worst-from p so_far outbox d n = worst-append p so_far (to_region outbox d) (tasks_from outbox (suc d) n)

-- ---- one region after another

region-first : {A : Type 0} (f : List (Task Prescribed) → A) (outbox : List (List (Task Prescribed))) (d : ℕ) → d < 8
    → f (tasks_from outbox d (8 - d)) ≡ f (tasks_from outbox d (suc (8 - (d + 1))))
region-first f outbox d lt = let step : 8 - d ≡ suc (8 - (d + 1)) = omega arith in ap (λ n. f (tasks_from outbox d n)) step

region-rest : {A : Type 0} (f : List (Task Prescribed) → A) (outbox : List (List (Task Prescribed))) (d : ℕ)
    → f (tasks_from outbox (suc d) (8 - (d + 1))) ≡ f (tasks_from outbox (d + 1) (8 - (d + 1)))
region-rest f outbox d = let step : suc d ≡ d + 1 = omega arith in ap (λ n. f (tasks_from outbox n (8 - (d + 1)))) step

pub any-next : (p : Task Prescribed → Bool) (outbox : List (List (Task Prescribed))) (d : ℕ) → d < 8 → list_any p (to_region outbox d) ≡ false
    → list_any p (tasks_from outbox (d + 1) (8 - (d + 1))) ≡ list_any p (tasks_from outbox d (8 - d))
any-next p outbox d lt none =
    sym (region-first (list_any p) outbox d lt
    ∙ any-from p outbox d (8 - (d + 1))
    ∙ ap (λ t. t || list_any p (tasks_from outbox (suc d) (8 - (d + 1)))) none
    ∙ region-rest (list_any p) outbox d)

pub any-here : (p : Task Prescribed → Bool) (outbox : List (List (Task Prescribed))) (d : ℕ) → d < 8 → list_any p (to_region outbox d) ≡ true
    → list_any p (tasks_from outbox d (8 - d)) ≡ true
any-here p outbox d lt some =
    region-first (list_any p) outbox d lt
    ∙ any-from p outbox d (8 - (d + 1))
    ∙ ap (λ t. t || list_any p (tasks_from outbox (suc d) (8 - (d + 1)))) some

pub worst-next : (p : Task Prescribed → Bool) (so_far : Option TaskState) (outbox : List (List (Task Prescribed))) (d : ℕ) → d < 8
    → worst p (worst p so_far (to_region outbox d)) (tasks_from outbox (d + 1) (8 - (d + 1))) ≡ worst p so_far (tasks_from outbox d (8 - d))
worst-next p so_far outbox d lt =
    sym (region-first (worst p so_far) outbox d lt
    ∙ worst-from p so_far outbox d (8 - (d + 1))
    ∙ region-rest (worst p (worst p so_far (to_region outbox d))) outbox d)
