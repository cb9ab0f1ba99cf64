-- The place of a job in the order in which they were created.
use Rattle.std.proofs.Common.{◌≡◌, ℕ, suc, ◌≤◌, Bool, true, false, cond, nat_lt, List, [], ◌∷◌, length, insert, map, refl, sym, ap, subst, arith}
use Rattle.std.specs.Prelude.{IsTrue, ◌&&◌}
use Rattle.std.specs.List.{list_all}
use Rattle.s3r_jobs.specs.declared.any.AnyJob.{AnyJob}
use Rattle.s3r_jobs.specs.Any.{facts}
use Rattle.s3r_jobs.specs.Facts.{JobFacts}
use Rattle.s3r_jobs.specs.Jobs.{in_order, order_of}

pub order-within : (id : ℕ) (jobs : List AnyJob) → order_of id (map facts jobs) ≤ length jobs
order-within id [] = omega arith
order-within id (x ∷ xs) = go (nat_lt id (facts x).id) (order-within id xs)
  where
    go : (t : Bool) → order_of id (map facts xs) ≤ length xs → cond t 0 (suc (order_of id (map facts xs))) ≤ suc (length xs)
    go true h = omega arith
    go false h = omega arith

pub insert-is : (job : AnyJob) (jobs : List AnyJob) → map facts (insert jobs (order_of (facts job).id (map facts jobs)) job) ≡ in_order (facts job)
    (map facts jobs)
insert-is job [] = refl
insert-is job (x ∷ xs) = go (nat_lt (facts job).id (facts x).id) (insert-is job xs)
  where
    go : (t : Bool) → map facts (insert xs (order_of (facts job).id (map facts xs)) job) ≡ in_order (facts job) (map facts xs)
        → map facts (insert (x ∷ xs) (cond t 0 (suc (order_of (facts job).id (map facts xs)))) job)
        ≡ cond t (facts job ∷ facts x ∷ map facts xs) (facts x ∷ in_order (facts job) (map facts xs))
    go true ih = refl
    go false ih = ap (λ ys. facts x ∷ ys) ih

-- what it and each of the others passes each of all passes
pub all-in_order : (p : JobFacts → Bool) (job : JobFacts) (jobs : List JobFacts) → IsTrue (p job) → IsTrue (list_all p jobs)
    → IsTrue (list_all p (in_order job jobs))
all-in_order p job [] is all = rw is refl
all-in_order p job (other ∷ jobs) is all = go (p other) (nat_lt job.id other.id) refl all (all-in_order p job jobs is)
  where
    go : (t u : Bool) → p other ≡ t → IsTrue (t && list_all p jobs) → (IsTrue (list_all p jobs) → IsTrue (list_all p (in_order job jobs)))
        → IsTrue (list_all p (cond u (job ∷ other ∷ jobs) (other ∷ in_order job jobs)))
    go true true same all ih = rw (is, same) all
    go true false same all ih = rw same (ih all)
    go false u same all ih = absurd cc

-- and where all are these
pub all-put : (p : JobFacts → Bool) (job : AnyJob) (jobs all : List AnyJob) → map facts all ≡ in_order (facts job) (map facts jobs)
    → IsTrue (p (facts job)) → IsTrue (list_all p (map facts jobs)) → IsTrue (list_all p (map facts all))
all-put p job jobs all is one rest =
    subst (λ (xs : List JobFacts). IsTrue (list_all p xs)) (sym is) (all-in_order p (facts job) (map facts jobs) one rest)
