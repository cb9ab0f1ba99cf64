-- The place of a job among others.
use Rattle.std.proofs.Common.{◌≡◌, ℕ, suc, ◌<◌, ◌≤◌, Bool, true, false, cond, List, [], ◌∷◌, length, get_or, remove, map, find, Some, None, refl, sym, ap, subst, arith}
use Rattle.std.specs.Prelude.{IsTrue, ◌&&◌}
use Rattle.std.specs.List.{list_all}
use Rattle.s3r_jobs.specs.declared.any.AnyJob.{AnyJob}
use Rattle.s3r_jobs.specs.Any.{facts}
use Rattle.s3r_jobs.specs.Facts.{JobFacts}
use Rattle.s3r_jobs.specs.Jobs.{is_job, place_of, without}

pub place-within : (id : ℕ) (jobs : List AnyJob) → place_of id (map facts jobs) ≤ length jobs
place-within id [] = omega arith
place-within id (x ∷ xs) = go (is_job id (facts x)) (place-within id xs)
  where
    go : (t : Bool) → place_of id (map facts xs) ≤ length xs → cond t 0 (suc (place_of id (map facts xs))) ≤ suc (length xs)
    go true h = omega arith
    go false h = omega arith

pub find-at : (id : ℕ) (jobs : List AnyJob) (d : AnyJob) → place_of id (map facts jobs) < length jobs
    → find (is_job id) (map facts jobs) ≡ Some (facts (get_or jobs (place_of id (map facts jobs)) d))
find-at id [] d h = absurd (omega arith)
find-at id (x ∷ xs) d h = go (is_job id (facts x)) h (find-at id xs d)
  where
    go : (t : Bool) → cond t 0 (suc (place_of id (map facts xs))) < suc (length xs)
        → (place_of id (map facts xs) < length xs → find (is_job id) (map facts xs) ≡ Some (facts (get_or xs (place_of id (map facts xs)) d)))
        → cond t (Some (facts x)) (find (is_job id) (map facts xs)) ≡ Some (facts (get_or (x ∷ xs) (cond t 0 (suc (place_of id (map facts xs)))) d))
    go true h ih = refl
    go false h ih = ih (omega arith)

pub find-none : (id : ℕ) (jobs : List AnyJob) → place_of id (map facts jobs) ≡ length jobs → find (is_job id) (map facts jobs) ≡ None
find-none id [] h = refl
find-none id (x ∷ xs) h = go (is_job id (facts x)) h (find-none id xs)
  where
    go : (t : Bool) → cond t 0 (suc (place_of id (map facts xs))) ≡ suc (length xs)
        → (place_of id (map facts xs) ≡ length xs → find (is_job id) (map facts xs) ≡ None)
        → cond t (Some (facts x)) (find (is_job id) (map facts xs)) ≡ None
    go true h ih = absurd (omega arith)
    go false h ih = ih (omega arith)

pub remove-is : (id : ℕ) (jobs : List AnyJob) → map facts (remove jobs (place_of id (map facts jobs))) ≡ without id (map facts jobs)
remove-is id [] = refl
remove-is id (x ∷ xs) = go (is_job id (facts x)) (remove-is id xs)
  where
    go : (t : Bool) → map facts (remove xs (place_of id (map facts xs))) ≡ without id (map facts xs)
        → map facts (remove (x ∷ xs) (cond t 0 (suc (place_of id (map facts xs))))) ≡ cond t (map facts xs) (facts x ∷ without id (map facts xs))
    go true ih = refl
    go false ih = ap (λ ys. facts x ∷ ys) ih

-- where there is none of that id, nothing goes
pub without-none : (id : ℕ) (jobs : List AnyJob) → place_of id (map facts jobs) ≡ length jobs → without id (map facts jobs) ≡ map facts jobs
without-none id [] h = refl
without-none id (x ∷ xs) h = go (is_job id (facts x)) h (without-none id xs)
  where
    go : (t : Bool) → cond t 0 (suc (place_of id (map facts xs))) ≡ suc (length xs)
        → (place_of id (map facts xs) ≡ length xs → without id (map facts xs) ≡ map facts xs)
        → cond t (map facts xs) (facts x ∷ without id (map facts xs)) ≡ facts x ∷ map facts xs
    go true h ih = absurd (omega arith)
    go false h ih = ap (λ ys. facts x ∷ ys) (ih (omega arith))

-- what each of them passes each of the others passes
pub all-without : (p : JobFacts → Bool) (id : ℕ) (jobs : List JobFacts) → IsTrue (list_all p jobs) → IsTrue (list_all p (without id jobs))
all-without p id [] all = all
all-without p id (job ∷ jobs) all = go (p job) (is_job id job) refl all (all-without p id jobs)
  where
    go : (t u : Bool) → p job ≡ t → IsTrue (t && list_all p jobs) → (IsTrue (list_all p jobs) → IsTrue (list_all p (without id jobs)))
        → IsTrue (list_all p (cond u jobs (job ∷ without id jobs)))
    go true true is all ih = all
    go true false is all ih = rw is (ih all)
    go false u is all ih = absurd (differ all)
      where
        differ : false ≡ true → ⊥
        differ e = cc

-- and where the others are these
pub all-taken : (p : JobFacts → Bool) (id : ℕ) (jobs rest : List AnyJob) → map facts rest ≡ without id (map facts jobs)
    → IsTrue (list_all p (map facts jobs)) → IsTrue (list_all p (map facts rest))
all-taken p id jobs rest is all = subst (λ (xs : List JobFacts). IsTrue (list_all p xs)) (sym is) (all-without p id (map facts jobs) all)
