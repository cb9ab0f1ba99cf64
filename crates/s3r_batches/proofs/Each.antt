-- Lists of jobs each of which is such.
use Rattle.std.proofs.Common.{◌≡◌, ℕ, zero, suc, ◌<◌, nat_lt, Bool, true, false, cond, List, [], ◌∷◌, ◌++◌, map, filter, find, Some, Contains, refl, sym, ◌∙◌, ap, subst, arith}
use Rattle.std.proofs.lemmas.Bool.{and_parts, eqb-true, eq-eqb, ltb-true}
use Rattle.std.proofs.lemmas.Option.{same_Some}
use Rattle.std.specs.List.{list_all}
use Rattle.s3r_jobs.specs.Facts.{JobFacts}
use Rattle.s3r_jobs.specs.Jobs.{is_job}
use Rattle.s3r_history.proofs.JobLists.{are_rising, at_job}

abbrev pub Each : (JobFacts → Type 0) → List JobFacts → Type 0
Each P [] = Unit {0}
Each P (x ∷ xs) = P x × Each P xs

pub each-at : (P : JobFacts → Type 0) (js : List JobFacts) (j : JobFacts) → Each P js → Contains js j → P j
each-at P [] j each (k, below, is) = absurd (omega (arith, below))
each-at P (x ∷ xs) j each (zero, below, is) = subst P is each.0
each-at P (x ∷ xs) j each (suc k, below, is) = each-at P xs j each.1 (k, omega (arith, below), is)

pub each-more : (P Q : JobFacts → Type 0) (js : List JobFacts) → ((j : JobFacts) → P j → Q j) → Each P js → Each Q js
each-more P Q [] more each = tt
each-more P Q (x ∷ xs) more each = (more x each.0, each-more P Q xs more each.1)

pub each-snoc : (P : JobFacts → Type 0) (js : List JobFacts) (j : JobFacts) → Each P js → P j → Each P (js ++ j ∷ [])
each-snoc P [] j each last = (last, tt)
each-snoc P (x ∷ xs) j each last = (each.0, each-snoc P xs j each.1 last)

-- what is found is such, and passes
pub each-found : (P : JobFacts → Type 0) (test : JobFacts → Bool) (js : List JobFacts) (j : JobFacts) → Each P js → find test js ≡ Some j
    → P j × (test j ≡ true)
each-found P test [] j each found = absurd cc
each-found P test (x ∷ xs) j each found = go (test x) refl found (each-found P test xs j each.1)
  where
    go : (t : Bool) → test x ≡ t → cond t (Some x) (find test xs) ≡ Some j → (find test xs ≡ Some j → P j × (test j ≡ true)) → P j × (test j ≡ true)
    go true is e behind = let same = same_Some x j e in (subst P same each.0, ap test (sym same) ∙ is)
    go false is e behind = behind e

pub each-filter : (P : JobFacts → Type 0) (p : JobFacts → Bool) (js : List JobFacts) → Each P js → Each P (filter p js)
each-filter P p [] each = tt
each-filter P p (x ∷ xs) each = go (p x) (each-filter P p xs each.1)
  where
    go : (t : Bool) → Each P (filter p xs) → Each P (cond t (x ∷ filter p xs) (filter p xs))
    go true behind = (each.0, behind)
    go false behind = behind

-- ---- one of them is changed

abbrev IsOther : ℕ → JobFacts → Type 0
IsOther id j = j.id ≡ id → ⊥

all_above : (id k : ℕ) (js : List JobFacts) → k ≡ id → list_all (λ (other : JobFacts). nat_lt k other.id) js ≡ true → Each (IsOther id) js
all_above id k [] same all = tt
all_above id k (x ∷ xs) same all =
    let parts = and_parts (nat_lt k x.id) (list_all (λ (other : JobFacts). nat_lt k other.id) xs) all in
    let over : k < x.id = ltb-true k x.id parts.0 in
    ((λ is. omega (arith, is, over, same)), all_above id k xs same parts.1)

each-left : (P Q : JobFacts → Type 0) (id : ℕ) (f : JobFacts → JobFacts) (js : List JobFacts) → Each P js → Each (IsOther id) js
    → ((j : JobFacts) → P j → IsOther id j → Q j) → Each Q (map (at_job id f) js)
each-left P Q id f [] each other left = tt
each-left P Q id f (x ∷ xs) each other left = (go (is_job id x) refl, each-left P Q id f xs each.1 other.1 left)
  where
    go : (t : Bool) → is_job id x ≡ t → Q (cond t (f x) x)
    go true is = absurd (other.0 (eqb-true x.id id is))
    go false is = left x each.0 other.0

-- the job of an id is changed, and each other one is left
pub each-changed : (P Q : JobFacts → Type 0) (id : ℕ) (f : JobFacts → JobFacts) (js : List JobFacts) → are_rising js ≡ true → Each P js
    → ((j : JobFacts) → P j → (j.id ≡ id → ⊥) → Q j) → ((j : JobFacts) → find (is_job id) js ≡ Some j → P j → Q (f j)) → Each Q (map (at_job id f) js)
each-changed P Q id f [] rising each left one = tt
each-changed P Q id f (x ∷ xs) rising each left one =
    go (is_job id x) refl (λ one. each-changed P Q id f xs parts.1 each.1 left one)
  where
    parts : (list_all (λ (other : JobFacts). nat_lt x.id other.id) xs ≡ true) × (are_rising xs ≡ true)
    parts = and_parts (list_all (λ (other : JobFacts). nat_lt x.id other.id) xs) (are_rising xs) rising

    go : (t : Bool) → is_job id x ≡ t
        → (((j : JobFacts) → find (is_job id) xs ≡ Some j → P j → Q (f j)) → Each Q (map (at_job id f) xs))
        → Q (cond t (f x) x) × Each Q (map (at_job id f) xs)
    go true is behind = (
      one x (rw is refl) each.0,
      each-left P Q id f xs each.1 (all_above id x.id xs (eqb-true x.id id is) parts.0) left,
    )
    go false is behind = (
      left x each.0 (λ e. let same : is_job id x ≡ true = eq-eqb x.id id e in let no : false ≡ true = sym is ∙ same in cc),
      behind (λ j found. one j (rw is found)),
    )
