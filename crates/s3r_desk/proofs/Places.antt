-- One element of a list, read and replaced.
use Rattle.std.proofs.Common.{◌≡◌, ◌⊎◌, ℕ, zero, suc, ◌<◌, List, [], ◌∷◌, ◌++◌, length, Option, Some, slice_set, slice_index_or, refl, sym, ◌∙◌, ap, inl, inr, ⊎_elim, arith}
use Rattle.std.specs.Prelude.{slice_get}
use Rattle.std.proofs.lemmas.Bool.{cases_lt}
use Rattle.std.proofs.lemmas.Option.{slice_get-get_or}

pub same_or_other : (q r : ℕ) → (q ≡ r) ⊎ (q ≡ r → ⊥)
same_or_other q r = ⊎_elim
    (λ lt. inr (λ e. absurd (omega (arith, lt, e))))
    (λ ge. ⊎_elim (λ gt. inr (λ e. absurd (omega (arith, gt, e)))) (λ le. inl (omega (arith, ge, le))) (cases_lt r q))
    (cases_lt q r)

pub get_set_same : {X : Type 0} (xs : List X) (r : ℕ) (x : X) → r < length xs → slice_get (slice_set xs r x) r ≡ Some x
get_set_same [] r x lt = absurd (omega (arith, lt))
get_set_same {X} (y ∷ xs) zero x lt = refl
get_set_same {X} (y ∷ xs) (suc r) x lt = get_set_same xs r x (omega (arith, lt))

pub get_set_other : {X : Type 0} (xs : List X) (r q : ℕ) (x : X) → (q ≡ r → ⊥) → slice_get (slice_set xs r x) q ≡ slice_get xs q
get_set_other [] r q x ne = refl
get_set_other {X} (y ∷ xs) zero zero x ne = absurd (ne refl)
get_set_other {X} (y ∷ xs) zero (suc q) x ne = refl
get_set_other {X} (y ∷ xs) (suc r) zero x ne = refl
get_set_other {X} (y ∷ xs) (suc r) (suc q) x ne = get_set_other xs r q x (λ e. ne (ap suc e))

pub get_at : {X : Type 0} (xs : List X) (r : ℕ) (d : X) → r < length xs → d ≡ slice_index_or xs r d → slice_get xs r ≡ Some d
get_at {X} xs r d lt is = slice_get-get_or xs r d lt ∙ ap (λ (x : X). Some x) (sym is)

pub get_there : {X : Type 0} (xs : List X) (r : ℕ) → r < length xs → (x : X) × (slice_get xs r ≡ Some x)
get_there [] r lt = absurd (omega (arith, lt))
get_there {X} (x ∷ xs) zero lt = (x, refl)
get_there {X} (x ∷ xs) (suc r) lt = get_there xs r (omega (arith, lt))

pub one_of : {X : Type 0} (o : Option X) (x y : X) → o ≡ Some x → o ≡ Some y → x ≡ y
one_of o x y a b = let e : Some x ≡ Some y = sym a ∙ b in cc

pub get_pushed : {X : Type 0} (xs : List X) (x : X) (r : ℕ) (y : X) → slice_get (xs ++ x ∷ []) r ≡ Some y → (slice_get xs r ≡ Some y)
    ⊎ ((r ≡ length xs) × (x ≡ y))
get_pushed [] x zero y e = inr (refl, cc)
get_pushed [] x (suc r) y e = absurd cc
get_pushed {X} (z ∷ xs) x zero y e = inl e
get_pushed {X} (z ∷ xs) x (suc r) y e = ⊎_elim (λ at. inl at) (λ (is, same). inr (ap suc is, same)) (get_pushed xs x r y e)
