-- What is known of a region is its history, and careful events compose.
use Rattle.std.proofs.Common.{◌≡◌, ℕ, Bool, true, false, cond, [], ◌∷◌, ◌++◌, Some, None, refl, sym, ◌∙◌, subst, ⊎_elim, ◌==◌, arith, append_assoc}
use Rattle.std.proofs.lemmas.Bool.Decides.{nat_tests}
use Rattle.s3r_history.specs.Words.{History}
use Rattle.s3r_desk.specs.Events.{found, began, answered, Events, known, Leads}
use Rattle.s3r_desk.specs.Careful.{MayBegin}
use Rattle.s3r_desk.specs.Laws.{WhatIsKnownIsThere, CarefulEventsCompose, FirstEventsAreCareful}

pub same_number : (a b : ℕ) → (a == b) ≡ true → a ≡ b
same_number a b e = grind (arith, nat_tests)

pub other_number : (a b : ℕ) → (a == b) ≡ false → a ≡ b → ⊥
other_number a b e same = grind (arith, nat_tests)

one_history : (g h : History) → Some g ≡ Some h → g ≡ h
one_history g h e = cc

pub known_is : WhatIsKnownIsThere
known_is before [] r h k was leads g e = leads ∙ was g e
known_is before (found s x ∷ events) r h k was leads g e = go (s == r) refl e (known_is before events r h k was leads.0 g)
  where
    go : (t : Bool) → (s == r) ≡ t → cond t (Some x) (known (events ++ before) r) ≡ Some g → (known (events ++ before) r ≡ Some g → k ≡ g) → k ≡ g
    go true is e' ih = leads.1 (same_number s r is) ∙ one_history x g e'
    go false is e' ih = ih e'
known_is before (began s c ∷ events) r h k was leads g e = go (s == r) refl e (λ l. known_is before events r h k was l g) leads
  where
    go : (t : Bool) → (s == r) ≡ t → cond t None (known (events ++ before) r) ≡ Some g
        → (Leads events r h k → known (events ++ before) r ≡ Some g → k ≡ g) → Leads (began s c ∷ events) r h k → k ≡ g
    go true is e' ih l = absurd cc
    go false is e' ih l = ⊎_elim (λ still. ih still e') (λ w. absurd (other_number s r is w.0)) l
known_is before (answered text ∷ events) r h k was leads g e = known_is before events r h k was leads g e

pub careful_then : CarefulEventsCompose
careful_then n before first [] a b = a
careful_then n before first (found r h ∷ second) a b = careful_then n before first second a b
careful_then n before first (began r c ∷ second) a b =
    (λ lt. subst (λ (l : Events). MayBegin n l r c) (sym (append_assoc second first before)) (b.0 lt), careful_then n before first second a b.1)
careful_then n before first (answered text ∷ second) a b = careful_then n before first second a b

pub careful_part : FirstEventsAreCareful
careful_part n before [] earlier all = all
careful_part n before (found r h ∷ later) earlier all = careful_part n before later earlier all
careful_part n before (began r c ∷ later) earlier all = careful_part n before later earlier all.1
careful_part n before (answered text ∷ later) earlier all = careful_part n before later earlier all
