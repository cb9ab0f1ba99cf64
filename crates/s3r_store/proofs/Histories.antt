-- Histories and the spellings of their commands.
use Rattle.std.proofs.Common.{◌≡◌, ◌⊎◌, ℕ, List, [], ◌∷◌, ◌++◌, length, None, refl, inl, inr, ⊎_elim, sym, ◌∙◌, ap, subst, arith, append_assoc, length-append}
use Rattle.std.proofs.lemmas.List.{append-nil}
use Rattle.s3r_record.specs.declared.command.Command.{Command}
use Rattle.s3r_record.specs.Spelling.{spelling, IsCommand}
use Rattle.s3r_record.proofs.CommandLaws.{one}
use Rattle.s3r_history.specs.Words.{History}
use Rattle.s3r_history.specs.Accepts.{refusal, IsLawful}
use Rattle.s3r_journal.proofs.Fronts.{one_history}
use Rattle.s3r_store.specs.Stands.{spelled}
use Rattle.s3r_store.specs.Laws.{OneLawfulHistory}

-- numbers that are the same
pub accepted_as : (m n q r : ℕ) (h : History) (c : Command) → m ≡ n → q ≡ r → refusal m q h c ≡ None → refusal n r h c ≡ None
accepted_as m n q r h c regions region accepted = subst (λ (k : ℕ). refusal k r h c ≡ None) regions (subst (λ (k : ℕ). refusal m k h c ≡ None) region accepted)

-- the last of each of two lists that are one
pub snoc_inj : {A : Type 0} (xs ys : List A) (x y : A) → xs ++ x ∷ [] ≡ ys ++ y ∷ [] → (xs ≡ ys) × (x ≡ y)
snoc_inj [] [] x y e = (refl, cc)
snoc_inj {A} [] (w ∷ ys) x y e = absurd (omega (arith, ap length e, length-append ys (y ∷ [])))
snoc_inj {A} (z ∷ xs) [] x y e = absurd (omega (arith, ap length e, length-append xs (x ∷ [])))
snoc_inj {A} (z ∷ xs) (w ∷ ys) x y e =
    let tails : xs ++ x ∷ [] ≡ ys ++ y ∷ [] = cc in
    let heads : z ≡ w = cc in
    let rest = snoc_inj xs ys x y tails in
    ((λ i. heads i ∷ rest.0 i), rest.1)

-- a list is empty or has a last
pub last_of : {A : Type 0} (xs : List A) → (xs ≡ []) ⊎ ((ys : List A) × (y : A) × (xs ≡ ys ++ y ∷ []))
last_of [] = inl refl
last_of {A} (x ∷ xs) = ⊎_elim
    (λ none. inr ([], x, ap (λ (l : List A). x ∷ l) none))
    (λ some. inr (x ∷ some.0, some.1, ap (λ (l : List A). x ∷ l) some.2))
    (last_of xs)

-- one history has these spellings
pub spelled_one : (n r : ℕ) (h k : History) → IsLawful n r h → IsLawful n r k → spelled h ≡ spelled k → h ≡ k
spelled_one n r [] [] a b e = refl
spelled_one n r [] (c ∷ k) a b e = absurd (omega (arith, ap length e, length-append (spelled k) (spelling c ∷ [])))
spelled_one n r (c ∷ h) [] a b e = absurd (omega (arith, ap length e, length-append (spelled h) (spelling c ∷ [])))
spelled_one n r (c ∷ h) (d ∷ k) a b e =
    let parts = snoc_inj (spelled h) (spelled k) (spelling c) (spelling d) e in
    let front : h ≡ k = spelled_one n r h k a.2 b.2 parts.0 in
    let last : c ≡ d = one c d a.0 b.0 parts.1 in
    λ i. last i ∷ front i

-- behind a history that begins another comes a command that it accepts
pub next_command : (n r : ℕ) (k h : History) (s : List ℕ) (ss : List (List ℕ)) → IsLawful n r k → IsLawful n r h → spelled k ≡ (spelled h ++ s ∷ []) ++ ss
    → (c : Command) × IsCommand c × (refusal n r h c ≡ None) × (s ≡ spelling c)
next_command n r [] h s ss a b e = absurd (omega (arith, ap length e, length-append (spelled h ++ s ∷ []) ss, length-append (spelled h) (s ∷ [])))
next_command n r (c ∷ k) h s ss a b e = ⊎_elim
    (λ none.
    let same : spelled k ++ spelling c ∷ [] ≡ spelled h ++ s ∷ [] = e ∙ ap (λ (l : List (List ℕ)). (spelled h ++ s ∷ []) ++ l) none
    ∙ append-nil (spelled h ++ s ∷ []) in
    let parts = snoc_inj (spelled k) (spelled h) (spelling c) s same in
    let front : k ≡ h = spelled_one n r k h a.2 b parts.0 in
    (c, a.0, subst (λ (l : History). refusal n r l c ≡ None) front a.1, sym parts.1))
    (λ some.
    let same : spelled k ++ spelling c ∷ [] ≡ ((spelled h ++ s ∷ []) ++ some.0) ++ some.1 ∷ [] =
    e ∙ ap (λ (l : List (List ℕ)). (spelled h ++ s ∷ []) ++ l) some.2 ∙ sym (append_assoc (spelled h ++ s ∷ []) some.0 (some.1 ∷ [])) in
    next_command n r k h s some.0 a.2 b (snoc_inj (spelled k) ((spelled h ++ s ∷ []) ++ some.0) (spelling c) some.1 same).0)
    (last_of ss)

pub one_lawful_history : OneLawfulHistory
one_lawful_history n region bytes h k first second = spelled_one n region h k first.lawful second.lawful
    (one_history region bytes (spelled h) (spelled k) first.stands second.stands)
