-- Where a path is cut at its first slash.
use Rattle.std.proofs.Common.{◌≡◌, ℕ, suc, ◌+◌, ◌==◌, Bool, true, false, cond, List, [], ◌∷◌, ◌++◌, length}
use Rattle.std.proofs.Common.{Option, Some, None, refl, sym, ap, ◌∙◌, subst, arith}
use Rattle.std.specs.Prelude.{nat_lt}
use Rattle.std.specs.List.{position_or_len}
use Rattle.std.proofs.lemmas.Bool.{eqb-true, lt-ltb}
use Rattle.std.proofs.lemmas.Bool.Decides.{nat_tests}
use Rattle.matchit.specs.Level.{IsText}
use Rattle.matchit.specs.Seek.{segment, has_slash}
use Rattle.s3r_routes.specs.Target.{cut, cut_at}

pub cut_here : (b : ℕ) (p : List ℕ) → (b == 47) ≡ true → cut 47 (b ∷ p) ≡ ([], Some p)
cut_here b p e =
    let some : nat_lt 0 (suc (length p)) ≡ true = lt-ltb 0 (suc (length p)) (omega arith) in
    rw (e, some) refl

shifted : (n : ℕ) (b : ℕ) (p : List ℕ) (v : Bool) → cut_at (cond v (Some (suc n)) None) (b ∷ p)
    ≡ (b ∷ (cut_at (cond v (Some n) None) p).0, (cut_at (cond v (Some n) None) p).1)
shifted n b p true =
    let two : suc n + 1 ≡ suc (suc n) = omega arith in
    let one : n + 1 ≡ suc n = omega arith in
    rw (two, one) refl
shifted n b p false = refl

abbrev first_slash : List ℕ → ℕ
first_slash p = position_or_len (λ c. c == 47) p

-- where the first byte is no slash it stands in front of what is cut off behind it
pub cut_later : (b : ℕ) (p : List ℕ) → (b == 47) ≡ false → cut 47 (b ∷ p) ≡ (b ∷ (cut 47 p).0, (cut 47 p).1)
cut_later b p e =
    let next : 1 + first_slash p ≡ suc (first_slash p) = omega arith in
    let place : first_slash (b ∷ p) ≡ suc (first_slash p) = rw e next in
    let less : nat_lt (suc (first_slash p)) (suc (length p)) ≡ nat_lt (first_slash p) (length p) = grind (arith, nat_tests) in
    ap (λ (m : ℕ). cut_at (cond (nat_lt m (suc (length p))) (Some m) None) (b ∷ p)) place
    ∙ ap (λ (v : Bool). cut_at (cond v (Some (suc (first_slash p))) None) (b ∷ p)) less
    ∙ shifted (first_slash p) b p (nat_lt (first_slash p) (length p))

-- what stands before the first slash and behind it, in the words of the router
abbrev pub PartsAre : List ℕ → List ℕ → Option (List ℕ) → Type 0
PartsAre p name None = (p ≡ name) × (segment p ≡ name) × (has_slash p ≡ false)
PartsAre p name (Some rest) = (p ≡ name ++ 47 ∷ rest) × (segment p ≡ name ++ 47 ∷ []) × (has_slash p ≡ true)

parts_here : (b : ℕ) (p : List ℕ) → (b == 47) ≡ true → PartsAre (b ∷ p) [] (Some p)
parts_here b p e =
    let same : b ≡ 47 = eqb-true b 47 e in
    (ap (λ x. x ∷ p) same, rw e (ap (λ x. x ∷ []) same), rw e refl)

parts_later : (b : ℕ) (p name : List ℕ) (rest : Option (List ℕ)) → (b == 47) ≡ false → PartsAre p name rest → PartsAre (b ∷ p) (b ∷ name) rest
parts_later b p name None e (same, seg, has) = (ap (λ x. b ∷ x) same, rw e (ap (λ x. b ∷ x) seg), rw e has)
parts_later b p name (Some rest) e (same, seg, has) = (ap (λ x. b ∷ x) same, rw e (ap (λ x. b ∷ x) seg), rw e has)

pub parts : (p : List ℕ) → PartsAre p (cut 47 p).0 (cut 47 p).1
parts [] = (refl, refl, refl)
parts (b ∷ p) = by (b == 47) refl (parts p)
  where
    by : (v : Bool) → (b == 47) ≡ v → PartsAre p (cut 47 p).0 (cut 47 p).1 → PartsAre (b ∷ p) (cut 47 (b ∷ p)).0 (cut 47 (b ∷ p)).1
    by true e more = subst (λ (c : List ℕ × Option (List ℕ)). PartsAre (b ∷ p) c.0 c.1) (sym (cut_here b p e)) (parts_here b p e)
    by false e more =
        subst (λ (c : List ℕ × Option (List ℕ)). PartsAre (b ∷ p) c.0 c.1) (sym (cut_later b p e)) (parts_later b p (cut 47 p).0 (cut 47 p).1 e more)

text_behind : (front back : List ℕ) → IsText (front ++ back) → IsText back
text_behind [] back h = h
text_behind (b ∷ front) back h = text_behind front back h.1

-- what stands behind a slash is of bytes
abbrev pub TextIn : Option (List ℕ) → Type 0
TextIn None = Unit {0}
TextIn (Some rest) = IsText rest

pub text_in : (p name : List ℕ) (rest : Option (List ℕ)) → PartsAre p name rest → IsText p → TextIn rest
text_in p name None are text = tt
text_in p name (Some rest) (same, seg, has) text =
    let whole : IsText (name ++ 47 ∷ rest) = subst (λ (l : List ℕ). IsText l) same text in
    (text_behind name (47 ∷ rest) whole).1
