-- Numbers that digits spell. Those that spell one number differ in zeros in front alone.
use Rattle.std.proofs.Common.{◌≡◌, ℕ, ◌+◌, ◌-◌, ◌*◌, ◌/◌, ◌^◌, ◌<◌, ◌≤◌, true, List, [], ◌∷◌, ◌++◌, length, refl, inl, inr, sym, ◌∙◌, ap, subst, arith}
use Rattle.std.specs.Bool.{⊤}
use Rattle.std.specs.Prelude.{fold, ◌==◌}
use Rattle.std.specs.List.{list_all}
use Rattle.std.specs.Str.{bytes_eq}
use Rattle.std.proofs.lemmas.Bool.{cases_Bool, cases_order, and_parts, leb-true, eqb-true, eqb-false, cond-true, cond-false}
use Rattle.std.proofs.lemmas.Bool.Decides.{same_from_decides, Decides-like, Decides-eqb}
use Rattle.std.proofs.lemmas.Slice.Eq.{bytes_eq-Decides}
use Rattle.std.proofs.lemmas.Nat.{mul-add-lt, div-mul-add}
use Rattle.std.proofs.Math.Nat.{pow-suc, pow-le-pow_right, mul-le-mul_right}
use Rattle.s3r_http.specs.Lines.{is_digit, is_number, number_of}
use Rattle.s3r_http.specs.Lengths.{significant}

abbrev digit_more : ℕ → ℕ → ℕ
digit_more n digit = n * 10 + (digit - 48)

grows_from : (n : ℕ) (digits : List ℕ) → n ≤ fold digit_more n digits
grows_from n [] = omega arith
grows_from n (digit ∷ digits) = omega (arith, grows_from (n * 10 + (digit - 48)) digits)

fold-append : (n : ℕ) (xs ys : List ℕ) → fold digit_more n (xs ++ ys) ≡ fold digit_more (fold digit_more n xs) ys
fold-append n [] ys = refl
fold-append n (x ∷ xs) ys = fold-append (digit_more n x) xs ys

-- a number doesn't fall with digits behind it
pub number_grows : (xs ys : List ℕ) → number_of xs ≤ number_of (xs ++ ys)
number_grows xs ys = omega (arith, fold-append 0 xs ys, grows_from (number_of xs) ys)

abbrev AreDigits : List ℕ → Type 0
AreDigits digits = list_all is_digit digits ≡ true

digit_range : (d : ℕ) → is_digit d ≡ true → (48 ≤ d) × (d ≤ 57)
digit_range d is = let p = and_parts _ _ is in (leb-true 48 d p.0, leb-true d 57 p.1)

grows : (m n : ℕ) → m ≤ n → 10 ^ m ≤ 10 ^ n
grows m n le = let pos : 0 < 10 = omega arith in pow-le-pow_right pos le

step : (n v w s : ℕ) → (n * 10 + v) * w + s ≡ n * (w * 10) + ((0 * 10 + v) * w + s)
step n v w s = omega arith

-- what digits add to the tens in front
place : (n : ℕ) (ds : List ℕ) → fold digit_more n ds ≡ n * 10 ^ length ds + number_of ds
place n [] = omega arith
place n (d ∷ ds) =
    place (digit_more n d) ds ∙ step n (d - 48) (10 ^ length ds) (number_of ds)
    ∙ (λ i. n * sym (pow-suc 10 (length ds)) i + sym (place (digit_more 0 d) ds) i)

first : (d : ℕ) (ds : List ℕ) → number_of (d ∷ ds) ≡ (d - 48) * 10 ^ length ds + number_of ds
first d ds = place (0 * 10 + (d - 48)) ds ∙ ap (λ n. n * 10 ^ length ds + number_of ds) (omega arith)

below : (ds : List ℕ) → AreDigits ds → number_of ds < 10 ^ length ds
below [] all = omega arith
below (d ∷ ds) all =
    let p = and_parts (is_digit d) (list_all is_digit ds) all in
    let range = digit_range d p.0 in
    omega (arith, first d ds, mul-add-lt (d - 48) (10 ^ length ds) (number_of ds) 10 (omega (arith, range.1)) (below ds p.1), pow-suc 10 (length ds))

above : (d : ℕ) (ds : List ℕ) → 48 < d → 10 ^ length ds ≤ number_of (d ∷ ds)
above d ds more =
    let least : 1 * 10 ^ length ds ≤ (d - 48) * 10 ^ length ds = mul-le-mul_right (10 ^ length ds) (omega (arith, more)) in
    omega (arith, first d ds, least)

-- digits of one number, as many, are the same
same_digits : (xs ys : List ℕ) → length xs ≡ length ys → AreDigits xs → AreDigits ys → number_of xs ≡ number_of ys → xs ≡ ys
same_digits [] [] size a b same = refl
same_digits [] (y ∷ ys) size a b same = absurd (omega (arith, size))
same_digits (x ∷ xs) [] size a b same = absurd (omega (arith, size))
same_digits (x ∷ xs) (y ∷ ys) size a b same =
    let p = and_parts (is_digit x) (list_all is_digit xs) a in
    let q = and_parts (is_digit y) (list_all is_digit ys) b in
    let few : length xs ≡ length ys = omega (arith, size) in
    let w = 10 ^ length xs in
    let less : number_of ys < w = subst (λ k. number_of ys < 10 ^ k) (sym few) (below ys q.1) in
    let all : (x - 48) * w + number_of xs ≡ (y - 48) * w + number_of ys =
    sym (first x xs) ∙ same ∙ first y ys ∙ ap (λ k. (y - 48) * 10 ^ k + number_of ys) (sym few) in
    let front : x - 48 ≡ y - 48 = sym (div-mul-add (x - 48) w (number_of xs) (below xs p.1)) ∙ ap (λ n. n / w) all
    ∙ div-mul-add (y - 48) w (number_of ys) less in
    let here : x ≡ y = omega (arith, front, digit_range x p.0, digit_range y q.0) in
    let there = same_digits xs ys few p.1 q.1 (omega (arith, all, ap (λ n. n * w) front)) in
    λ i. here i ∷ there i

-- without a zero in front
IsReduced : List ℕ → Type 0
IsReduced [] = ⊤
IsReduced (d ∷ ds) = d ≡ 48 → ⊥

fewer : (xs ys : List ℕ) → IsReduced ys → AreDigits xs → AreDigits ys → length xs < length ys → number_of xs < number_of ys
unfolding IsReduced
fewer xs [] reduced a b lt = absurd (omega (arith, lt))
fewer xs (y ∷ ys) reduced a b lt =
    let range = digit_range y (and_parts (is_digit y) (list_all is_digit ys) b).0 in
    omega (arith, below xs a, grows (length xs) (length ys) (omega (arith, lt)), above y ys (omega (arith, range.0, reduced)))

same_reduced : (xs ys : List ℕ) → IsReduced xs → IsReduced ys → AreDigits xs → AreDigits ys → number_of xs ≡ number_of ys → xs ≡ ys
same_reduced xs ys r s a b same = elim (cases_order (length xs) (length ys)) [
  | inl size ↦ same_digits xs ys size a b same
  | inr other ↦ elim other [
    | inl lt ↦ absurd (omega (arith, fewer xs ys s a b lt, same))
    | inr gt ↦ absurd (omega (arith, fewer ys xs r b a gt, same))
  ]
]

record Reduces (ds out : List ℕ) : Type 0 where
  number : number_of out ≡ number_of ds
  reduced : IsReduced out
  digits : AreDigits ds → AreDigits out

reduces : (ds : List ℕ) → Reduces ds (significant ds)
unfolding IsReduced
reduces [] = record { number = refl; reduced = tt; digits = λ all. all }
reduces (d ∷ ds) = elim (cases_Bool (d == 48)) [
  | inl zero ↦
      let rest = reduces ds in
      let e : significant (d ∷ ds) ≡ significant ds = cond-true (d == 48) (significant ds) (d ∷ ds) zero in
      let none : 0 * 10 + (d - 48) ≡ 0 = omega (arith, eqb-true d 48 zero) in
      subst (Reduces (d ∷ ds)) (sym e)
      (record {
        number = rest.number ∙ ap (λ n. fold digit_more n ds) (sym none);
        reduced = rest.reduced;
        digits = λ all. rest.digits (and_parts (is_digit d) (list_all is_digit ds) all).1;
      })
  | inr some ↦
      subst (Reduces (d ∷ ds)) (sym (cond-false (d == 48) (significant ds) (d ∷ ds) some))
      (record { number = refl; reduced = eqb-false d 48 some; digits = λ all. all })
]

are_digits : (ds : List ℕ) → is_number ds ≡ true → AreDigits ds
are_digits [] is = refl
are_digits (d ∷ ds) is = is

-- two numbers are one where they differ in zeros in front alone
pub number_of-significant : (xs ys : List ℕ) → is_number xs ≡ true → is_number ys ≡ true
    → bytes_eq (significant xs) (significant ys) ≡ (number_of xs == number_of ys)
number_of-significant xs ys a b =
    let x = reduces xs in
    let y = reduces ys in
    same_from_decides _ _
    (Decides-like (bytes_eq (significant xs) (significant ys))
    (λ same. sym x.number ∙ ap number_of same ∙ y.number)
    (λ same. same_reduced _ _ x.reduced y.reduced (x.digits (are_digits xs a)) (y.digits (are_digits ys b)) (x.number ∙ same ∙ sym y.number))
    (bytes_eq-Decides (significant xs) (significant ys)))
    (Decides-eqb (number_of xs) (number_of ys))
