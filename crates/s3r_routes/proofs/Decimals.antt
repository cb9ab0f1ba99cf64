-- Decimal digits that no number up to a limit has.
use Rattle.std.proofs.Common.{◌≡◌, ℕ, ◌^◌, ◌<◌, Bool, true, false, cond, ◌==◌, ◌&&◌, not, nat_le, List, [], ◌∷◌, drop, None, refl, sym, ap, subst, arith}
use Rattle.std.specs.List.{list_all}
use Rattle.std.specs.Char.{digit_value}
use Rattle.std.specs.Str.Parse.{digits_value, AllDigits, IsNumeral, without_leading_plus}
use Rattle.std.proofs.lemmas.Bool.{and_parts}
use Rattle.std.proofs.lemmas.Bool.Decides.{nat_tests}
use Rattle.s3r_names.specs.Bucket.{is_digit}
use Rattle.s3r_routes.specs.Numbers.{is_decimal, is_filled, number_named}

digit-below : (c : ℕ) → is_digit c ≡ true → digit_value c < 10
digit-below c h = grind (arith, nat_tests)

no_plus : (c : ℕ) → is_digit c ≡ true → (c == 43) ≡ false
no_plus c h = grind (arith, nat_tests)

all-digits : (cs : List ℕ) → list_all is_digit cs ≡ true → AllDigits 10 cs
all-digits [] h = tt
all-digits (c ∷ cs) h = let parts = and_parts (is_digit c) (list_all is_digit cs) h in (digit-below c parts.0, all-digits cs parts.1)

-- without a plus in front the text stays as it is
kept : (c : ℕ) (cs : List ℕ) → is_digit c ≡ true → without_leading_plus (c ∷ cs) ≡ c ∷ cs
kept c cs h = ap (λ (b : Bool). drop (cond b 1 0) (c ∷ cs)) (no_plus c h)

numeral : (text : List ℕ) → is_decimal text ≡ true → IsNumeral 10 text × (without_leading_plus text ≡ text)
numeral [] h = absurd (cc h)
numeral (c ∷ cs) h =
    let digits = (and_parts (list_all is_digit (c ∷ cs)) (not (c == 48 && is_filled cs)) h).0 in
    let first = (and_parts (is_digit c) (list_all is_digit cs) digits).0 in
    ((omega arith, all-digits (c ∷ cs) digits), kept c cs first)

above : (most value : ℕ) → most < 2 ^ 32 → (value < 2 ^ 32 → ⊥) → nat_le value most ≡ false
above most value low high = go (nat_le value most) refl
  where
    go : (b : Bool) → nat_le value most ≡ b → b ≡ false
    go false e = refl
    go true e = absurd (high (grind (arith, nat_tests)))

pub none_fits : (most : ℕ) (text : List ℕ) → is_decimal text ≡ true → most < 2 ^ 32
    → (IsNumeral 10 (without_leading_plus text) × (digits_value 10 (without_leading_plus text) < 2 ^ 32) → ⊥) → number_named most text ≡ None
none_fits most text decimal low unfit =
    let is = numeral text decimal in
    let no_value : digits_value 10 text < 2 ^ 32 → ⊥ = λ fits. unfit (subst (λ bs. IsNumeral 10 bs × (digits_value 10 bs < 2 ^ 32)) (sym is.1) (is.0, fits)) in
    rw (decimal, above most (digits_value 10 text) low no_value) refl
