-- Numbers of a query.
use Rattle.std.specs.Prelude.{ℕ, Bool, true, false, ◌==◌, ◌&&◌, not, nat_le, if◌then◌else◌, List, [], ◌∷◌, Option, Some, None}
use Rattle.std.specs.List.{list_all}
use Rattle.std.specs.Str.Parse.{digits_value}
use Rattle.s3r_names.specs.Bucket.{is_digit}

abbrev pub is_filled : List ℕ → Bool
is_filled [] = false
is_filled (byte ∷ bytes) = true

-- decimal digits, without a sign or a leading zero
abbrev pub is_decimal : List ℕ → Bool
is_decimal [] = false
is_decimal (first ∷ rest) = list_all is_digit (first ∷ rest) && not (first == 48 && is_filled rest)

-- the number that the text spells, if it is one up to `most`
abbrev pub number_named : ℕ → List ℕ → Option ℕ
number_named most text = if is_decimal text && nat_le (digits_value 10 text) most then Some (digits_value 10 text) else None
