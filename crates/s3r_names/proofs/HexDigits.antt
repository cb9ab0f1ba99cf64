-- Numbers as hexadecimal digits, and back.
use Rattle.std.proofs.Common.{◌≡◌, ℕ, zero, suc, ◌+◌, ◌-◌, ◌*◌, ◌/◌, ◌%◌, ◌^◌, ◌<◌, ◌≤◌, List, [], ◌∷◌, ◌++◌, length, get_or, take, drop, Option, Some, None, refl, sym, ap, subst, ◌∙◌, arith, append_assoc, length-append, drop-cons}
use Rattle.std.specs.Prelude.{option_and_then}
use Rattle.std.proofs.Math.Nat.{pow-suc}
use Rattle.std.proofs.Math.Seq.{take-suc}
use Rattle.std.proofs.Math.ListN.{set}
use Rattle.std.proofs.lemmas.List.{append-nil, drop-set, length-drop, nil_from_length}
use Rattle.std.proofs.lemmas.Bool.Decides.{nat_tests}
use Rattle.s3r_names.specs.Version.{hex_digit, hex_value, hex_digits}

pub length-hex_digits : (count n : ℕ) → length (hex_digits count n) ≡ count
unfolding hex_digits
length-hex_digits zero n = refl
length-hex_digits (suc count) n = omega (arith, length-append (hex_digits count (n / 16)) (hex_digit (n % 16) ∷ []), length-hex_digits count (n / 16))

-- one digit more, at the end
pub hex_digits-more : (count n value : ℕ) → value < 16 → hex_digits (suc count) (n * 16 + value) ≡ hex_digits count n ++ hex_digit value ∷ []
unfolding hex_digits
hex_digits-more count n value lt =
    let high : (n * 16 + value) / 16 ≡ n = omega arith in
    let low : (n * 16 + value) % 16 ≡ value = omega arith in
    rw (high, low) refl

-- what the digits spell behind a number that others spelled
abbrev pub hex_from : ℕ → List ℕ → Option ℕ
hex_from n [] = Some n
hex_from n (byte ∷ bytes) = option_and_then (λ value. hex_from (n * 16 + value) bytes) (hex_value byte)

hex_value-digit : (value : ℕ) → value < 16 → hex_value (hex_digit value) ≡ Some value
hex_value-digit value lt = grind (arith, nat_tests)

-- 16 times the number before the last digit, and that digit
shifted : (n p power m : ℕ) → power ≡ p * 16 → (n * p + m / 16) * 16 + m % 16 ≡ n * power + m
shifted n p power m e = rw e (omega arith)

fewer : (p power m : ℕ) → power ≡ p * 16 → m < power → m / 16 < p
fewer p power m e lt = omega arith

-- the digits of a number spell it
pub hex_from-digits : (count n m : ℕ) (rest : List ℕ) → m < 16 ^ count → hex_from n (hex_digits count m ++ rest) ≡ hex_from (n * 16 ^ count + m) rest
unfolding hex_digits
hex_from-digits zero n m rest lt = let same : n ≡ n * 16 ^ 0 + m = omega arith in ap (λ (k : ℕ). hex_from k rest) same
hex_from-digits (suc count) n m rest lt =
    let digit : m % 16 < 16 = omega arith in
    ap (hex_from n) (append_assoc (hex_digits count (m / 16)) (hex_digit (m % 16) ∷ []) rest)
    ∙ hex_from-digits count n (m / 16) (hex_digit (m % 16) ∷ rest) (fewer (16 ^ count) (16 ^ suc count) m (pow-suc 16 count) lt)
    ∙ ap (option_and_then (λ value. hex_from ((n * 16 ^ count + m / 16) * 16 + value) rest)) (hex_value-digit (m % 16) digit)
    ∙ ap (λ (k : ℕ). hex_from k rest) (shifted n (16 ^ count) (16 ^ suc count) m (pow-suc 16 count))

-- the digit that a byte is
pub digit_of_value : (byte value : ℕ) → hex_value byte ≡ Some value → (value < 16) × (hex_digit value ≡ byte)
digit_of_value byte value e = grind (arith, nat_tests)

power-more : (i k : ℕ) → 16 ^ i ≤ 16 ^ (i + k)
power-more i zero = let same : i + 0 ≡ i = omega arith in rw same (omega arith)
power-more i (suc k) = let more : i + suc k ≡ suc (i + k) = omega arith in rw (more, pow-suc 16 (i + k)) (omega (arith, power-more i k))

-- one digit more fits, where there are fewer than sixteen
pub fits_more : (i number : ℕ) → i < 16 → number < 16 ^ i → number * 16 + 15 < 2 ^ 64
fits_more i number lt below =
    let top : i + (15 - i) ≡ 15 = omega arith in
    let power : 16 ^ i ≤ 16 ^ 15 = subst (λ (k : ℕ). 16 ^ i ≤ 16 ^ k) top (power-more i (15 - i)) in
    omega arith

-- bytes are their first two and the others
pub two_and_others : (bytes others : List ℕ) (first second : ℕ) → 2 ≤ length bytes → get_or bytes 0 0 ≡ first → get_or bytes 1 0 ≡ second
    → drop 2 bytes ≡ others → bytes ≡ first ∷ second ∷ others
two_and_others [] others first second h a b c = absurd (omega arith)
two_and_others (x ∷ []) others first second h a b c = absurd (omega arith)
two_and_others (x ∷ y ∷ bytes) others first second h a b c = let rest : bytes ≡ others = c in cc

-- ---- one byte more of a text that is read from its front

pub byte_read : (bytes : List ℕ) (i number value : ℕ) → i < length bytes → Some value ≡ hex_value (get_or bytes i 0)
    → hex_from number (drop i bytes) ≡ hex_from (number * 16 + value) (drop (i + 1) bytes)
byte_read bytes i number value lt e =
    let one : i + 1 ≡ suc i = omega arith in
    rw one (ap (hex_from number) (drop-cons bytes i 0 lt) ∙ ap (option_and_then (λ value. hex_from (number * 16 + value) (drop (suc i) bytes))) (sym e))

pub byte_refused : (bytes : List ℕ) (i number : ℕ) → i < length bytes → None ≡ hex_value (get_or bytes i 0) → hex_from number (drop i bytes) ≡ None
byte_refused bytes i number lt e =
    ap (hex_from number) (drop-cons bytes i 0 lt) ∙ ap (option_and_then (λ value. hex_from (number * 16 + value) (drop (suc i) bytes))) (sym e)

pub byte_spelled : (bytes : List ℕ) (i number value : ℕ) → i < length bytes → Some value ≡ hex_value (get_or bytes i 0) → take i bytes ≡ hex_digits i number
    → take (i + 1) bytes ≡ hex_digits (i + 1) (number * 16 + value)
byte_spelled bytes i number value lt e spelled =
    let one : i + 1 ≡ suc i = omega arith in
    let digit = digit_of_value (get_or bytes i 0) value (sym e) in
    rw one (take-suc bytes i 0 lt ∙ ap (λ front. front ++ get_or bytes i 0 ∷ []) spelled ∙ ap (λ byte. hex_digits i number ++ byte ∷ []) (sym digit.1)
    ∙ sym (hex_digits-more i number value digit.0))

pub byte_below : (bytes : List ℕ) (i number value : ℕ) → Some value ≡ hex_value (get_or bytes i 0) → number < 16 ^ i → number * 16 + value < 16 ^ (i + 1)
byte_below bytes i number value e below =
    let one : i + 1 ≡ suc i = omega arith in
    let digit = digit_of_value (get_or bytes i 0) value (sym e) in
    rw (one, pow-suc 16 i) (omega (arith, digit.0, below))

-- sixteen digits of a number are read as that number
pub read_whole : (digits : List ℕ) (n : ℕ) → n < 2 ^ 64 → digits ≡ hex_digits 16 n → hex_from 0 digits ≡ Some n
read_whole digits n lt e =
    let same : 0 + n ≡ n = omega arith in
    ap (hex_from 0) (e ∙ sym (append-nil (hex_digits 16 n))) ∙ hex_from-digits 16 0 n [] lt ∙ ap (λ (k : ℕ). hex_from k []) same

-- ---- one digit more, written before those that stand at the end of eighteen bytes

pub digit_written : (bytes : List ℕ) (done left byte : ℕ) → done < 16 → length bytes ≡ 18 → byte ≡ hex_digit (left % 16)
    → hex_digits (16 - (done + 1)) (left / 16) ++ drop (18 - (done + 1)) (set bytes (17 - done) byte) ≡ hex_digits (16 - done) left ++ drop (18 - done) bytes
unfolding hex_digits
digit_written bytes done left byte lt len e =
    let more : 16 - done ≡ suc (16 - (done + 1)) = omega arith in
    let place : 18 - (done + 1) ≡ 17 - done = omega arith in
    let behind : 18 - done ≡ 17 - done + 1 = omega arith in
    let inside : 17 - done < length bytes = omega arith in
    rw (more, place, behind, drop-set bytes (17 - done) byte inside, e)
    (sym (append_assoc (hex_digits (16 - (done + 1)) (left / 16)) (hex_digit (left % 16) ∷ []) (drop (17 - done + 1) bytes)))

pub digits_written : (bytes : List ℕ) (done left : ℕ) (digits : List ℕ) → 16 ≤ done → done ≤ 16
    → hex_digits (16 - done) left ++ drop (18 - done) bytes ≡ digits → drop 2 bytes ≡ digits
unfolding hex_digits
digits_written bytes done left digits low high e =
    let whole : done ≡ 16 = omega arith in
    rw whole at e

-- the number is whole once the bytes are read
pub all_read : (bytes : List ℕ) (i number : ℕ) → length bytes ≤ i → hex_from number (drop i bytes) ≡ Some number
all_read bytes i number past = ap (hex_from number) (nil_from_length (drop i bytes) (omega (arith, length-drop i bytes)))
