-- What is known of the bytes of a key.
use Rattle.std.proofs.Common.{◌≡◌, ℕ, ◌<◌, ◌≤◌, Bool, true, false, nat_eq, nat_le, ◌&&◌, List, length, Result, Ok, Err, refl, sym, arith}
use Rattle.std.specs.Prelude.{MatchResult, is_ok}
use Rattle.std.specs.Str.{IsUtf8, is_utf8}
use Rattle.std.proofs.lemmas.Bool.{and_parts, and_from, and_right}
use Rattle.std.proofs.lemmas.Bool.Decides.{nat_tests}
use Rattle.std.proofs.lemmas.Str.{IsUtf8-from_is_utf8, is_utf8-from_IsUtf8}
use Rattle.s3r_names.specs.Key.{is_key}

length_fits : (n : ℕ) → (nat_le 1 n && nat_le n 1024) ≡ true → n ≤ 1024
length_fits n h = grind (arith, nat_tests)

length_passes : (n : ℕ) → 0 < n → n ≤ 1024 → (nat_le 1 n && nat_le n 1024) ≡ true
length_passes n above below = grind (arith, nat_tests)

-- what a reader of keys uses of the rule
pub record IsShortText (bytes : List ℕ) : Type 0 where
  pub short : length bytes ≤ 1024
  pub utf8 : IsUtf8 bytes

pub key_is : (bytes : List ℕ) → is_key bytes ≡ true → IsShortText bytes
key_is bytes h =
    let a = and_parts (nat_le 1 (length bytes) && nat_le (length bytes) 1024) (is_utf8 bytes) h in
    record { short = length_fits (length bytes) a.0; utf8 = IsUtf8-from_is_utf8 bytes a.1 }

pub key_from_text : (bytes : List ℕ) → 0 < length bytes → length bytes ≤ 1024 → IsUtf8 bytes → is_key bytes ≡ true
key_from_text bytes above below utf8 = and_from _ _ (length_passes (length bytes) above below) (is_utf8-from_IsUtf8 bytes utf8)

pub not_utf8 : (bytes : List ℕ) (b : Bool) → is_utf8 bytes ≡ b → (IsUtf8 bytes → ⊥) → b ≡ false
not_utf8 bytes true e h = absurd (h (IsUtf8-from_is_utf8 bytes e))
not_utf8 bytes false e h = refl

pub key_not_text : (bytes : List ℕ) → (IsUtf8 bytes → ⊥) → is_key bytes ≡ false
key_not_text bytes h = and_right _ _ (not_utf8 bytes (is_utf8 bytes) refl h)

-- reading the bytes as text tells whether they are a key
pub key_told : {T E : Type 0} (P : T → Type 0) (Q : E → Type 0) (bytes : List ℕ) (read : Result T E) → 0 < length bytes → length bytes ≤ 1024
    → MatchResult read (λ text. P text × IsUtf8 bytes) (λ e. (IsUtf8 bytes → ⊥) × Q e) → is_ok read ≡ is_key bytes
key_told P Q bytes (Ok text) above below h = sym (key_from_text bytes above below h.1)
key_told P Q bytes (Err e) above below h = sym (key_not_text bytes h.0)

pub not_empty : (n : ℕ) → false ≡ nat_eq n 0 → 0 < n
not_empty n e = grind (arith, nat_tests)
