-- A token and a prefix that may be read.
use Rattle.std.proofs.Common.{◌≡◌, ℕ, ◌≤◌, ◌<◌, true, false, nat_le, List, Some, None, length, refl, arith}
use Rattle.std.specs.Str.{IsUtf8, is_utf8}
use Rattle.std.proofs.lemmas.Bool.Decides.{nat_tests}
use Rattle.std.proofs.lemmas.Str.{is_utf8-from_IsUtf8}
use Rattle.s3r_names.proofs.Keys.{not_utf8}
use Rattle.s3r_names.proofs.TagTexts.{no_text_told}
use Rattle.s3r_jobs.specs.Rules.{is_token, is_prefix}
use Rattle.s3r_record.specs.ReadingTexts.{passed}

pub token_is : (bytes : List ℕ) → is_token bytes ≡ true → passed is_token bytes ≡ Some bytes
token_is bytes is = rw is refl

pub token_is_not : (bytes : List ℕ) → is_token bytes ≡ false → passed is_token bytes ≡ None
token_is_not bytes is = rw is refl

pub no_token : (bytes : List ℕ) → (IsUtf8 bytes → ⊥) → passed is_token bytes ≡ None
no_token bytes h = token_is_not bytes (no_text_told bytes 1 64 h)

pub prefix_is : (most : ℕ) (bytes : List ℕ) → IsUtf8 bytes → length bytes ≤ most → passed (is_prefix most) bytes ≡ Some bytes
prefix_is most bytes utf8 short = let fits : nat_le (length bytes) most ≡ true = grind (arith, nat_tests) in rw (is_utf8-from_IsUtf8 bytes utf8, fits) refl

pub prefix_is_not : (most : ℕ) (bytes : List ℕ) → IsUtf8 bytes → most < length bytes → passed (is_prefix most) bytes ≡ None
prefix_is_not most bytes utf8 long = let no : nat_le (length bytes) most ≡ false = grind (arith, nat_tests) in rw (is_utf8-from_IsUtf8 bytes utf8, no) refl

pub no_prefix : (most : ℕ) (bytes : List ℕ) → (IsUtf8 bytes → ⊥) → passed (is_prefix most) bytes ≡ None
no_prefix most bytes h = rw (not_utf8 bytes (is_utf8 bytes) refl h) refl
