-- Text that may be read.
use Rattle.std.proofs.Common.{◌≡◌, ℕ, List, Some, None, refl}
use Rattle.std.specs.Str.{IsUtf8, is_utf8}
use Rattle.std.proofs.lemmas.Str.{is_utf8-from_IsUtf8}
use Rattle.s3r_names.proofs.Keys.{not_utf8}
use Rattle.s3r_record.specs.ReadingTexts.{passed}

pub text_is : (bytes : List ℕ) → IsUtf8 bytes → passed is_utf8 bytes ≡ Some bytes
text_is bytes utf8 = rw (is_utf8-from_IsUtf8 bytes utf8) refl

pub text_is_not : (bytes : List ℕ) → (IsUtf8 bytes → ⊥) → passed is_utf8 bytes ≡ None
text_is_not bytes h = rw (not_utf8 bytes (is_utf8 bytes) refl h) refl
