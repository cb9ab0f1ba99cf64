-- What is known of the bytes of a storage class.
use Rattle.std.proofs.Common.{◌≡◌, ℕ, ◌<◌, ◌≤◌, true, nat_le, ◌&&◌, List, length, arith}
use Rattle.std.specs.List.{list_all}
use Rattle.std.specs.Str.{IsAscii, IsUtf8}
use Rattle.std.proofs.lemmas.Bool.{and_parts}
use Rattle.std.proofs.lemmas.Bool.Decides.{nat_tests}
use Rattle.std.proofs.lemmas.Str.{IsUtf8-from_ascii}
use Rattle.s3r_names.proofs.Ascii.{ascii_from_all}
use Rattle.s3r_names.specs.Class.{is_class_byte, is_class_name}

class_byte-ascii : (byte : ℕ) → is_class_byte byte ≡ true → byte < 128
class_byte-ascii byte h = grind (arith, nat_tests)

length_fits : (n : ℕ) → (nat_le 1 n && nat_le n 32) ≡ true → n ≤ 32
length_fits n h = grind (arith, nat_tests)

-- what a reader of classes uses of the rule
pub record IsShortAscii (bytes : List ℕ) : Type 0 where
  pub short : length bytes ≤ 32
  pub ascii : IsAscii bytes

pub class_is : (bytes : List ℕ) → is_class_name bytes ≡ true → IsShortAscii bytes
class_is bytes h =
    let a = and_parts (nat_le 1 (length bytes) && nat_le (length bytes) 32) (list_all is_class_byte bytes) h in
    record { short = length_fits (length bytes) a.0; ascii = ascii_from_all is_class_byte class_byte-ascii bytes a.1 }

pub class-utf8 : (bytes : List ℕ) → is_class_name bytes ≡ true → IsUtf8 bytes
class-utf8 bytes h = IsUtf8-from_ascii bytes (class_is bytes h).ascii
