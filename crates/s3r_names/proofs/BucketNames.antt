-- What is known of the bytes of a bucket's name.
use Rattle.std.proofs.Common.{◌≡◌, ℕ, ◌<◌, ◌≤◌, true, not, nat_le, ◌&&◌, List, length, arith}
use Rattle.std.specs.List.{list_all}
use Rattle.std.specs.Str.{IsAscii, IsUtf8}
use Rattle.std.proofs.lemmas.Bool.{and_parts}
use Rattle.std.proofs.lemmas.Bool.Decides.{nat_tests}
use Rattle.std.proofs.lemmas.Str.{IsUtf8-from_ascii}
use Rattle.s3r_names.proofs.Ascii.{ascii_from_all}
use Rattle.s3r_names.specs.Bucket.{is_name_byte, has_name_length, has_name_ends, has_adjacent_dots, is_address, is_reserved, is_bucket_name}

name_byte-ascii : (byte : ℕ) → is_name_byte byte ≡ true → byte < 128
name_byte-ascii byte h = grind (arith, nat_tests)

length_fits : (n : ℕ) → (nat_le 3 n && nat_le n 63) ≡ true → n ≤ 63
length_fits n h = grind (arith, nat_tests)

-- what a reader of names uses of the rule
pub record IsShortAscii (bytes : List ℕ) : Type 0 where
  pub short : length bytes ≤ 63
  pub ascii : IsAscii bytes

pub name_is : (bytes : List ℕ) → is_bucket_name bytes ≡ true → IsShortAscii bytes
name_is bytes h =
    let a = and_parts (has_name_length bytes && list_all is_name_byte bytes && has_name_ends bytes && not (has_adjacent_dots bytes) && not (is_address bytes))
    (not (is_reserved bytes)) h in
    let b = and_parts (has_name_length bytes && list_all is_name_byte bytes && has_name_ends bytes && not (has_adjacent_dots bytes))
    (not (is_address bytes)) a.0 in
    let c = and_parts (has_name_length bytes && list_all is_name_byte bytes && has_name_ends bytes) (not (has_adjacent_dots bytes)) b.0 in
    let d = and_parts (has_name_length bytes && list_all is_name_byte bytes) (has_name_ends bytes) c.0 in
    let e = and_parts (has_name_length bytes) (list_all is_name_byte bytes) d.0 in
    record { short = length_fits (length bytes) e.0; ascii = ascii_from_all is_name_byte name_byte-ascii bytes e.1 }

pub name-utf8 : (bytes : List ℕ) → is_bucket_name bytes ≡ true → IsUtf8 bytes
name-utf8 bytes h = IsUtf8-from_ascii bytes (name_is bytes h).ascii
