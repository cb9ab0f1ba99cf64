-- What is known of the bytes of a tag's key or value.
use Rattle.std.proofs.Common.{◌≡◌, ℕ, ◌*◌, ◌≤◌, Bool, true, false, ◌&&◌, nat_le, List, [], ◌∷◌, length, refl, ap, arith, length-append}
use Rattle.std.specs.Prelude.{encode_utf8, is_some}
use Rattle.std.specs.Bool.{then_some}
use Rattle.std.specs.Str.{IsUtf8, is_utf8, chars, encode_utf8_all}
use Rattle.std.proofs.lemmas.Bool.{and_parts}
use Rattle.std.proofs.lemmas.Bool.Decides.{nat_tests}
use Rattle.std.proofs.lemmas.Str.{IsUtf8-from_is_utf8, is_utf8-from_IsUtf8, encodes-chars, length-encode, len_utf8_bounds}
use Rattle.s3r_names.specs.Tags.{is_text, is_tag}
use Rattle.s3r_names.specs.declared.tags.Tag.{Tag}
use Rattle.s3r_names.proofs.Keys.{not_utf8}

pub then_told : {T : Type 0} (told : Bool) (text : T) → is_some (then_some told text) ≡ told
then_told true text = refl
then_told false text = refl

-- the test of text, where the count of its characters is known
pub text_told : (bytes : List ℕ) (least most count : ℕ) (text : List ℕ) → IsUtf8 bytes → text ≡ bytes → count ≡ length (chars text)
    → (nat_le least count && nat_le count most) ≡ is_text least most bytes
text_told bytes least most count text utf8 same counted = rw (counted, same, is_utf8-from_IsUtf8 bytes utf8) refl

pub no_text_told : (bytes : List ℕ) (least most : ℕ) → (IsUtf8 bytes → ⊥) → is_text least most bytes ≡ false
no_text_told bytes least most h = rw (not_utf8 bytes (is_utf8 bytes) refl h) refl

length-encodes_most : (cs : List ℕ) → length (encode_utf8_all cs) ≤ 4 * length cs
length-encodes_most [] = omega arith
length-encodes_most (c ∷ cs) = omega (arith, length-encodes_most cs, length-append (encode_utf8 c) (encode_utf8_all cs), length-encode c, len_utf8_bounds c)

-- text has at most four bytes for each character
pub text-length : (bytes : List ℕ) (least most : ℕ) → is_text least most bytes ≡ true → length bytes ≤ 4 * most
text-length bytes least most h =
    let a = and_parts (is_utf8 bytes && nat_le least (length (chars bytes))) (nat_le (length (chars bytes)) most) h in
    let b = and_parts (is_utf8 bytes) (nat_le least (length (chars bytes))) a.0 in
    let spelled : encode_utf8_all (chars bytes) ≡ bytes = encodes-chars bytes (IsUtf8-from_is_utf8 bytes b.0) in
    let few : length (chars bytes) ≤ most = grind (arith, nat_tests) in
    omega (arith, ap length spelled, length-encodes_most (chars bytes))

-- what a writer of tags uses of the rule
pub record IsShortTag (tag : Tag) : Type 0 where
  pub key : length tag.key ≤ 512
  pub value : length tag.value ≤ 1024

pub tag_is : (tag : Tag) → is_tag tag ≡ true → IsShortTag tag
tag_is tag h =
    let a = and_parts (is_text 1 128 tag.key) (is_text 0 256 tag.value) h in
    record { key = omega (arith, text-length tag.key 1 128 a.0); value = omega (arith, text-length tag.value 0 256 a.1) }
