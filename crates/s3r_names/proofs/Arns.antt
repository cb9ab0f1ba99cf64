-- The text of an ARN is read as that ARN.
use Rattle.std.proofs.Common.{◌≡◌, ℕ, ◌+◌, ◌<◌, Bool, true, false, ◌&&◌, ◌==◌, not, List, [], ◌∷◌, ◌++◌, length, take, drop, position, Some, None, refl, sym, ap, ◌∙◌, arith, length-append}
use Rattle.std.specs.List.{list_all, position_or_len}
use Rattle.std.proofs.lemmas.Bool.{and_parts}
use Rattle.std.proofs.lemmas.Bool.Decides.{nat_tests}
use Rattle.std.proofs.lemmas.List.{append-nil}
use Rattle.std.proofs.Math.Seq.{take-append_seam, drop-append-add}
use Rattle.s3r_names.specs.Bucket.{is_name_byte, is_bucket_name, has_name_length, has_name_ends, has_adjacent_dots, is_address, is_reserved}
use Rattle.s3r_names.specs.Key.{is_key}
use Rattle.s3r_names.specs.Arn.{arn_at, arn_of, arn_text, object_arn}
use Rattle.s3r_names.specs.declared.arn.Arn.TheVariants.{Bucket, Object}

abbrev is_slash : ℕ → Bool
is_slash byte = byte == 47

not_slash : (byte : ℕ) → is_name_byte byte ≡ true → is_slash byte ≡ false
not_slash byte h = grind (arith, nat_tests)

slash_behind : (name rest : List ℕ) → list_all is_name_byte name ≡ true → position_or_len is_slash (name ++ rest) ≡ length name + position_or_len is_slash rest
slash_behind [] rest h = omega arith
slash_behind (byte ∷ name) rest h =
    let parts = and_parts (is_name_byte byte) (list_all is_name_byte name) h in
    rw (not_slash byte parts.0) (omega (arith, slash_behind name rest parts.1))

name-bytes : (name : List ℕ) → is_bucket_name name ≡ true → list_all is_name_byte name ≡ true
name-bytes name h =
    let b = and_parts (has_name_length name && list_all is_name_byte name && has_name_ends name && not (has_adjacent_dots name) && not (is_address name))
    (not (is_reserved name)) h in
    let c = and_parts (has_name_length name && list_all is_name_byte name && has_name_ends name && not (has_adjacent_dots name)) (not (is_address name)) b.0 in
    let d = and_parts (has_name_length name && list_all is_name_byte name && has_name_ends name) (not (has_adjacent_dots name)) c.0 in
    let e = and_parts (has_name_length name && list_all is_name_byte name) (has_name_ends name) d.0 in
    (and_parts (has_name_length name) (list_all is_name_byte name) e.0).1

no_slash : (name : List ℕ) → list_all is_name_byte name ≡ true → position is_slash name ≡ None
no_slash name h =
    let all : position_or_len is_slash name ≡ length name = ap (position_or_len is_slash) (sym (append-nil name)) ∙ slash_behind name [] h ∙ omega arith in
    rw all (grind (arith, nat_tests))

first_slash : (name key : List ℕ) → list_all is_name_byte name ≡ true → position is_slash (name ++ 47 ∷ key) ≡ Some (length name)
first_slash name key h =
    let all : position_or_len is_slash (name ++ 47 ∷ key) ≡ length name = slash_behind name (47 ∷ key) h ∙ omega arith in
    let longer : length name < length (name ++ 47 ∷ key) = omega (arith, length-append name (47 ∷ key)) in
    rw all (grind (arith, nat_tests))

pub bucket-reads : (name text : List ℕ) → is_bucket_name name ≡ true → text ≡ arn_text (Bucket name) → arn_of text ≡ Some (Bucket name)
bucket-reads name text h e = ap arn_of e ∙ ap (λ place. arn_at place name) (no_slash name (name-bytes name h)) ∙ rw h refl

pub object-reads : (name key text : List ℕ) → (is_bucket_name name && is_key key) ≡ true → text ≡ arn_text (Object name key)
    → arn_of text ≡ Some (Object name key)
object-reads name key text h e =
    let named = (and_parts (is_bucket_name name) (is_key key) h).0 in
    let front : take (length name) (name ++ 47 ∷ key) ≡ name = take-append_seam name (47 ∷ key) in
    let rest : drop (length name + 1) (name ++ 47 ∷ key) ≡ key = drop-append-add name (47 ∷ key) 1 in
    ap arn_of e
    ∙ ap (λ place. arn_at place (name ++ 47 ∷ key)) (first_slash name key (name-bytes name named))
    ∙ ap (λ first. object_arn first (drop (length name + 1) (name ++ 47 ∷ key))) front
    ∙ ap (object_arn name) rest
    ∙ rw h refl
