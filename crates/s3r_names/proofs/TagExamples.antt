-- Tags that are a set, and tags that are none.
use Rattle.std.proofs.Common.{◌≡◌, true, false, List, [], ◌∷◌, ℕ, refl, replicate, codes}
use Rattle.std.specs.Str.{is_utf8, chars}
use Rattle.form_urlencoded.specs.Form.{raw_pairs, split, byte_serialize}
use Rattle.percent_encoding.specs.Percent.{percent_decode, percent_encode_byte}
use Rattle.s3r_names.specs.Tags.{is_tag_key, is_tag_value, is_tag_set, is_tag_list, in_key_order}
use Rattle.s3r_names.specs.Query.{query_tags, query_text}
use Rattle.s3r_names.specs.declared.tags.Tag.{Tag}

abbrev tag : List ℕ → Tag
tag key = record { key = key; value = [] }

nothing : is_tag_set [] ≡ true
nothing = refl

rising : is_tag_set (tag (codes "a") ∷ tag (codes "aa") ∷ tag (codes "b") ∷ []) ≡ true
unfolding is_utf8 chars lib.Utf8.encode
rising = refl

falling : is_tag_set (tag (codes "b") ∷ tag (codes "a") ∷ []) ≡ false
unfolding is_utf8 chars lib.Utf8.encode
falling = refl

twice : is_tag_set (tag (codes "a") ∷ tag (codes "a") ∷ []) ≡ false
unfolding is_utf8 chars lib.Utf8.encode
twice = refl

no_key : is_tag_key [] ≡ false
unfolding is_utf8 chars lib.Utf8.encode
no_key = refl

no_value : is_tag_value [] ≡ true
unfolding is_utf8 chars lib.Utf8.encode
no_value = refl

-- é is one character of two bytes
two_bytes : is_tag_key (195 ∷ 169 ∷ []) ≡ true
unfolding is_utf8 chars lib.Utf8.encode
two_bytes = refl

half_of_them : is_tag_key (195 ∷ []) ≡ false
unfolding is_utf8 chars lib.Utf8.encode
half_of_them = refl

longest_key : is_tag_key (replicate 128 97) ≡ true
unfolding is_utf8 chars lib.Utf8.encode
longest_key = refl

too_long_key : is_tag_key (replicate 129 97) ≡ false
unfolding is_utf8 chars lib.Utf8.encode
too_long_key = refl

-- the order is that of bytes
in_order : in_key_order (tag (codes "b") ∷ tag (codes "ab") ∷ tag (codes "Z") ∷ tag (codes "a") ∷ []) ≡
    (tag (codes "Z") ∷ tag (codes "a") ∷ tag (codes "ab") ∷ tag (codes "b") ∷ [])
in_order = refl

any_order : is_tag_list (tag (codes "b") ∷ tag (codes "a") ∷ []) ≡ true
unfolding is_utf8 chars lib.Utf8.encode
any_order = refl

key_twice : is_tag_list (tag (codes "a") ∷ tag (codes "b") ∷ tag (codes "a") ∷ []) ≡ false
unfolding is_utf8 chars lib.Utf8.encode
key_twice = refl

-- `a+b=c%2B`
form_read : query_tags (codes "a+b=c%2B") ≡ (record { key = codes "a b"; value = codes "c+" } ∷ [])
unfolding raw_pairs split percent_decode
form_read = refl

form_printed : query_text (record { key = codes "a b"; value = codes "c+" } ∷ tag (codes "k") ∷ []) ≡ codes "a+b=c%2B&k="
unfolding byte_serialize percent_encode_byte
form_printed = refl
