-- The web form of a set of tags is read as that set.
use Rattle.std.proofs.Common.{◌≡◌, ℕ, ◌+◌, ◌/◌, ◌<◌, cond, true, ◌&&◌, nat_le, ltb, List, [], ◌∷◌, length, map, refl, ap, subst, ◌∙◌, arith}
use Rattle.std.specs.List.{All, list_all}
use Rattle.std.specs.Str.{IsUtf8, chars, is_utf8, encode_utf8_all}
use lib.Utf8.{encode, next, scalar, scalars, scalar_cases}
use Rattle.std.proofs.lemmas.Bool.{and_parts, cond_both, ltb-true}
use Rattle.std.proofs.lemmas.List.Elements.{All-nil, All-cons, All-append}
use Rattle.std.proofs.lemmas.Str.{IsUtf8-from_is_utf8}
use Rattle.percent_encoding.proofs.PercentLemmas.{IsByte}
use Rattle.form_urlencoded.proofs.FormLemmas.{round_trip, IsBytePair}
use Rattle.s3r_names.specs.Tags.{is_tag, is_tag_list, is_tag_set, is_text, has_rising_keys, in_key_order}
use Rattle.s3r_names.specs.Query.{tag_of, pair_of, query_tags, query_text}
use Rattle.s3r_names.specs.declared.tags.Tag.{Tag}
use Rattle.s3r_names.proofs.TagLaws.{set-in_key_order, set-is_tag_list}

one : (a : ℕ) → a < 256 → All IsByte (a ∷ [])
one a h = All-cons IsByte a [] h (All-nil IsByte)

two : (a b : ℕ) → a < 256 → b < 256 → All IsByte (a ∷ b ∷ [])
two a b h k = All-cons IsByte a (b ∷ []) h (one b k)

three : (a b c : ℕ) → a < 256 → b < 256 → c < 256 → All IsByte (a ∷ b ∷ c ∷ [])
three a b c h k l = All-cons IsByte a (b ∷ c ∷ []) h (two b c k l)

four : (a b c d : ℕ) → a < 256 → b < 256 → c < 256 → d < 256 → All IsByte (a ∷ b ∷ c ∷ d ∷ [])
four a b c d h k l m = All-cons IsByte a (b ∷ c ∷ d ∷ []) h (three b c d k l m)

below_top : (c : ℕ) → scalar c ≡ true → c < 1114112
below_top c h = let bound = scalar_cases c h in grind arith

encode-bytes : (c : ℕ) → scalar c ≡ true → All IsByte (encode c)
unfolding encode
encode-bytes c h =
    cond_both (ltb c 128) (c ∷ []) (cond (ltb c 2048) ((192 + c / 64) ∷ next c ∷ [])
    (cond (ltb c 65536) ((224 + c / 4096) ∷ next (c / 64) ∷ next c ∷ []) ((240 + c / 262144) ∷ next (c / 4096) ∷ next (c / 64) ∷ next c ∷ []))) (All IsByte)
    (λ low. one c (omega (arith, ltb-true c 128 low)))
    (λ above. cond_both (ltb c 2048) ((192 + c / 64) ∷ next c ∷ []) (cond (ltb c 65536) ((224 + c / 4096) ∷ next (c / 64) ∷ next c ∷ [])
    ((240 + c / 262144) ∷ next (c / 4096) ∷ next (c / 64) ∷ next c ∷ [])) (All IsByte)
    (λ low. two (192 + c / 64) (next c) (omega (arith, ltb-true c 2048 low)) (omega arith))
    (λ more. cond_both (ltb c 65536) ((224 + c / 4096) ∷ next (c / 64) ∷ next c ∷ []) ((240 + c / 262144) ∷ next (c / 4096) ∷ next (c / 64) ∷ next c ∷ [])
    (All IsByte)
    (λ low. three (224 + c / 4096) (next (c / 64)) (next c) (omega (arith, ltb-true c 65536 low)) (omega arith) (omega arith))
    (λ most. four (240 + c / 262144) (next (c / 4096)) (next (c / 64)) (next c) (omega (arith, below_top c h)) (omega arith) (omega arith) (omega arith))))

encodes-bytes : (cs : List ℕ) → scalars cs ≡ true → All IsByte (encode_utf8_all cs)
encodes-bytes [] h = All-nil IsByte
encodes-bytes (c ∷ cs) h =
    let parts = and_parts (scalar c) (scalars cs) h in
    All-append IsByte (encode c) (encode_utf8_all cs) (encode-bytes c parts.0) (encodes-bytes cs parts.1)

utf8-bytes : (bytes : List ℕ) → IsUtf8 bytes → All IsByte bytes
utf8-bytes bytes text = let P : List ℕ → Type 0 = λ bs. All IsByte bs in subst P text.1.1 (encodes-bytes text.0 text.1.0)

text-bytes : (least most : ℕ) (bytes : List ℕ) → is_text least most bytes ≡ true → All IsByte bytes
text-bytes least most bytes h =
    let a = and_parts (is_utf8 bytes && nat_le least (length (chars bytes))) (nat_le (length (chars bytes)) most) h in
    let b = and_parts (is_utf8 bytes) (nat_le least (length (chars bytes))) a.0 in
    utf8-bytes bytes (IsUtf8-from_is_utf8 bytes b.0)

tags-bytes : (tags : List Tag) → list_all is_tag tags ≡ true → All IsBytePair (map pair_of tags)
tags-bytes [] h = All-nil IsBytePair
tags-bytes (tag ∷ tags) h =
    let parts = and_parts (is_tag tag) (list_all is_tag tags) h in
    let texts = and_parts (is_text 1 128 tag.key) (is_text 0 256 tag.value) parts.0 in
    All-cons IsBytePair (pair_of tag) (map pair_of tags) (text-bytes 1 128 tag.key texts.0, text-bytes 0 256 tag.value texts.1) (tags-bytes tags parts.1)

tags_back : (tags : List Tag) → map tag_of (map pair_of tags) ≡ tags
tags_back [] = refl
tags_back (tag ∷ tags) = ap (λ rest. tag ∷ rest) (tags_back tags)

pub query_back : (tags : List Tag) → list_all is_tag tags ≡ true → query_tags (query_text tags) ≡ tags
query_back tags h = ap (map tag_of) (round_trip (map pair_of tags) (tags-bytes tags h)) ∙ tags_back tags

-- the text of a set's form is read as that set
pub set_back : (tags text : List Tag) → text ≡ tags → is_tag_set tags ≡ true → (is_tag_list text ≡ true) × (in_key_order text ≡ tags)
set_back tags text e h = (ap is_tag_list e ∙ set-is_tag_list tags h, ap in_key_order e ∙ set-in_key_order tags h)

pub query-reads : (tags : List Tag) (text : List ℕ) → is_tag_set tags ≡ true → text ≡ query_text tags → (is_tag_list (query_tags text) ≡ true)
    × (in_key_order (query_tags text) ≡ tags)
query-reads tags text h e =
    let each = (and_parts (nat_le (length tags) 10) (list_all is_tag tags)
    (and_parts (nat_le (length tags) 10 && list_all is_tag tags) (has_rising_keys tags) h).0).1 in
    set_back tags (query_tags text) (ap query_tags e ∙ query_back tags each) h
