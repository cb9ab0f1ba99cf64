-- Bodies that are read and bodies that are refused.
use Rattle.std.proofs.Common.{◌≡◌, ◌++◌, ℕ, Bool, List, [], ◌∷◌, true, false, Result, Ok, Err, refl, codes, replicate}
use Rattle.std.specs.List.{concat}
use Rattle.std.specs.Str.{is_utf8, chars}
use Rattle.serde_json.specs.Written.{compact_text}
use Rattle.serde_json.proofs.OnLiterals.{serde_json_on_literals}
use Rattle.s3r_names.specs.declared.tags.Tag.{Tag}
use Rattle.s3r_json.specs.declared.fault.BodyFault.{BodyFault}
use Rattle.s3r_json.specs.declared.fault.BodyFault.TheVariants.{MalformedJson, InvalidTag}
use Rattle.s3r_json.specs.Bodies.{body_value, text_body}
use Rattle.s3r_json.specs.Members.{only_in}
use Rattle.s3r_json.specs.Status.{status_body, status_data}
use Rattle.s3r_json.specs.Tags.{tag_in, tags_data, tags_body}

-- ---- an object of one word

abbrev hold : List ℕ → Result Bool BodyFault
hold body = status_body (codes "ON") (codes "OFF") body

on : hold (codes " {\"Status\" : \"\\u004fN\"} ") ≡ Ok true
unfolding body_value only_in is_utf8 chars lib.Utf8.encode serde_json_on_literals
on = refl

off : hold (codes "{\"Status\":\"OFF\"}") ≡ Ok false
unfolding body_value only_in is_utf8 chars lib.Utf8.encode serde_json_on_literals
off = refl

last_counts : hold (codes "{\"Status\":null,\"Status\":\"ON\"}") ≡ Ok true
unfolding body_value only_in is_utf8 chars lib.Utf8.encode serde_json_on_literals
last_counts = refl

other_word : hold (codes "{\"Status\":\"On\"}") ≡ Err MalformedJson
unfolding body_value only_in is_utf8 chars lib.Utf8.encode serde_json_on_literals
other_word = refl

another_member : hold (codes "{\"Status\":\"ON\",\"X\":1}") ≡ Err MalformedJson
unfolding body_value only_in is_utf8 chars lib.Utf8.encode serde_json_on_literals
another_member = refl

nothing_told : hold (codes "{\"Status\":null}") ≡ Err MalformedJson
unfolding body_value only_in is_utf8 chars lib.Utf8.encode serde_json_on_literals
nothing_told = refl

no_member : hold (codes "{}") ≡ Err MalformedJson
unfolding body_value only_in is_utf8 chars lib.Utf8.encode serde_json_on_literals
no_member = refl

no_object : hold (codes "\"ON\"") ≡ Err MalformedJson
unfolding body_value only_in is_utf8 chars lib.Utf8.encode serde_json_on_literals
no_object = refl

more_behind : hold (codes "{\"Status\":\"ON\"}x") ≡ Err MalformedJson
unfolding body_value only_in is_utf8 chars lib.Utf8.encode serde_json_on_literals
more_behind = refl

no_utf8 : hold (codes "{\"Status\":\"ON" ++ 255 ∷ codes "\"}") ≡ Err MalformedJson
unfolding body_value only_in is_utf8 chars lib.Utf8.encode serde_json_on_literals
no_utf8 = refl

any_text : text_body (codes "LocationConstraint") (codes "{\"LocationConstraint\":\"\"}") ≡ Ok []
unfolding body_value only_in is_utf8 chars lib.Utf8.encode serde_json_on_literals
any_text = refl

printed : compact_text (status_data (codes "Enabled")) ≡ codes "{\"Status\":\"Enabled\"}"
unfolding serde_json_on_literals
printed = refl

-- ---- tags

abbrev tag : List ℕ → List ℕ → Tag
tag key value = record { key = key; value = value }

in_order : tags_body (codes "{\"TagSet\":[{\"Key\":\"b\",\"Value\":\"\"},{\"Value\":\"1\",\"Key\":\"a\"}]}") ≡ Ok
    (tag (codes "a") (codes "1") ∷ tag (codes "b") [] ∷ [])
unfolding body_value only_in tag_in is_utf8 chars lib.Utf8.encode serde_json_on_literals
in_order = refl

no_tags : tags_body (codes "{\"TagSet\":[]}") ≡ Ok []
unfolding body_value only_in tag_in is_utf8 chars lib.Utf8.encode serde_json_on_literals
no_tags = refl

-- é by its escape and by its two bytes
two_spellings : tags_body (codes "{\"TagSet\":[{\"Key\":\"\\u00e9\\n\",\"Value\":\"" ++ 195 ∷ 169 ∷ codes "\"}]}") ≡ Ok
    (tag (195 ∷ 169 ∷ 10 ∷ []) (195 ∷ 169 ∷ []) ∷ [])
unfolding body_value only_in tag_in is_utf8 chars lib.Utf8.encode serde_json_on_literals
two_spellings = refl

key_twice : tags_body (codes "{\"TagSet\":[{\"Key\":\"a\",\"Value\":\"1\"},{\"Key\":\"a\",\"Value\":\"2\"}]}") ≡ Err InvalidTag
unfolding body_value only_in tag_in is_utf8 chars lib.Utf8.encode serde_json_on_literals
key_twice = refl

no_key : tags_body (codes "{\"TagSet\":[{\"Key\":\"\",\"Value\":\"1\"}]}") ≡ Err InvalidTag
unfolding body_value only_in tag_in is_utf8 chars lib.Utf8.encode serde_json_on_literals
no_key = refl

value_missing : tags_body (codes "{\"TagSet\":[{\"Key\":\"a\"}]}") ≡ Err MalformedJson
unfolding body_value only_in tag_in is_utf8 chars lib.Utf8.encode serde_json_on_literals
value_missing = refl

member_too_many : tags_body (codes "{\"TagSet\":[{\"Key\":\"a\",\"Value\":\"1\",\"X\":\"\"}]}") ≡ Err MalformedJson
unfolding body_value only_in tag_in is_utf8 chars lib.Utf8.encode serde_json_on_literals
member_too_many = refl

list_missing : tags_body (codes "{}") ≡ Err MalformedJson
unfolding body_value only_in tag_in is_utf8 chars lib.Utf8.encode serde_json_on_literals
list_missing = refl

-- ten entries and one more
abbrev with_ten : List ℕ → List ℕ
with_ten last = codes "{\"TagSet\":[" ++ concat (replicate 10 (codes "{\"Key\":\"a\",\"Value\":\"\"},")) ++ last ++ codes "]}"

eleven : tags_body (with_ten (codes "{\"Key\":\"b\",\"Value\":\"\"}")) ≡ Err InvalidTag
unfolding body_value only_in tag_in is_utf8 chars lib.Utf8.encode serde_json_on_literals
eleven = refl

form_first : tags_body (with_ten (codes "{\"Key\":\"b\",\"Value\":1}")) ≡ Err MalformedJson
unfolding body_value only_in tag_in is_utf8 chars lib.Utf8.encode serde_json_on_literals
form_first = refl

tags_printed : compact_text (tags_data (tag (codes "a\"") [] ∷ tag (codes "b") (codes "1") ∷ []))
    ≡ codes "{\"TagSet\":[{\"Key\":\"a\\\"\",\"Value\":\"\"},{\"Key\":\"b\",\"Value\":\"1\"}]}"
unfolding serde_json_on_literals
tags_printed = refl
