-- What a body is read as.
use Rattle.std.proofs.Common.{◌≡◌, if◌then◌else◌, ℕ, List, Some, None, ap, ◌∙◌, true, false, Bool, refl, codes, String, Global, string_bytes, IsUtf8, Ok}
use Rattle.std.specs.Str.{is_utf8}
use Rattle.std.proofs.lemmas.Str.{IsUtf8-from_is_utf8, is_utf8-from_IsUtf8, IsUtf8-string_bytes}
use Rattle.serde_json.specs.Data.{Data}
use Rattle.serde_json.specs.Read.{read}
use Rattle.s3r_json.specs.Bodies.{body_value, of_value, text_body, or_malformed}
use Rattle.s3r_json.specs.Members.{only_in, only_text_in}
use Rattle.s3r_json.specs.Status.{status_data}

-- a text that is a value's
pub value_of : (body : List ℕ) (d : Data) → IsUtf8 body × (read body ≡ Some d) → body_value body ≡ Some d
unfolding body_value
value_of body d h = ap (λ (t : Bool). if t then read body else None) (is_utf8-from_IsUtf8 body h.0) ∙ h.1

unread : (body : List ℕ) (utf8 : Bool) → is_utf8 body ≡ utf8 → (IsUtf8 body → read body ≡ None) → (if utf8 then read body else None) ≡ None
unread body true is h = h (IsUtf8-from_is_utf8 body is)
unread body false is h = refl

-- a text that is no value's
pub no_value : (body : List ℕ) → (IsUtf8 body → read body ≡ None) → body_value body ≡ None
unfolding body_value
no_value body h = unread body _ refl h

-- what was printed is the body of its value
pub printed_value : (text : String Global) (d : Data) → read (string_bytes text) ≡ Some d → body_value (string_bytes text) ≡ Some d
printed_value text d h = value_of (string_bytes text) d (IsUtf8-string_bytes text, h)

pub status_word : (word : List ℕ) → only_text_in (codes "Status") (status_data word) ≡ Some word
unfolding only_in
status_word word = refl

-- a status that was printed is read
pub status_back : (word : List ℕ) (text : String Global) → read (string_bytes text) ≡ Some (status_data word)
    → text_body (codes "Status") (string_bytes text) ≡ Ok word
status_back word text h =
    ap (of_value (λ d. or_malformed (only_text_in (codes "Status") d))) (printed_value text (status_data word) h) ∙ ap or_malformed (status_word word)
