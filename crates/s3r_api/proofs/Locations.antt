-- What the members of a value say of a region.
use Rattle.std.proofs.Common.{◌≡◌, ◌==◌, if◌then◌else◌, ℕ, List, [], ◌∷◌, length, Some, None, sym, ap, ◌∙◌, true, false, Bool, refl, arith, codes, option_map, option_and_then, nat_cmp, Ordering, Less, Equal, Greater, is_eq, Err, IsUtf8}
use Rattle.std.specs.Str.{is_utf8}
use Rattle.std.proofs.lemmas.Map.Text.{is_eq-slice_cmp}
use Rattle.std.proofs.lemmas.Slice.Eq.{bytes_eq-Decides}
use Rattle.std.proofs.lemmas.Str.{IsUtf8-from_is_utf8, is_utf8-from_IsUtf8}
use Rattle.std.specs.Cmp.Lexicographic.{slice_cmp}
use Rattle.std.specs.Ordering.{match_ordering}
use Rattle.serde_json.specs.Data.{Data, null, boolean, number, string, array, object, Members, no_members, member}
use Rattle.serde_json.specs.Find.{get, get_member, as_str, as_object}
use Rattle.serde_json.specs.Events.{members_len}
use Rattle.serde_json.specs.Read.{read}
use Rattle.s3r_api.specs.declared.problem.Problem.TheVariants.{MalformedJson}
use Rattle.s3r_api.specs.Location.{location_in, region_of_text, region_of_value, region_of}

abbrev key : List ℕ
key = codes "LocationConstraint"

of_text : (d : Data) (text : List ℕ) → as_str d ≡ Some text → d ≡ string text
of_text null text h = cc
of_text (boolean b) text h = cc
of_text (number n) text h = cc
of_text (string s) text h = cc
of_text (array ds) text h = cc
of_text (object ms) text h = cc

named : (name text : List ℕ) → name ≡ key → location_in (object (member name (string text) no_members)) ≡ Some text
named name text same = rw same refl

of_one : (o : Ordering) (name text : List ℕ) (d : Data) → slice_cmp nat_cmp key name ≡ o
    → option_and_then as_str (match_ordering o None (Some d) None) ≡ Some text → location_in (object (member name d no_members)) ≡ Some text
of_one Less name text d is h = cc
of_one Equal name text d is h =
    let same : key ≡ name = (bytes_eq-Decides key name).0 (sym (is_eq-slice_cmp key name) ∙ ap is_eq is) in
    let value = of_text d text h in
    ap (λ (e : Data). location_in (object (member name e no_members))) value ∙ named name text (sym same)
of_one Greater name text d is h = cc

of_members : (ms : Members) (text : List ℕ) → members_len ms ≡ 1 → option_and_then as_str (get_member key ms) ≡ Some text → location_in (object ms) ≡ Some text
of_members no_members text n h = absurd (omega (arith, n))
of_members (member name d no_members) text n h = of_one _ name text d refl h
of_members (member name d (member other e ms)) text n h = absurd (omega (arith, n))

-- where there is one member, the text at the key is what the value says
pub one_text : (d : Data) (text : List ℕ) → option_map members_len (as_object d) ≡ Some 1 → option_and_then as_str (get key d) ≡ Some text
    → location_in d ≡ Some text
one_text null text n h = cc
one_text (boolean b) text n h = cc
one_text (number m) text n h = cc
one_text (string s) text n h = cc
one_text (array ds) text n h = cc
one_text (object ms) text n h = let one : members_len ms ≡ 1 = cc in of_members ms text one h

unread : (body : List ℕ) (utf8 : Bool) → is_utf8 body ≡ utf8 → (IsUtf8 body → read body ≡ None)
    → (if utf8 then region_of_value (read body) else Err MalformedJson) ≡ Err MalformedJson
unread body true is h = ap region_of_value (h (IsUtf8-from_is_utf8 body is))
unread body false is h = refl

-- a body that is no JSON text
pub refused : (body : List ℕ) → (length body == 0) ≡ false → (IsUtf8 body → read body ≡ None) → region_of body ≡ Err MalformedJson
unfolding region_of
refused [] some h = cc
refused (byte ∷ bytes) some h = unread (byte ∷ bytes) _ refl h

-- a body that is the text of a value
pub read_as : (body : List ℕ) (d : Data) → (length body == 0) ≡ false → IsUtf8 body × (read body ≡ Some d) → region_of body ≡ region_of_text (location_in d)
unfolding region_of
read_as [] d some h = cc
read_as (byte ∷ bytes) d some h =
    let utf8 = is_utf8-from_IsUtf8 (byte ∷ bytes) h.0 in
    ap (λ (t : Bool). if t then region_of_value (read (byte ∷ bytes)) else Err MalformedJson) utf8 ∙ ap region_of_value h.1
