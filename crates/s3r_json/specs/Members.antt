-- What a value says.
use Rattle.std.specs.Prelude.{ℕ, Bool, true, false, ◌&&◌, if◌then◌else◌, List, [], ◌∷◌, Option, Some, None, option_and_then, option_map}
use Rattle.std.specs.List.{list_any}
use Rattle.std.specs.Str.{bytes_eq}
use Rattle.serde_json.specs.Data.{Data, Items, Members, no_members, member}
use Rattle.serde_json.specs.Find.{get, as_str, as_array, as_object}

abbrev pub is_named : List (List ℕ) → List ℕ → Bool
is_named names key = list_any (λ name. bytes_eq name key) names

abbrev pub are_named : List (List ℕ) → Members → Bool
are_named names no_members = true
are_named names (member key value members) = is_named names key && are_named names members

abbrev pub object_of : List (List ℕ) → Option Members → Bool
object_of names None = false
object_of names (Some members) = are_named names members

-- the value is an object, and each of its members has one of these names
abbrev pub has_only : List (List ℕ) → Data → Bool
has_only names value = object_of names (as_object value)

-- the one member of an object that has no other
unfoldable pub only_in : List ℕ → Data → Option Data
only_in name value = if has_only (name ∷ []) value then get name value else None

abbrev pub only_text_in : List ℕ → Data → Option (List ℕ)
only_text_in name value = option_and_then as_str (only_in name value)

abbrev pub text_in : List ℕ → Data → Option (List ℕ)
text_in name value = option_and_then as_str (get name value)

-- A member that may be missing. None where it is there and isn't what is looked for.
abbrev pub if_any : {X : Type 0} → (Data → Option X) → Option Data → Option (Option X)
if_any reading None = Some None
if_any reading (Some value) = option_map Some (reading value)

abbrev pub optional_text_in : List ℕ → Data → Option (Option (List ℕ))
optional_text_in name value = if_any as_str (get name value)

abbrev pub list_in : List ℕ → Data → Option Items
list_in name value = option_and_then as_array (get name value)

-- which of two words this is
abbrev pub flag_of : List ℕ → List ℕ → List ℕ → Option Bool
flag_of on off word = if bytes_eq word on then Some true else if bytes_eq word off then Some false else None
