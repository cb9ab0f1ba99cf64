-- Which region the body of a new bucket's request names.
use Rattle.std.specs.Prelude.{ℕ, ◌-◌, ◌==◌, ◌&&◌, nat_le, if◌then◌else◌, List, [], ◌∷◌, Option, Some, None, Result, Ok, Err, codes}
use Rattle.std.specs.Str.{bytes_eq, is_utf8}
use Rattle.serde_json.specs.Data.{Data, string, object, member, no_members}
use Rattle.serde_json.specs.Read.{read}
use Rattle.s3r_api.specs.declared.problem.Problem.{Problem}
use Rattle.s3r_api.specs.declared.problem.Problem.TheVariants.{MalformedJson}

-- the text of the one member that the value may have
abbrev pub location_in : Data → Option (List ℕ)
location_in (object (member name (string text) no_members)) = if bytes_eq name (codes "LocationConstraint") then Some text else None
location_in value = None

-- `r` and a digit
abbrev pub region_named : List ℕ → Option ℕ
region_named (letter ∷ digit ∷ []) = if letter == 114 && nat_le 48 digit && nat_le digit 57 then Some (digit - 48) else None
region_named text = None

abbrev pub region_of_text : Option (List ℕ) → Result (Option ℕ) Problem
region_of_text None = Err MalformedJson
region_of_text (Some text) = Ok (region_named text)

abbrev pub region_of_value : Option Data → Result (Option ℕ) Problem
region_of_value None = Err MalformedJson
region_of_value (Some value) = region_of_text (location_in value)

-- An empty body names the first region. None stands for a word that is no region's.
unfoldable pub region_of : List ℕ → Result (Option ℕ) Problem
region_of [] = Ok (Some 0)
region_of (byte ∷ bytes) = if is_utf8 (byte ∷ bytes) then region_of_value (read (byte ∷ bytes)) else Err MalformedJson
