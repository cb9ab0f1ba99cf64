-- What a body is read as.
use Rattle.std.specs.Prelude.{◌≡◌, ℕ, List, Option, Some, None, Result, Ok, Err, if◌then◌else◌}
use Rattle.std.specs.Str.{is_utf8}
use Rattle.serde_json.specs.Data.{Data}
use Rattle.serde_json.specs.Read.{read}
use Rattle.s3r_json.specs.declared.fault.BodyFault.{BodyFault}
use Rattle.s3r_json.specs.declared.fault.BodyFault.TheVariants.{MalformedJson, InvalidTag, OutOfMemory}
use Rattle.s3r_json.specs.Members.{only_text_in}

-- What a call returned is what is asked for, unless memory ran out.
abbrev pub Fails : {X : Type 0} → BodyFault → Result X BodyFault → Type 0
Fails MalformedJson asked = asked ≡ Err MalformedJson
Fails InvalidTag asked = asked ≡ Err InvalidTag
Fails OutOfMemory asked = Unit {0}

abbrev pub Gives : {X : Type 0} → Result X BodyFault → Result X BodyFault → Type 0
Gives (Ok x) asked = asked ≡ Ok x
Gives (Err fault) asked = Fails fault asked

-- the same of what is seen by a view
abbrev pub GivesBy : {X Y : Type 0} → (X → Y) → Result X BodyFault → Result Y BodyFault → Type 0
GivesBy seen (Ok x) asked = asked ≡ Ok (seen x)
GivesBy seen (Err fault) asked = Fails fault asked

-- the value whose text the body is
unfoldable pub body_value : List ℕ → Option Data
body_value body = if is_utf8 body then read body else None

abbrev pub or_malformed : {X : Type 0} → Option X → Result X BodyFault
or_malformed None = Err MalformedJson
or_malformed (Some x) = Ok x

abbrev pub of_value : {X : Type 0} → (Data → Result X BodyFault) → Option Data → Result X BodyFault
of_value reading None = Err MalformedJson
of_value reading (Some value) = reading value

-- what a reading of values gives of a body
abbrev pub of_body : {X : Type 0} → (Data → Result X BodyFault) → List ℕ → Result X BodyFault
of_body reading body = of_value reading (body_value body)

-- the text of a body that is an object with this one member
abbrev pub text_body : List ℕ → List ℕ → Result (List ℕ) BodyFault
text_body name body = of_body (λ value. or_malformed (only_text_in name value)) body
