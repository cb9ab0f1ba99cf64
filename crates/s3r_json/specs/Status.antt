-- The body {"Status":WORD}.
use Rattle.std.specs.Prelude.{ℕ, Bool, List, codes, Option, option_and_then, Result}
use Rattle.serde_json.specs.Data.{Data, string, object, member, no_members}
use Rattle.s3r_json.specs.declared.fault.BodyFault.{BodyFault}
use Rattle.s3r_json.specs.Bodies.{of_body, or_malformed}
use Rattle.s3r_json.specs.Members.{only_text_in, flag_of}

abbrev pub status_data : List ℕ → Data
status_data word = object (member (codes "Status") (string word) no_members)

-- Whether the status is on or off. None where the value has no such status.
abbrev pub status_in : List ℕ → List ℕ → Data → Option Bool
status_in on off value = option_and_then (flag_of on off) (only_text_in (codes "Status") value)

abbrev pub status_body : List ℕ → List ℕ → List ℕ → Result Bool BodyFault
status_body on off body = of_body (λ value. or_malformed (status_in on off value)) body
