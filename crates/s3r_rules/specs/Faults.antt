-- What a call that may be refused gives.
use Rattle.std.specs.Prelude.{◌≡◌, Option, Some, None, Result, Ok, Err}
use Rattle.s3r_rules.specs.declared.fault.ConfigFault.{ConfigFault}
use Rattle.s3r_rules.specs.declared.fault.ConfigFault.TheVariants.{MalformedJson, InvalidRequest, OutOfMemory}

-- What a call returned is what is asked for, unless memory ran out.
abbrev pub Fails : {X : Type 0} → ConfigFault → Result X ConfigFault → Type 0
Fails MalformedJson asked = asked ≡ Err MalformedJson
Fails (InvalidRequest rule kind) asked = asked ≡ Err (InvalidRequest rule kind)
Fails OutOfMemory asked = Unit {0}

abbrev pub Gives : {X : Type 0} → Result X ConfigFault → Result X ConfigFault → Type 0
Gives (Ok x) asked = asked ≡ Ok x
Gives (Err fault) asked = Fails fault asked

-- the same of what is seen by a view
abbrev pub GivesBy : {X Y : Type 0} → (X → Y) → Result X ConfigFault → Result Y ConfigFault → Type 0
GivesBy seen (Ok x) asked = asked ≡ Ok (seen x)
GivesBy seen (Err fault) asked = Fails fault asked

infixl 10 ◌>>=◌
abbrev pub ◌>>=◌ : {A B : Type 0} → Result A ConfigFault → (A → Result B ConfigFault) → Result B ConfigFault
(Ok x) >>= f = f x
(Err fault) >>= f = Err fault

abbrev pub or_malformed : {X : Type 0} → Option X → Result X ConfigFault
or_malformed None = Err MalformedJson
or_malformed (Some x) = Ok x
