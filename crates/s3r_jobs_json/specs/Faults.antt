-- What a call that may be refused gives.
use Rattle.std.specs.Prelude.{◌≡◌, Option, Some, None, Result, Ok, Err}
use Rattle.s3r_jobs_json.specs.declared.fault.JobFault.{JobFault}
use Rattle.s3r_jobs_json.specs.declared.fault.JobFault.TheVariants.{MalformedJson, InvalidTag, InvalidRequest, InvalidArn, InvalidVersionId, OutOfMemory}

-- What a call returned is what is asked for, unless memory ran out.
abbrev pub Fails : {X : Type 0} → JobFault → Result X JobFault → Type 0
Fails MalformedJson asked = asked ≡ Err MalformedJson
Fails InvalidTag asked = asked ≡ Err InvalidTag
Fails (InvalidRequest kind) asked = asked ≡ Err (InvalidRequest kind)
Fails InvalidArn asked = asked ≡ Err InvalidArn
Fails InvalidVersionId asked = asked ≡ Err InvalidVersionId
Fails OutOfMemory asked = Unit {0}

abbrev pub Gives : {X : Type 0} → Result X JobFault → Result X JobFault → Type 0
Gives (Ok x) asked = asked ≡ Ok x
Gives (Err fault) asked = Fails fault asked

-- the same of what is seen by a view
abbrev pub GivesBy : {X Y : Type 0} → (X → Y) → Result X JobFault → Result Y JobFault → Type 0
GivesBy seen (Ok x) asked = asked ≡ Ok (seen x)
GivesBy seen (Err fault) asked = Fails fault asked

infixl 10 ◌>>=◌
abbrev pub ◌>>=◌ : {A B : Type 0} → Result A JobFault → (A → Result B JobFault) → Result B JobFault
(Ok x) >>= f = f x
(Err fault) >>= f = Err fault

abbrev pub or_malformed : {X : Type 0} → Option X → Result X JobFault
or_malformed None = Err MalformedJson
or_malformed (Some x) = Ok x
