-- What a call that may be refused gives.
use Rattle.std.specs.Prelude.{◌≡◌, ℕ, Result, Ok, Err}
use Rattle.s3r_lines.specs.declared.kind.LineKind.{LineKind}
use Rattle.s3r_routes.specs.declared.fault.RouteFault.{RouteFault}
use Rattle.s3r_routes.specs.declared.fault.RouteFault.TheVariants as route
use Rattle.s3r_manifest.specs.declared.fault.ManifestFault.{ManifestFault}
use Rattle.s3r_manifest.specs.declared.fault.ManifestFault.TheVariants.{BadLine, OutOfMemory}

-- What a call returned is what is asked for, unless memory ran out.
abbrev pub Fails : {X : Type 0} → ManifestFault → Result X ManifestFault → Type 0
Fails OutOfMemory asked = Unit {0}
Fails fault asked = asked ≡ Err fault

abbrev pub Gives : {X : Type 0} → Result X ManifestFault → Result X ManifestFault → Type 0
Gives (Ok x) asked = asked ≡ Ok x
Gives (Err fault) asked = Fails fault asked

-- The same of a call for the record of a number, where what is asked for says what is wrong of the record.
abbrev pub FailsAt : {X : Type 0} → ℕ → ManifestFault → Result X LineKind → Type 0
FailsAt number OutOfMemory asked = Unit {0}
FailsAt number (BadLine n kind) asked = (n ≡ number) × (asked ≡ Err kind)
FailsAt number fault asked = ⊥

abbrev pub GivesAt : {X : Type 0} → ℕ → Result X ManifestFault → Result X LineKind → Type 0
GivesAt number (Ok x) asked = asked ≡ Ok x
GivesAt number (Err fault) asked = FailsAt number fault asked

-- the fault of the record of this number where a name of it was refused
abbrev pub fault_at : ℕ → LineKind → RouteFault → ManifestFault
fault_at number kind route.OutOfMemory = OutOfMemory
fault_at number kind fault = BadLine number kind
