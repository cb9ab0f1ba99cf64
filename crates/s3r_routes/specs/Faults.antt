-- What a call that may be refused gives.
use Rattle.std.specs.Prelude.{◌≡◌, Result, Ok, Err}
use Rattle.s3r_routes.specs.declared.fault.RouteFault.{RouteFault}
use Rattle.s3r_routes.specs.declared.fault.RouteFault.TheVariants.{OutOfMemory}

-- What a call returned is what is asked for, unless memory ran out.
abbrev pub Fails : {X : Type 0} → RouteFault → Result X RouteFault → Type 0
Fails OutOfMemory asked = Unit {0}
Fails fault asked = asked ≡ Err fault

abbrev pub Gives : {X : Type 0} → Result X RouteFault → Result X RouteFault → Type 0
Gives (Ok x) asked = asked ≡ Ok x
Gives (Err fault) asked = Fails fault asked

-- the same of what is seen by a view
abbrev pub GivesBy : {X Y : Type 0} → (X → Y) → Result X RouteFault → Result Y RouteFault → Type 0
GivesBy seen (Ok x) asked = asked ≡ Ok (seen x)
GivesBy seen (Err fault) asked = Fails fault asked
