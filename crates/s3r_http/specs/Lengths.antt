-- What was read of the length of a body.
use Rattle.std.specs.Prelude.{ℕ, ◌<◌, ◌≤◌, ◌==◌, if◌then◌else◌, List, [], ◌∷◌}
use Rattle.s3r_http.specs.declared.lengths.Length.{Length}
use Rattle.s3r_http.specs.declared.lengths.Length.TheVariants.{Wrong, TooLarge, Known}
use Rattle.s3r_http.specs.Lines.{SayLength}

-- digits without the zeros in front
abbrev pub significant : List ℕ → List ℕ
significant [] = []
significant (digit ∷ digits) = if digit == 48 then significant digits else digit ∷ digits

abbrev pub LengthIs : List (List ℕ) → Length → Type 0
LengthIs values Wrong = (n : ℕ) → SayLength values n → ⊥
LengthIs values TooLarge = (n : ℕ) × SayLength values n × (4194304 < n)
LengthIs values (Known n) = SayLength values n × (n ≤ 4194304)
