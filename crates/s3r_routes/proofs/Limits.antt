-- What is true of the values of words.
use Rattle.std.proofs.Common.{◌≡◌, ℕ, ◌≤◌, nat_lt, if◌then◌else◌, Bool, true, false, List, Option, Some, None, Ok, Err, IfOk, refl, arith}
use Rattle.std.proofs.lemmas.Bool.Decides.{nat_tests}
use Rattle.s3r_routes.specs.declared.fault.RouteFault.{RouteFault}
use Rattle.s3r_routes.specs.declared.fault.RouteFault.TheVariants.{InvalidQuery}
use Rattle.s3r_routes.specs.declared.words.Word.TheVariants as word
use Rattle.s3r_routes.specs.Query.{Pair, value}
use Rattle.s3r_routes.specs.Numbers.{number_named}
use Rattle.s3r_routes.specs.Values.{above_zero, limit_from, limit_of}

above-least : (n : Option ℕ) → IfOk (above_zero n) (λ limit. 1 ≤ limit)
above-least None = tt
above-least (Some n) = go (nat_lt 0 n) refl
  where
    go : (b : Bool) → nat_lt 0 n ≡ b → IfOk {T = ℕ} {E = RouteFault} (if b then Ok n else Err InvalidQuery) (λ limit. 1 ≤ limit)
    go true e = grind (arith, nat_tests)
    go false e = tt

from-least : (text : Option (List ℕ)) → IfOk (limit_from text) (λ limit. 1 ≤ limit)
from-least None = omega arith
from-least (Some text) = above-least (number_named 1000 text)

-- a listing may have an entry
pub limit-least : (words : List Pair) → IfOk (limit_of words) (λ limit. 1 ≤ limit)
limit-least words = from-least (value word.MaxKeys words)
