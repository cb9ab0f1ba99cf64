-- Numbers that words of a query say.
use Rattle.std.specs.Prelude.{ℕ, List, Option, Some, None, option_and_then, Result, Ok, Err}
use Rattle.s3r_routes.specs.Query.{Pair, value}
use Rattle.s3r_routes.specs.Numbers.{number_named}
use Rattle.s3r_routes.specs.declared.words.Word.{Word}
use Rattle.s3r_api.specs.declared.problem.Problem.{Problem}
use Rattle.s3r_api.specs.declared.problem.Problem.TheVariants.{InvalidQuery}

abbrev pub number_from : Option ℕ → Result ℕ Problem
number_from None = Err InvalidQuery
number_from (Some n) = Ok n

-- the number at a word, in decimal digits and at most this one
abbrev pub number_asked : ℕ → Word → List Pair → Result ℕ Problem
number_asked most w words = number_from (option_and_then (number_named most) (value w words))
