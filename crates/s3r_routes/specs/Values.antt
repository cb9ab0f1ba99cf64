-- What words of a query say.
use Rattle.std.specs.Prelude.{ℕ, nat_lt, if◌then◌else◌, List, [], ◌∷◌, Option, Some, None, Result, Ok, Err}
use Rattle.s3r_names.specs.declared.version.VersionId.{VersionId}
use Rattle.s3r_routes.specs.declared.fault.RouteFault.{RouteFault}
use Rattle.s3r_routes.specs.declared.fault.RouteFault.TheVariants.{InvalidQuery}
use Rattle.s3r_routes.specs.declared.words.Word.{Word}
use Rattle.s3r_routes.specs.declared.words.Word.TheVariants as word
use Rattle.s3r_routes.specs.Query.{Pair, value}
use Rattle.s3r_routes.specs.Names.{version_named}
use Rattle.s3r_routes.specs.Numbers.{number_named}

abbrev pub if_filled : Option (List ℕ) → Option (List ℕ)
if_filled None = None
if_filled (Some []) = None
if_filled (Some (byte ∷ bytes)) = Some (byte ∷ bytes)

-- the value of a word, an empty one being none
abbrev pub given : Word → List Pair → Option (List ℕ)
given w query = if_filled (value w query)

abbrev pub above_zero : Option ℕ → Result ℕ RouteFault
above_zero None = Err InvalidQuery
above_zero (Some n) = if nat_lt 0 n then Ok n else Err InvalidQuery

abbrev pub limit_from : Option (List ℕ) → Result ℕ RouteFault
limit_from None = Ok 1000
limit_from (Some text) = above_zero (number_named 1000 text)

-- how many entries a listing may have
abbrev pub limit_of : List Pair → Result ℕ RouteFault
limit_of query = limit_from (value word.MaxKeys query)

abbrev pub there : Result VersionId RouteFault → Result (Option VersionId) RouteFault
there (Ok id) = Ok (Some id)
there (Err fault) = Err fault

abbrev pub version_from : Option (List ℕ) → Result (Option VersionId) RouteFault
version_from None = Ok None
version_from (Some text) = there (version_named text)

-- the version that is named
abbrev pub version_of : List Pair → Result (Option VersionId) RouteFault
version_of query = version_from (value word.VersionId query)
