-- The lines of a running job.
use Rattle.std.specs.Prelude.{◌+◌, Bool, true, false, ◌&&◌, not, nat_lt, ◌∷◌, [], ◌++◌, length}
use Rattle.s3r_jobs.specs.declared.result.LineResult.{LineResult}
use Rattle.s3r_jobs.specs.declared.token.LineTurn.{LineTurn}
use Rattle.s3r_jobs.specs.declared.token.LineTurn.TheVariants.{Free, Begun, Kept}
use Rattle.s3r_jobs.specs.declared.token.LineToken.{LineToken}
use Rattle.s3r_jobs.specs.Threshold.{is_over}
use Rattle.s3r_jobs.specs.States.{is_active}
use Rattle.s3r_jobs.specs.Facts.{JobFacts}

abbrev pub is_free : LineTurn → Bool
is_free Free = true
is_free Begun = false
is_free Kept = false

abbrev pub is_kept : LineTurn → Bool
is_kept Free = false
is_kept Begun = false
is_kept Kept = true

-- whether its next line may begin: it is Active, none is begun, one is left, and not too many failed
abbrev pub may_start : JobFacts → Bool
may_start job =
    is_active job.state && (is_free job.turn && (nat_lt (length job.results) (length job.lines) && not (is_over job.results)))

-- the token of the line behind the results
abbrev pub token_of : JobFacts → LineToken
token_of job = record { job = job.id; line = length job.results + 1 }

abbrev pub with_turn : LineTurn → JobFacts → JobFacts
with_turn turn job = record job { turn = turn }

-- the line behind the results has this one
abbrev pub with_result : LineResult → JobFacts → JobFacts
with_result result job = record job { results = job.results ++ result ∷ []; turn = Free }
