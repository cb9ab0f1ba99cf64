-- What is true of the lines of every job.
use Rattle.std.specs.Prelude.{◌≡◌, ◌+◌, false}
use Rattle.s3r_jobs.specs.declared.result.LineResult.{LineResult}
use Rattle.s3r_jobs.specs.declared.token.LineTurn.TheVariants.{Begun, Kept}
use Rattle.s3r_jobs.specs.Facts.{JobFacts}
use Rattle.s3r_jobs.specs.Lines.{may_start, token_of, with_turn, with_result}

-- no line begins while one is begun, nor while its token is kept
abbrev pub OneAtATime : Type 0
OneAtATime = (job : JobFacts) → (may_start (with_turn Begun job) ≡ false) × (may_start (with_turn Kept job) ≡ false)

-- behind a line that has its result the next line comes, and no other
abbrev pub NextIsBehind : Type 0
NextIsBehind = (job : JobFacts) (result : LineResult) → (token_of (with_result result job)).line ≡ (token_of job).line + 1
