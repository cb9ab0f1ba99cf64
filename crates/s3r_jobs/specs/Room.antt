-- A job's results fit its lines.
use Rattle.std.specs.Prelude.{ℕ, ◌≤◌, ◌<◌}
use Rattle.s3r_jobs.specs.declared.token.LineTurn.{LineTurn}
use Rattle.s3r_jobs.specs.declared.token.LineTurn.TheVariants.{Free, Begun, Kept}

-- a line that was begun is one of them
abbrev pub LeavesOne : LineTurn → ℕ → ℕ → Type 0
LeavesOne Free results lines = Unit {0}
LeavesOne Begun results lines = results < lines
LeavesOne Kept results lines = results < lines

pub record HasRoom (turn : LineTurn) (results lines : ℕ) : Type 0 where
  pub fits : results ≤ lines
  pub leaves : LeavesOne turn results lines
