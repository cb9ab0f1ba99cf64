use Rattle.std.proofs.Common.{◌≡◌, ◌++◌}
use Rattle.s3r_desk.specs.Rounds.{copies_below, jobs_below}
use Rattle.s3r_desk.proofs.worker_turn.round.Given as goal

abbrev pub invariant-loop-region : goal.invariant-loop-region
invariant-loop-region l = l.turns.items ≡ copies_below l.regions l.regions ++ jobs_below l.region
