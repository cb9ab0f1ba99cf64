use Rattle.std.proofs.Common.{◌≡◌}
use Rattle.s3r_desk.specs.Rounds.{copies_below}
use Rattle.s3r_desk.proofs.worker_turn.all_copies.Given as goal

abbrev pub invariant-loop-from : goal.invariant-loop-from
invariant-loop-from l = l.turns.items ≡ copies_below l.from l.regions
