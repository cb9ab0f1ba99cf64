use Rattle.std.proofs.Common.{◌≡◌, ◌++◌}
use Rattle.s3r_desk.specs.Rounds.{copies_from}
use Rattle.s3r_desk.proofs.worker_turn.add_copies.Given as goal

abbrev pub invariant-loop-to : goal.invariant-loop-to
invariant-loop-to l = l.turns.items ≡ l.fn.turns.items ++ copies_from l.from l.to
