use Rattle.s3r_drain.proofs.OneTurn.{nothing_due, one_turn}
use Rattle.s3r_drain.proofs.ManyTurns.{turns_drain}
use Rattle.s3r_drain.proofs.laws.turns_drain.Goals as goal

pub returns-clause-due : goal.returns-clause-due
returns-clause-due c = nothing_due

pub returns-clause-one : goal.returns-clause-one
returns-clause-one c = one_turn

pub returns-clause-drain : goal.returns-clause-drain
returns-clause-drain c = turns_drain
