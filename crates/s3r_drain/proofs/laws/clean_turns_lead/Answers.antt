use Rattle.s3r_drain.proofs.Leading.{clean_turn, turns_in_turn, turns_empty}
use Rattle.s3r_drain.proofs.Undisturbed.{undisturbed_clean}
use Rattle.s3r_drain.proofs.laws.clean_turns_lead.Goals as goal

pub returns-clause-turn : goal.returns-clause-turn
returns-clause-turn c = clean_turn

pub returns-clause-undisturbed : goal.returns-clause-undisturbed
returns-clause-undisturbed c = undisturbed_clean

pub returns-clause-row : goal.returns-clause-row
returns-clause-row c = turns_in_turn

pub returns-clause-empty : goal.returns-clause-empty
returns-clause-empty c = turns_empty
