use Rattle.s3r_drain.proofs.ManyTurns.{the_first_ended, the_last_are_pending, turns_settle, turns_settle_no_other, the_first_rises}
use Rattle.s3r_drain.proofs.Agreed.{turns_agree, all_agree}
use Rattle.s3r_drain.proofs.laws.turns_settle_the_first.Goals as goal

pub returns-clause-ended : goal.returns-clause-ended
returns-clause-ended c = the_first_ended

pub returns-clause-last : goal.returns-clause-last
returns-clause-last c = the_last_are_pending

pub returns-clause-settled : goal.returns-clause-settled
returns-clause-settled c = turns_settle

pub returns-clause-others : goal.returns-clause-others
returns-clause-others c = turns_settle_no_other

pub returns-clause-rises : goal.returns-clause-rises
returns-clause-rises c = the_first_rises

pub returns-clause-agree : goal.returns-clause-agree
returns-clause-agree c = turns_agree

pub returns-clause-all : goal.returns-clause-all
returns-clause-all c = all_agree
