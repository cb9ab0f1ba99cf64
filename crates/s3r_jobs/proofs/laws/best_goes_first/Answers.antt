use Rattle.s3r_jobs.proofs.TurnLemmas.{best_is_best, makes_way_to_better}
use Rattle.s3r_jobs.proofs.laws.best_goes_first.Goals as goal

pub returns-clause-best : goal.returns-clause-best
returns-clause-best c = best_is_best

pub returns-clause-makes_way : goal.returns-clause-makes_way
returns-clause-makes_way c = makes_way_to_better
