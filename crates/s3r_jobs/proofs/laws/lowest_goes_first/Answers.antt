use Rattle.s3r_jobs.proofs.TurnLemmas.{lowest_is_lowest}
use Rattle.s3r_jobs.proofs.laws.lowest_goes_first.Goals as goal

pub returns : goal.returns
returns c = lowest_is_lowest
