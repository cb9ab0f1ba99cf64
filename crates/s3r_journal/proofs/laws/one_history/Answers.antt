use Rattle.s3r_journal.proofs.Fronts.{one_history}
use Rattle.s3r_journal.proofs.laws.one_history.Goals as goal

pub returns : goal.returns
returns c = one_history
