use Rattle.s3r_journal.proofs.Fronts.{one_end}
use Rattle.s3r_journal.proofs.laws.one_end.Goals as goal

pub returns : goal.returns
returns c = one_end
