use Rattle.s3r_journal.proofs.Fronts.{front_begins}
use Rattle.s3r_journal.proofs.laws.front_begins.Goals as goal

pub returns : goal.returns
returns c = front_begins
