use Rattle.s3r_journal.proofs.Fronts.{scanning_stands}
use Rattle.s3r_journal.proofs.laws.scanning_stands.Goals as goal

pub returns : goal.returns
returns c = scanning_stands
