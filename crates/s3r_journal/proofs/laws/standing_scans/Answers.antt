use Rattle.s3r_journal.proofs.Fronts.{standing_scans}
use Rattle.s3r_journal.proofs.laws.standing_scans.Goals as goal

pub returns : goal.returns
returns c = standing_scans
