use Rattle.s3r_record.proofs.Lengths.{spelling_short}
use Rattle.s3r_record.proofs.laws.spelling_is_short.Goals as goal

pub returns : goal.returns
returns c = spelling_short
