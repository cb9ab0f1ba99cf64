use Rattle.s3r_desk.proofs.Disagreeing.{agreeing_is_not_told}
use Rattle.s3r_desk.proofs.laws.agreeing_is_not_told.Goals as goal

pub returns : goal.returns
returns c = agreeing_is_not_told
