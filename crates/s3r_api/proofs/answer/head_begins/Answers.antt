use Rattle.s3r_api.proofs.Whole.{begins}
use Rattle.s3r_api.proofs.answer.head_begins.Goals as goal

pub returns : goal.returns
returns c = begins
