use Rattle.s3r_http.proofs.OneCause.{one_cause}
use Rattle.s3r_http.proofs.laws.one_cause.Goals as goal

pub returns : goal.returns
returns c = one_cause
