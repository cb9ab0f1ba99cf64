use Rattle.s3r_history.proofs.ShortSends.{sent_short}
use Rattle.s3r_history.proofs.laws.sent_is_short.Goals as goal

pub returns : goal.returns
returns c = sent_short
