use Rattle.s3r_http.proofs.Unique.{some_text}
use Rattle.s3r_http.proofs.laws.some_text.Goals as goal

pub returns : goal.returns
returns c = some_text
