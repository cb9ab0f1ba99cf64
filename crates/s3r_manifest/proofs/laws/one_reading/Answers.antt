use Rattle.s3r_manifest.proofs.Meanings.{one_reading}
use Rattle.s3r_manifest.proofs.laws.one_reading.Goals as goal

pub returns : goal.returns
returns c = one_reading
