use Rattle.s3r_desk.proofs.Leaving.{all_leave}
use Rattle.s3r_desk.proofs.laws.no_region_is_missing.Goals as goal

pub returns : goal.returns
returns c = all_leave
