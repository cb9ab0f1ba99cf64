use Rattle.s3r_rules.proofs.OneDecides.{one_decides}
use Rattle.s3r_rules.proofs.laws.one_rule_decides.Goals as goal

pub returns : goal.returns
returns c = one_decides
