use Rattle.s3r_rules.proofs.Growing.{config_is}
use Rattle.s3r_rules.proofs.config.config_with.Goals as goal

pub invariant_of-result : goal.invariant_of-result
invariant_of-result c = config_is c.args.drafts.now c.in_ok-rules.rules.items c.requires.some c.requires.few c.in_ok-rules.ensures
