use Rattle.std.proofs.Common.{ap, ◌∙◌}
use Rattle.s3r_rules.specs.Choice.{fits, chosen}
use Rattle.s3r_rules.specs.Writes.{seen}
use Rattle.s3r_rules.proofs.Choosing.{choice_by_priority}
use Rattle.s3r_rules.proofs.choice.choice.Goals as goal

pub returns-in-Some : goal.returns-in-Some
returns-in-Some c =
    let test = fits c.args.to.now (seen c.args.write.now) in
    c.with_priority.ensures ∙ ap (chosen test c.args.rules.now) c.in-Some.ensures ∙ choice_by_priority test c.args.rules.now

pub returns-in-None : goal.returns-in-None
returns-in-None c =
    let test = fits c.args.to.now (seen c.args.write.now) in
    ap (chosen test c.args.rules.now) c.in-None.ensures ∙ choice_by_priority test c.args.rules.now
