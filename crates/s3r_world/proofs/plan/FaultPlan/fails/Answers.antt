use Rattle.std.proofs.Common.{◌≡◌, rules, sym, ◌∙◌, subst}
use Rattle.s3r_world.specs.Planned.{after_call, IsQuiet}
use Rattle.s3r_world.proofs.Plans.{quiet_chosen, quiet_after}
use Rattle.s3r_world.proofs.plan.FaultPlan.fails.Goals as goal

pub returns-else-next-gt0-clause-quiet : goal.returns-else-next-gt0-clause-quiet
returns-else-next-gt0-clause-quiet c =
    let after : c.fail_next.new.self ≡ after_call c.args.side c.args.self.now = search rules in
    λ quiet. (c.chosen-chosen.ensures ∙ quiet_chosen c.args.self.now _ quiet, subst IsQuiet (sym after) (quiet_after c.args.self.now c.args.side quiet))
