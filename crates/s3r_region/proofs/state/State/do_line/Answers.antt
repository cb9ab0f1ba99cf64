use Rattle.std.proofs.Common.{sym, ◌∙◌}
use Rattle.s3r_region.proofs.LineWrites.{line-applied}
use Rattle.s3r_region.proofs.state.State.do_line.Goals as goal

pub returns : goal.returns
returns c =
    line-applied c.args.self.now c.write_line.new.self c.go_on.new.self c.args.job c.args.line c.in_ok-outcome.outcome c.in_ok-came.ensures.written
    c.go_on.ensures.kept c.write_line.ensures.above c.in_ok-outcome.ensures
    (λ h accepted came before. c.go_on.ensures.after c.args.self.now.regions c.args.self.now.region c.args.line h accepted
    (came ∙ sym c.in_ok-came.ensures.result) before)
