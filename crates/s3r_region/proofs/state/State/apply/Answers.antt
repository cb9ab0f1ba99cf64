use Rattle.std.proofs.Common.{sym, subst}
use Rattle.s3r_record.specs.declared.command.Command.{Command}
use Rattle.s3r_region.specs.Applies.{Applies}
use Rattle.s3r_region.proofs.state.State.apply.Goals as goal

pub returns : goal.returns
returns c = subst (λ (k : Command). Applies k c.args.self.now c.finish.new.self) (sym c.in-Finish.is) (c.finish.ensures c.in-Finish.body)
