use Rattle.std.proofs.Common.{subst}
use Rattle.std.specs.Prelude.{Option}
use Rattle.s3r_history.specs.declared.refusal.Refusal.{Refusal}
use Rattle.s3r_region.specs.Denies.{Accepts}
use Rattle.s3r_region.proofs.Views.{causes-same}
use Rattle.s3r_region.proofs.state.State.accepts.Goals as goal

pub returns : goal.returns
returns c h a = subst (λ (o : Option Refusal). Accepts o c.may_come.result) (causes-same c.args.self.now h a c.args.command.now) c.may_come.ensures
