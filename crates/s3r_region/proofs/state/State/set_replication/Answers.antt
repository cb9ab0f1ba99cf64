use Rattle.std.proofs.lemmas.Result.{on_ok_weaker}
use Rattle.s3r_region.proofs.Applied.{replicated}
use Rattle.s3r_region.proofs.state.State.set_replication.Goals as goal

pub returns : goal.returns
returns c = on_ok_weaker c.change.result
    (λ is. replicated c.args.self.now c.change.new.self c.args.name.now c.args.config c.args.regions c.clock-n.result c.new.result.items is c.new.ensures.items
    c.clock-n.ensures) c.change.ensures
