use Rattle.std.proofs.lemmas.Result.{on_ok_weaker}
use Rattle.s3r_region.proofs.Applied.{removed}
use Rattle.s3r_region.proofs.state.State.remove.Goals as goal

pub returns : goal.returns
returns c = on_ok_weaker c.change.result
    (λ is. removed c.args.self.now c.change.new.self c.args.bucket.now c.args.key c.args.id c.clock-n.result c.new.result.items is c.new.ensures.items
    c.clock-n.ensures) c.change.ensures
