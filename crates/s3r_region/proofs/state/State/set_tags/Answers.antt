use Rattle.std.proofs.lemmas.Result.{on_ok_weaker}
use Rattle.s3r_region.proofs.Applied.{tagged}
use Rattle.s3r_region.proofs.state.State.set_tags.Goals as goal

pub returns-clause-applied : goal.returns-clause-applied
returns-clause-applied c =
    on_ok_weaker c.change.result
    (λ is. tagged c.args.self.now c.change.new.self c.args.bucket.now c.args.key c.args.id c.args.tags c.next_stamp-stamp.result c.in_ok-sends.sends.items is
    c.next_stamp-stamp.ensures.stamp c.next_stamp-stamp.ensures.above c.in_ok-sends.ensures)
    c.change.ensures
