use Rattle.std.proofs.lemmas.Result.{on_ok_weaker}
use Rattle.s3r_region.proofs.Applied.{put}
use Rattle.s3r_region.proofs.state.State.put.Goals as goal

pub returns : goal.returns
returns c =
    on_ok_weaker c.change.result
    (λ is. put c.args.self.now c.change.new.self c.args.bucket.now c.args.key c.args.tags c.args.hold c.args.class c.args.body c.in_ok-row.row
    c.next_stamp-stamp.result c.in_ok-sends.sends.items is c.in_ok-row.ensures
    c.next_stamp-stamp.ensures.stamp c.next_stamp-stamp.ensures.above c.in_ok-sends.ensures)
    c.change.ensures
