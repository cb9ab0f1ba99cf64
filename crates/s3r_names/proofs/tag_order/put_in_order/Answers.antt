use Rattle.std.proofs.Common.{◌-◌, length, arith}
use Rattle.s3r_names.proofs.TagOrder.{moved_more}
use Rattle.s3r_names.proofs.tag_order.put_in_order.Goals as goal

pub loop-start-preserved : goal.loop-start-preserved
loop-start-preserved c = moved_more c.args.tags.now c.loop-start.tags c.move_first.new.tags c.loop-start.start (c.loop-start.start - 1)
    (length c.loop-start.tags - (c.loop-start.start - 1)) (omega arith) (omega arith) (omega arith) c.loop-start.invariant c.move_first.ensures
