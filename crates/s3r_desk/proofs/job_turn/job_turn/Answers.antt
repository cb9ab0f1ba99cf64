use Rattle.std.proofs.Common.{◌++◌, length}
use Rattle.s3r_desk.proofs.JobTurning.{turn_unread, turn_made}
use Rattle.s3r_desk.proofs.job_turn.job_turn.Goals as goal

pub returns-in-Ok-clause-told : goal.returns-in-Ok-clause-told
returns-in-Ok-clause-told g c = λ told before keeps.
    let p = c.in-Ok.ensures.told told before keeps in
    turn_made (length c.args.stores.now.items) (g.W.World.shape c.args.world.now).room c.args.region before c.args.stores.now.items
    c.touch_region.new.stores.items (g.W.World.outside c.args.world.now) (g.W.World.outside c.touch_region.new.world)
    (g.W.World.faults c.args.world.now) (g.W.World.faults c.touch_region.new.world) (length c.args.stores.now.items) c.in-Ok.ensures.counts
    p c.step_or_idle.result c.step_or_idle.new.stores.items (g.W.World.outside c.step_or_idle.new.world) (g.W.World.faults c.step_or_idle.new.world)
    c.step_or_idle.ensures.counts (length c.touch_region.new.stores.items) (length c.touch_region.new.stores.items)
    (g.W.World.shape c.touch_region.new.world).room c.in-Ok.ensures.count (λ i v. (c.in-Ok.ensures.shape.room v) i) c.in-Ok.ensures.count
    (c.step_or_idle.ensures.told told (p.events ++ before) p.keeps) c.step_or_idle.ensures.cause

pub returns-in-Err-clause-told : goal.returns-in-Err-clause-told
returns-in-Err-clause-told g c = λ told before keeps.
    turn_unread (length c.args.stores.now.items) (g.W.World.shape c.args.world.now).room c.args.region before c.args.stores.now.items
    c.touch_region.new.stores.items (g.W.World.outside c.args.world.now) (g.W.World.outside c.touch_region.new.world)
    (g.W.World.faults c.args.world.now) (g.W.World.faults c.touch_region.new.world) (length c.args.stores.now.items) c.in-Err.ensures.counts
    c.in-Err.fault (c.in-Err.ensures.told told before keeps) c.in-Err.ensures.cause
