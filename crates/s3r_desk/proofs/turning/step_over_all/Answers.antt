use Rattle.std.proofs.Common.{◌++◌, length}
use Rattle.s3r_world.specs.Moments.{falls_then}
use Rattle.s3r_desk.specs.declared.request.Answer.{Answer}
use Rattle.s3r_desk.proofs.BetweenTwo.{cause_as, cause_since}
use Rattle.s3r_desk.proofs.Responding.{damage_as, responds_failed, responds_stepped}
use Rattle.s3r_desk.proofs.turning.step_over_all.Goals as goal

pub returns-in-Err-clause-told : goal.returns-in-Err-clause-told
returns-in-Err-clause-told g c = λ told before keeps.
    let n = length c.args.stores.now.items in
    let old = g.W.World.outside c.args.world.now in
    let counts = g.W.World.faults c.args.world.now in
    let later = g.W.World.faults c.touch_all.new.world in
    responds_failed before c.args.request (g.W.World.shape c.args.world.now).room c.args.stores.now.items c.touch_all.new.stores.items old
    (g.W.World.outside c.touch_all.new.world) counts later n c.in-Err.ensures.counts c.requires.step c.in-Err.fault
    (c.in-Err.ensures.told told before keeps) (damage_as n (Unit {0}) Answer old.as_read c.in-Err.fault (c.in-Err.ensures.damage told))
    (cause_as n (Unit {0}) Answer c.in-Err.fault counts later c.in-Err.ensures.cause)

pub returns-in-Ok-clause-told : goal.returns-in-Ok-clause-told
returns-in-Ok-clause-told g c = λ told before keeps.
    let n = length c.args.stores.now.items in
    let touches = c.in-Ok.ensures.told told before keeps in
    let counts = g.W.World.faults c.args.world.now in
    let touched = g.W.World.faults c.touch_all.new.world in
    let later = g.W.World.faults c.answer.new.world in
    responds_stepped before c.args.request (g.W.World.shape c.args.world.now).room c.args.stores.now.items c.touch_all.new.stores.items
    (g.W.World.outside c.args.world.now) (g.W.World.outside c.touch_all.new.world) counts later n
    (falls_then counts touched later c.in-Ok.ensures.counts c.answer.ensures.counts) c.requires.step touches c.answer.new.stores.items
    (g.W.World.outside c.answer.new.world) (g.W.World.shape c.touch_all.new.world).room c.answer.result c.in-Ok.ensures.count
    (λ i v. (c.in-Ok.ensures.shape.room v) i) c.in-Ok.ensures.read (c.answer.ensures.told told (touches.touched ++ before) touches.keeps)
    (cause_since (length c.touch_all.new.stores.items) n c.answer.result counts touched later c.in-Ok.ensures.count c.in-Ok.ensures.counts
    c.answer.ensures.cause)
