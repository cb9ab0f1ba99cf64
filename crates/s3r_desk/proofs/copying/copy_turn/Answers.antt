use Rattle.std.proofs.Common.{◌≡◌, ◌⊎◌, ℕ, ◌++◌, length, Err, sym, ◌∙◌, subst, arith}
use Rattle.s3r_desk.specs.declared.fault.DeskFault.TheVariants as faults
use Rattle.s3r_desk.specs.Responds.{HasCause}
use Rattle.s3r_desk.proofs.CopyDelivery.{damage_none, missed_at, missed_cause}
use Rattle.s3r_desk.proofs.CopyWhole.{sender_unread, receiver_unread, turn_missed, turned}
use Rattle.s3r_desk.proofs.copying.copy_turn.Goals as goal

pub returns-in-Err-clause-told : goal.returns-in-Err-clause-told
returns-in-Err-clause-told g c = λ told before keeps.
    sender_unread (g.W.World.shape c.args.world.now).room c.args.from c.args.to before c.args.stores.now.items c.touch_region.new.stores.items
    (g.W.World.outside c.args.world.now) (g.W.World.outside c.touch_region.new.world) (g.W.World.faults c.args.world.now)
    (g.W.World.faults c.touch_region.new.world) (length c.args.stores.now.items)
    c.in-Err.ensures.counts c.in-Err.ensures.count c.in-Err.fault (c.in-Err.ensures.told told before keeps) c.in-Err.ensures.cause

pub returns-in-Ok-touch_region-clause-told : goal.returns-in-Ok-touch_region-clause-told
returns-in-Ok-touch_region-clause-told g c = λ told before keeps.
    let p = c.in-Ok.ensures.told told before keeps in
    let one = c.in-Ok.ensures.count in
    let q = c.in-Ok-touch_region.ensures.told told (p.events ++ before) p.keeps in
    turned (g.W.World.shape c.args.world.now).room c.args.from c.args.to before c.args.stores.now.items c.touch_region.new.stores.items
    (g.W.World.outside c.args.world.now) (g.W.World.outside c.touch_region.new.world) (g.W.World.faults c.args.world.now)
    (g.W.World.faults c.touch_region.new.world) (length c.args.stores.now.items)
    c.in-Ok.ensures.counts one p (c.in-Ok.ensures.looks told)
    c.touch_region-in-Ok.new.stores.items (g.W.World.outside c.touch_region-in-Ok.new.world) (g.W.World.faults c.touch_region-in-Ok.new.world)
    c.in-Ok-touch_region.ensures.counts c.in-Ok-touch_region.ensures.count (length c.touch_region.new.stores.items)
    c.carry_first.result c.carry_first.new.stores.items (g.W.World.outside c.carry_first.new.world) (g.W.World.faults c.carry_first.new.world)
    (g.W.World.shape c.touch_region-in-Ok.new.world).room (λ i v. (c.in-Ok-touch_region.ensures.shape.room v ∙ c.in-Ok.ensures.shape.room v) i) q
    (c.carry_first.ensures.told told (q.events ++ (p.events ++ before)) q.keeps)

pub returns-then-is_missed-clause-told : goal.returns-then-is_missed-clause-told
returns-then-is_missed-clause-told g c = λ told before keeps.
    let p = c.in-Ok.ensures.told told before keeps in
    let one = c.in-Ok.ensures.count in
    let q = c.in-Err-touch_region.ensures.told told (p.events ++ before) p.keeps in
    turn_missed (g.W.World.shape c.args.world.now).room c.args.from c.args.to before c.args.stores.now.items c.touch_region.new.stores.items
    (g.W.World.outside c.args.world.now) (g.W.World.outside c.touch_region.new.world) (g.W.World.faults c.args.world.now)
    (g.W.World.faults c.touch_region.new.world) (length c.args.stores.now.items)
    c.in-Ok.ensures.counts one p (c.in-Ok.ensures.looks told)
    c.touch_region-in-Ok.new.stores.items (g.W.World.outside c.touch_region-in-Ok.new.world) (g.W.World.faults c.touch_region-in-Ok.new.world)
    c.in-Err-touch_region.ensures.counts c.in-Err-touch_region.ensures.count (length c.touch_region.new.stores.items)
    c.miss.result c.miss.new.stores.items (g.W.World.outside c.miss.new.world) (g.W.World.faults c.miss.new.world)
    (g.W.World.shape c.touch_region-in-Ok.new.world).room (λ i v. (c.in-Err-touch_region.ensures.shape.room v ∙ c.in-Ok.ensures.shape.room v) i)
    c.in-Err-touch_region.fault
    (sym c.if-is_missed.ensures) q c.in-Err-touch_region.ensures.cause (c.miss.ensures.told told (q.events ++ (p.events ++ before)) q.keeps)

pub returns-else-is_missed-clause-told : goal.returns-else-is_missed-clause-told
returns-else-is_missed-clause-told g c = λ told before keeps.
    let p = c.in-Ok.ensures.told told before keeps in
    let one = c.in-Ok.ensures.count in
    let q = c.in-Err-touch_region.ensures.told told (p.events ++ before) p.keeps in
    receiver_unread (g.W.World.shape c.args.world.now).room c.args.from c.args.to before c.args.stores.now.items c.touch_region.new.stores.items
    (g.W.World.outside c.args.world.now) (g.W.World.outside c.touch_region.new.world) (g.W.World.faults c.args.world.now)
    (g.W.World.faults c.touch_region.new.world) (length c.args.stores.now.items)
    c.in-Ok.ensures.counts one p (c.in-Ok.ensures.looks told)
    c.touch_region-in-Ok.new.stores.items (g.W.World.outside c.touch_region-in-Ok.new.world) (g.W.World.faults c.touch_region-in-Ok.new.world)
    c.in-Err-touch_region.ensures.counts c.in-Err-touch_region.ensures.count (length c.touch_region.new.stores.items)
    c.in-Err-touch_region.fault (sym c.if-is_missed.ensures) q c.in-Err-touch_region.ensures.cause

pub returns-in-Ok-touch_region-clause-damage : goal.returns-in-Ok-touch_region-clause-damage
returns-in-Ok-touch_region-clause-damage g c = λ told.
    damage_none (length c.args.stores.now.items) (g.W.World.outside c.args.world.now).as_read c.carry_first.result c.carry_first.ensures.undamaged

pub returns-then-is_missed-clause-damage : goal.returns-then-is_missed-clause-damage
returns-then-is_missed-clause-damage g c = λ told.
    damage_none (length c.args.stores.now.items) (g.W.World.outside c.args.world.now).as_read c.miss.result c.miss.ensures.undamaged

pub returns-then-is_missed-clause-cause : goal.returns-then-is_missed-clause-cause
returns-then-is_missed-clause-cause g c =
    let two = c.in-Err-touch_region.ensures.count in
    let one = c.in-Ok.ensures.count in
    missed_cause (length c.touch_region.new.stores.items) (length c.args.stores.now.items) c.args.to c.in-Err-touch_region.fault c.miss.result
    (g.W.World.faults c.args.world.now) (g.W.World.faults c.touch_region.new.world) (g.W.World.faults c.touch_region-in-Ok.new.world)
    (g.W.World.faults c.miss.new.world) (omega (arith, one)) c.requires.to c.in-Ok.ensures.counts c.in-Err-touch_region.ensures.counts
    c.miss.ensures.counts (missed_at c.args.from c.args.to c.in-Err-touch_region.fault (sym c.if-is_missed.ensures) c.in-Err-touch_region.ensures.fails)
    c.in-Err-touch_region.ensures.cause
    (subst (λ (n : ℕ). (c.miss.result ≡ Err (faults.Volume c.args.to)) ⊎ HasCause n c.miss.result (g.W.World.faults c.touch_region-in-Ok.new.world)
    (g.W.World.faults c.miss.new.world)) two c.miss.ensures.cause)
