use Rattle.std.proofs.Common.{◌++◌, length, sym, arith}
use Rattle.s3r_desk.specs.declared.copy_outcome.CopyOutcome.{CopyOutcome}
use Rattle.s3r_names.specs.declared.outcome.Outcome.{Outcome}
use Rattle.s3r_desk.proofs.CopyAccepted.{attempt_after, read_left, task_to}
use Rattle.s3r_desk.proofs.CopyStores.{is_due}
use Rattle.s3r_desk.proofs.CopyCarrying.{apart_where_missed}
use Rattle.s3r_desk.proofs.CopyTurning.{carried, carried_missed, carried_not}
use Rattle.s3r_desk.proofs.CopyDelivery.{cause_after, cause_as}
use Rattle.s3r_desk.proofs.copying.carry.Goals as goal

pub settle-requires-clause-fits : goal.settle-requires-clause-fits
settle-requires-clause-fits g c =
    task_to (length c.args.stores.now.items) c.args.from c.args.to c.args.due.number c.args.due.effect c.requires.to c.requires.few c.requires.fits

pub note_attempt-requires-clause-fits : goal.note_attempt-requires-clause-fits
note_attempt-requires-clause-fits g c =
    task_to (length c.args.stores.now.items) c.args.from c.args.to c.args.due.number c.args.due.effect c.requires.to c.requires.few c.requires.fits

pub note_attempt-requires-clause-read : goal.note_attempt-requires-clause-read
note_attempt-requires-clause-read g c =
    read_left c.args.stores.now.items c.requires.numbered c.args.from c.args.to c.requires.from c.requires.to c.deliver.new.stores.items c.requires.read_from
    (apart_where_missed c.args.from c.args.to c.in-Err.fault (sym c.if-is_missed.ensures)) c.in-Err.ensures.others

pub note_attempt-requires-clause-accepted : goal.note_attempt-requires-clause-accepted
note_attempt-requires-clause-accepted g c =
    attempt_after c.args.stores.now.items c.requires.numbered c.args.from c.args.to c.requires.from c.requires.to c.deliver.new.stores.items c.args.due
    c.requires.due (apart_where_missed c.args.from c.args.to c.in-Err.fault (sym c.if-is_missed.ensures)) c.in-Err.ensures.others

pub returns-in-Ok-clause-told : goal.returns-in-Ok-clause-told
returns-in-Ok-clause-told g c = λ told before keeps.
    let due = is_due before c.args.stores.now.items (g.W.World.outside c.args.world.now) keeps c.requires.numbered c.args.from c.args.to c.requires.from
    c.requires.to c.requires.read_from c.requires.read_to c.requires.compared c.args.due c.requires.due in
    let p = c.in-Ok.ensures.told told before keeps in
    carried (g.W.World.shape c.args.world.now).room c.args.from c.args.to before c.args.due due c.args.stores.now.items c.deliver.new.stores.items
    (g.W.World.outside c.args.world.now) (g.W.World.outside c.deliver.new.world) (g.W.World.faults c.args.world.now) (g.W.World.faults c.deliver.new.world)
    (length c.args.stores.now.items) c.in-Ok.ensures.counts
    c.settle.new.stores.items (g.W.World.outside c.settle.new.world) (g.W.World.faults c.settle.new.world) c.settle.ensures.counts
    (length c.deliver.new.stores.items) c.in-Ok.ensures.count (g.W.World.shape c.deliver.new.world).room (λ i v. (c.in-Ok.ensures.shape.room v) i)
    c.in-Ok.outcome c.settle.result p (c.settle.ensures.told told (p.events ++ before) p.keeps) c.settle.ensures.cause

pub returns-in-Ok-clause-cause : goal.returns-in-Ok-clause-cause
returns-in-Ok-clause-cause g c =
    cause_after (length c.deliver.new.stores.items) (length c.args.stores.now.items) c.settle.result (g.W.World.faults c.args.world.now)
    (g.W.World.faults c.deliver.new.world) (g.W.World.faults c.settle.new.world) (let same = c.in-Ok.ensures.count in omega (arith, same))
    c.in-Ok.ensures.counts c.settle.ensures.cause

pub returns-then-is_missed-clause-told : goal.returns-then-is_missed-clause-told
returns-then-is_missed-clause-told g c = λ told before keeps.
    let due = is_due before c.args.stores.now.items (g.W.World.outside c.args.world.now) keeps c.requires.numbered c.args.from c.args.to c.requires.from
    c.requires.to c.requires.read_from c.requires.read_to c.requires.compared c.args.due c.requires.due in
    let p = c.in-Err.ensures.told told before keeps in
    carried_missed (g.W.World.shape c.args.world.now).room c.args.from c.args.to before c.args.due due c.args.stores.now.items c.deliver.new.stores.items
    (g.W.World.outside c.args.world.now) (g.W.World.outside c.deliver.new.world) (g.W.World.faults c.args.world.now) (g.W.World.faults c.deliver.new.world)
    (length c.args.stores.now.items) c.in-Err.ensures.counts
    c.note_attempt.new.stores.items (g.W.World.outside c.note_attempt.new.world) (g.W.World.faults c.note_attempt.new.world) c.note_attempt.ensures.counts
    (length c.deliver.new.stores.items) c.in-Err.ensures.count (g.W.World.shape c.deliver.new.world).room (λ i v. (c.in-Err.ensures.shape.room v) i)
    c.in-Err.fault c.note_attempt.result (sym c.if-is_missed.ensures) p c.in-Err.ensures.cause
    (c.note_attempt.ensures.told told (p.events ++ before) p.keeps) c.note_attempt.ensures.cause

pub returns-then-is_missed-clause-cause : goal.returns-then-is_missed-clause-cause
returns-then-is_missed-clause-cause g c =
    cause_after (length c.deliver.new.stores.items) (length c.args.stores.now.items) c.note_attempt.result (g.W.World.faults c.args.world.now)
    (g.W.World.faults c.deliver.new.world) (g.W.World.faults c.note_attempt.new.world) (let same = c.in-Err.ensures.count in omega (arith, same))
    c.in-Err.ensures.counts c.note_attempt.ensures.cause

pub returns-else-is_missed-clause-told : goal.returns-else-is_missed-clause-told
returns-else-is_missed-clause-told g c = λ told before keeps.
    let due = is_due before c.args.stores.now.items (g.W.World.outside c.args.world.now) keeps c.requires.numbered c.args.from c.args.to c.requires.from
    c.requires.to c.requires.read_from c.requires.read_to c.requires.compared c.args.due c.requires.due in
    let p = c.in-Err.ensures.told told before keeps in
    carried_not (g.W.World.shape c.args.world.now).room c.args.from c.args.to before c.args.due due c.args.stores.now.items c.deliver.new.stores.items
    (g.W.World.outside c.args.world.now) (g.W.World.outside c.deliver.new.world) (g.W.World.faults c.args.world.now) (g.W.World.faults c.deliver.new.world)
    (length c.args.stores.now.items) c.in-Err.ensures.counts c.in-Err.fault (sym c.if-is_missed.ensures)
    p c.in-Err.ensures.cause

pub returns-else-is_missed-clause-cause : goal.returns-else-is_missed-clause-cause
returns-else-is_missed-clause-cause g c =
    cause_as Outcome CopyOutcome (length c.args.stores.now.items) c.in-Err.fault (g.W.World.faults c.args.world.now) (g.W.World.faults c.deliver.new.world)
    c.in-Err.ensures.cause
