use Rattle.std.proofs.Common.{length, IfSome, refl, sym, subst, inl, inr}
use Rattle.s3r_history.specs.declared.due.Due.{Due}
use Rattle.s3r_record.specs.Spelling.{IsCommand}
use Rattle.s3r_record.specs.declared.command.Command.TheVariants as command
use Rattle.s3r_desk.specs.Happened.{IsFirstDueAt}
use Rattle.s3r_desk.proofs.CopyAccepted.{attempt_due, task_to}
use Rattle.s3r_desk.proofs.CopyStores.{is_known, unknown_at, due_is, due_none}
use Rattle.s3r_desk.proofs.CopyDelivery.{starved_no_damage}
use Rattle.s3r_desk.proofs.CopyTurning.{missed_first, misses_none, misses_starved}
use Rattle.s3r_desk.proofs.copying.miss.Goals as goal

pub note_attempt-requires-clause-fits : goal.note_attempt-requires-clause-fits
note_attempt-requires-clause-fits g c =
    let fits = subst (λ o. IfSome o (λ (due : Due). IsCommand (command.Receive c.args.from due.number due.effect))) c.in-Ok-Some.field-0-is
    c.in-Ok-Some.ensures.fits in
    task_to (length c.args.stores.now.items) c.args.from c.args.to c.in-Ok-Some.due.number c.in-Ok-Some.due.effect c.requires.to c.requires.few fits

pub note_attempt-requires-clause-accepted : goal.note_attempt-requires-clause-accepted
note_attempt-requires-clause-accepted g c =
    rw c.first_due.ensures.stores (attempt_due c.args.stores.now.items c.requires.numbered c.args.from c.args.to c.requires.from c.requires.to
    c.in-Ok-Some.due (subst (λ o. IsFirstDueAt c.args.stores.now.items c.args.from c.args.to o) c.in-Ok-Some.field-0-is c.in-Ok-Some.ensures.due))

pub returns-in-Ok-Some-clause-told : goal.returns-in-Ok-Some-clause-told
returns-in-Ok-Some-clause-told g c = λ told before keeps.
    missed_first (g.W.World.shape c.args.world.now).room c.args.from c.args.to before c.in-Ok-Some.due c.args.stores.now.items
    c.note_attempt.new.stores.items (g.W.World.outside c.args.world.now) (g.W.World.outside c.note_attempt.new.world) (g.W.World.faults c.args.world.now)
    (g.W.World.faults c.note_attempt.new.world) (length c.args.stores.now.items) c.note_attempt.result c.requires.apart
    (is_known before c.args.stores.now.items (g.W.World.outside c.args.world.now) keeps c.args.from c.requires.from c.requires.read_from)
    (unknown_at before c.args.stores.now.items (g.W.World.outside c.args.world.now) keeps c.args.to c.requires.to c.requires.unread)
    (due_is before c.args.stores.now.items (g.W.World.outside c.args.world.now) keeps c.requires.numbered c.args.from c.args.to c.in-Ok-Some.due
    c.requires.from c.requires.read_from
    (subst (λ o. IsFirstDueAt c.args.stores.now.items c.args.from c.args.to o) c.in-Ok-Some.field-0-is c.in-Ok-Some.ensures.due))
    (rw (sym c.first_due.ensures.stores, sym c.first_due.ensures.world) (c.note_attempt.ensures.told told before
    (rw (c.first_due.ensures.stores, c.first_due.ensures.world) keeps)))
    (rw (sym c.first_due.ensures.world) c.note_attempt.ensures.counts)
    (rw (sym c.first_due.ensures.stores, sym c.first_due.ensures.world) c.note_attempt.ensures.cause)

pub returns-in-Ok-None-clause-told : goal.returns-in-Ok-None-clause-told
returns-in-Ok-None-clause-told g c = λ told before keeps.
    rw (c.first_due.ensures.stores, c.first_due.ensures.world) (misses_none (g.W.World.shape c.args.world.now).room c.args.from c.args.to before
    c.args.stores.now.items (g.W.World.outside c.args.world.now) (g.W.World.faults c.args.world.now) keeps
    (is_known before c.args.stores.now.items (g.W.World.outside c.args.world.now) keeps c.args.from c.requires.from c.requires.read_from)
    (unknown_at before c.args.stores.now.items (g.W.World.outside c.args.world.now) keeps c.args.to c.requires.to c.requires.unread)
    (due_none before c.args.stores.now.items (g.W.World.outside c.args.world.now) keeps c.requires.numbered c.args.from c.args.to c.requires.from
    c.requires.read_from (subst (λ o. IsFirstDueAt c.args.stores.now.items c.args.from c.args.to o) c.in-Ok-None.field-0-is c.in-Ok-None.ensures.due)))

pub returns-in-Ok-None-clause-cause : goal.returns-in-Ok-None-clause-cause
returns-in-Ok-None-clause-cause g c = inl refl

pub returns-in-Ok-Some-clause-cause : goal.returns-in-Ok-Some-clause-cause
returns-in-Ok-Some-clause-cause g c = inr (rw (sym c.first_due.ensures.stores, sym c.first_due.ensures.world) c.note_attempt.ensures.cause)

pub returns-in-Err-clause-told : goal.returns-in-Err-clause-told
returns-in-Err-clause-told g c = λ told before keeps.
    rw (c.first_due.ensures.stores, c.first_due.ensures.world) (misses_starved (g.W.World.shape c.args.world.now).room c.args.from c.args.to before
    c.in-Err.fault c.args.stores.now.items (g.W.World.outside c.args.world.now) (g.W.World.faults c.args.world.now) keeps c.in-Err.ensures.fault)

pub returns-in-Err-clause-undamaged : goal.returns-in-Err-clause-undamaged
returns-in-Err-clause-undamaged g c =
    starved_no_damage c.in-Err.fault c.in-Err.ensures.fault
