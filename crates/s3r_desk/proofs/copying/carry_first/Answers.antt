use Rattle.std.proofs.Common.{length, Ok, Err, refl, sym, ◌∙◌, ap, subst, arith}
use Rattle.s3r_desk.specs.declared.copy_outcome.CopyOutcome.{CopyOutcome}
use Rattle.s3r_desk.specs.declared.copy_outcome.CopyOutcome.TheVariants as outcomes
use Rattle.s3r_desk.specs.Comparing.{seen_fault}
use Rattle.s3r_desk.specs.Happened.{IsFirstDueAt}
use Rattle.s3r_desk.proofs.Disagreeing.{seen_disagree}
use Rattle.s3r_desk.proofs.CopyStores.{is_known, compared_is, is_compared, due_none}
use Rattle.s3r_desk.proofs.CopyTurning.{carries_none, carries_starved}
use Rattle.s3r_desk.proofs.CopyDelivery.{told_cause, told_no_volume, told_fails, told_no_damage, starved_no_damage}
use Rattle.s3r_desk.proofs.copying.carry_first.Goals as goal

pub returns-in-Some-clause-told : goal.returns-in-Some-clause-told
returns-in-Some-clause-told g c = λ told before keeps.
    let seen = sym (ap (λ l. seen_fault l c.args.from c.args.to) c.deref.ensures.value) ∙ sym c.pair_fault.ensures ∙ c.in-Some.is in
    carries_none (g.W.World.shape c.args.world.now).room c.args.from c.args.to before (Err c.in-Some.fault) c.args.stores.now.items
    (g.W.World.outside c.args.world.now) (g.W.World.faults c.args.world.now) keeps
    (told_fails (g.W.World.shape c.args.world.now).room c.args.from c.args.to before c.in-Some.fault
    (seen_disagree c.args.stores.now.items c.args.from c.args.to c.in-Some.fault seen)
    (is_known before c.args.stores.now.items (g.W.World.outside c.args.world.now) keeps c.args.from c.requires.from c.requires.read_from)
    (is_known before c.args.stores.now.items (g.W.World.outside c.args.world.now) keeps c.args.to c.requires.to c.requires.read_to)
    (sym (compared_is before c.args.stores.now.items (g.W.World.outside c.args.world.now) keeps c.requires.numbered c.args.from c.args.to c.requires.from
    c.requires.to c.requires.read_from c.requires.read_to) ∙ seen))
    (λ v. told_no_volume v c.in-Some.fault (seen_disagree c.args.stores.now.items c.args.from c.args.to c.in-Some.fault
    seen))

pub returns-in-Some-clause-cause : goal.returns-in-Some-clause-cause
returns-in-Some-clause-cause g c =
    let seen = sym (ap (λ l. seen_fault l c.args.from c.args.to) c.deref.ensures.value) ∙ sym c.pair_fault.ensures ∙ c.in-Some.is in
    told_cause CopyOutcome (length c.args.stores.now.items) c.in-Some.fault (g.W.World.faults c.args.world.now) (g.W.World.faults c.args.world.now)
    (seen_disagree c.args.stores.now.items c.args.from c.args.to c.in-Some.fault seen)

pub returns-in-Ok-None-clause-told : goal.returns-in-Ok-None-clause-told
returns-in-Ok-None-clause-told g c = λ told before keeps.
    let seen = sym (ap (λ l. seen_fault l c.args.from c.args.to) c.deref.ensures.value) ∙ sym c.pair_fault.ensures ∙ c.in_default.is in
    rw (c.first_due.ensures.stores, c.first_due.ensures.world) (carries_none (g.W.World.shape c.args.world.now).room c.args.from c.args.to before
    (Ok outcomes.Idle) c.args.stores.now.items (g.W.World.outside c.args.world.now) (g.W.World.faults c.args.world.now) keeps (
      is_compared before c.args.stores.now.items (g.W.World.outside c.args.world.now) keeps c.requires.numbered c.args.from c.args.to c.requires.from
          c.requires.to c.requires.read_from c.requires.read_to seen,
      due_none before c.args.stores.now.items (g.W.World.outside c.args.world.now) keeps c.requires.numbered c.args.from c.args.to c.requires.from
          c.requires.read_from (subst (λ o. IsFirstDueAt c.args.stores.now.items c.args.from c.args.to o) c.in-Ok-None.field-0-is c.in-Ok-None.ensures.due),
      refl,
    )
    (λ v. omega arith))

pub returns-in-Err-clause-told : goal.returns-in-Err-clause-told
returns-in-Err-clause-told g c = λ told before keeps.
    rw (c.first_due.ensures.stores, c.first_due.ensures.world) (carries_starved (g.W.World.shape c.args.world.now).room c.args.from c.args.to before
    c.in-Err.fault c.args.stores.now.items (g.W.World.outside c.args.world.now) (g.W.World.faults c.args.world.now) keeps c.in-Err.ensures.fault)

pub returns-in-Some-clause-undamaged : goal.returns-in-Some-clause-undamaged
returns-in-Some-clause-undamaged g c =
    let seen = sym (ap (λ l. seen_fault l c.args.from c.args.to) c.deref.ensures.value) ∙ sym c.pair_fault.ensures ∙ c.in-Some.is in
    told_no_damage c.in-Some.fault (seen_disagree c.args.stores.now.items c.args.from c.args.to c.in-Some.fault
    seen)

pub returns-in-Err-clause-undamaged : goal.returns-in-Err-clause-undamaged
returns-in-Err-clause-undamaged g c =
    starved_no_damage c.in-Err.fault c.in-Err.ensures.fault
