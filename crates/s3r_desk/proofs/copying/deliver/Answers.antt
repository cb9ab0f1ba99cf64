use Rattle.std.proofs.Common.{◌≡◌, ◌<◌, sym, ◌∙◌, subst}
use Rattle.std.specs.Prelude.{slice_get}
use Rattle.s3r_history.specs.Words.{History}
use Rattle.s3r_history.specs.Deeds.{judge}
use Rattle.s3r_store.specs.declared.store.Store.{Store}
use Rattle.s3r_store.specs.Knows.{IsStoreAfter}
use Rattle.s3r_desk.proofs.Places.{get_at, one_of}
use Rattle.s3r_desk.proofs.CopyAccepted.{settle_due, receive_new, no_task_behind, settles_after, read_after}
use Rattle.s3r_desk.proofs.CopyDelivery.{delivered_again, delivered_new, delivered_not}
use Rattle.s3r_desk.proofs.copying.deliver.Goals as goal

pub arrival-requires-clause-read : goal.arrival-requires-clause-read
arrival-requires-clause-read g c =
    c.requires.read_to c.index.result.now (get_at c.args.stores.now.items c.args.to c.index.result.now c.requires.to c.index.ensures)

pub arrival-requires-clause-number : goal.arrival-requires-clause-number
arrival-requires-clause-number g c = c.requires.fits.0.above

pub arrival-requires-clause-there : goal.arrival-requires-clause-there
arrival-requires-clause-there g c =
    subst (λ n. c.args.from < n) (sym (c.requires.numbered.regions c.args.to c.index.result.now
    (get_at c.args.stores.now.items c.args.to c.index.result.now c.requires.to c.index.ensures))) c.requires.from

pub judge-outcome-requires : goal.judge-outcome-requires
judge-outcome-requires g c = record {
  read = c.requires.read_to c.index-in-New.result.now
      (get_at c.args.stores.now.items c.args.to c.index-in-New.result.now c.requires.to c.index-in-New.ensures);
}

pub commit_own-requires-clause-accepted : goal.commit_own-requires-clause-accepted
commit_own-requires-clause-accepted g c =
    receive_new c.args.stores.now.items c.requires.numbered c.args.from c.args.to c.requires.from c.requires.to c.index.result.now c.args.due.number
    c.args.due.effect (get_at c.args.stores.now.items c.args.to c.index.result.now c.requires.to c.index.ensures) c.requires.fits.0.above
    (λ h after. sym c.in-New.is ∙ c.arrival.ensures h after)

pub unreachable-requires : goal.unreachable-requires
unreachable-requires g c =
    no_task_behind c.args.stores.now.items c.requires.numbered c.args.from c.args.to c.requires.from c.requires.to c.index.result.now _ c.args.due
    (get_at c.args.stores.now.items c.args.to c.index.result.now c.requires.to c.index.ensures) c.requires.read_from c.requires.read_to
    c.requires.compared c.requires.due (λ h after. sym c.in-Behind.is ∙ c.arrival.ensures h after)

pub returns-in-Again-clause-told : goal.returns-in-Again-clause-told
returns-in-Again-clause-told g c = λ told before keeps.
    delivered_again (g.W.World.shape c.args.world.now).room c.args.from c.args.to c.args.due before c.args.stores.now.items
    (g.W.World.outside c.args.world.now) keeps c.requires.numbered c.requires.read_to c.index.result.now
    (get_at c.args.stores.now.items c.args.to c.index.result.now c.requires.to c.index.ensures) c.arrival.result c.arrival.ensures
    c.in-Again.outcome c.in-Again.is

pub returns-in-Again-clause-accepted : goal.returns-in-Again-clause-accepted
returns-in-Again-clause-accepted g c =
    settle_due c.args.stores.now.items c.requires.numbered c.args.from c.args.to c.requires.from c.requires.to c.args.due c.in-Again.outcome c.requires.due

pub returns-in-Ok-clause-told : goal.returns-in-Ok-clause-told
returns-in-Ok-clause-told g c = λ told before keeps.
    delivered_new (g.W.World.shape c.args.world.now).room c.args.from c.args.to c.args.due before c.args.stores.now.items
    (g.W.World.outside c.args.world.now) keeps c.requires.numbered c.requires.read_to c.index.result.now
    (get_at c.args.stores.now.items c.args.to c.index.result.now c.requires.to c.index.ensures) c.arrival.result c.arrival.ensures
    c.commit_own.new.stores.items (g.W.World.outside c.commit_own.new.world) c.in-New.is c.judge-outcome.result
    (subst (λ (store : Store). (h : History) → IsStoreAfter store h → c.judge-outcome.result ≡ judge store.v h c.args.due.effect)
    (one_of (slice_get c.args.stores.now.items c.args.to) c.index-in-New.result.now c.index.result.now
    (get_at c.args.stores.now.items c.args.to c.index-in-New.result.now c.requires.to c.index-in-New.ensures)
    (get_at c.args.stores.now.items c.args.to c.index.result.now c.requires.to c.index.ensures)) c.judge-outcome.ensures)
    (c.in-Ok.ensures.told told before keeps)

pub returns-in-Ok-clause-accepted : goal.returns-in-Ok-clause-accepted
returns-in-Ok-clause-accepted g c =
    settles_after c.args.stores.now.items c.requires.numbered c.args.from c.args.to c.requires.from c.requires.to c.commit_own.new.stores.items c.args.due
    c.requires.due c.requires.read_from c.in-Ok.ensures.numbered c.in-Ok.ensures.count c.in-Ok.ensures.goes_on c.in-Ok.ensures.others c.judge-outcome.result

pub returns-in-Ok-clause-read : goal.returns-in-Ok-clause-read
returns-in-Ok-clause-read g c =
    read_after c.args.stores.now.items c.requires.numbered c.args.from c.args.to c.requires.from c.requires.to c.commit_own.new.stores.items c.args.due
    c.requires.due c.requires.read_from c.in-Ok.ensures.numbered c.in-Ok.ensures.count c.in-Ok.ensures.goes_on c.in-Ok.ensures.others

pub returns-in-Err-clause-told : goal.returns-in-Err-clause-told
returns-in-Err-clause-told g c = λ told before keeps.
    delivered_not (g.W.World.shape c.args.world.now).room c.args.from c.args.to c.args.due before c.args.stores.now.items
    (g.W.World.outside c.args.world.now) keeps c.requires.numbered c.requires.read_to c.index.result.now
    (get_at c.args.stores.now.items c.args.to c.index.result.now c.requires.to c.index.ensures) c.arrival.result c.arrival.ensures
    c.commit_own.new.stores.items (g.W.World.outside c.commit_own.new.world) c.in-New.is c.in-Err.fault (c.in-Err.ensures.told told before keeps)
