use Rattle.std.proofs.Common.{◌≡◌, sym, subst, arith}
use Rattle.std.specs.Prelude.{slice_get}
use Rattle.s3r_store.specs.declared.store.Store.{Store}
use Rattle.s3r_store.specs.Knows.{IsStoreAfter}
use Rattle.s3r_desk.specs.Copying.{due_of}
use Rattle.s3r_desk.proofs.Places.{get_at, one_of}
use Rattle.s3r_desk.proofs.CopyAccepted.{fits_at}
use Rattle.s3r_desk.proofs.copying.first_due.Goals as goal

pub first_due-requires-clause-read : goal.first_due-requires-clause-read
first_due-requires-clause-read g c =
    c.requires.read c.index_mut.result.now
    (get_at c.args.stores.now.items c.args.from c.index_mut.result.now c.requires.from c.index_mut.ensures.value)

pub first_due-requires-clause-region : goal.first_due-requires-clause-region
first_due-requires-clause-region g c =
    let number = c.requires.numbered.v c.args.from c.index_mut.result.now
    (get_at c.args.stores.now.items c.args.from c.index_mut.result.now c.requires.from c.index_mut.ensures.value) in
    omega (arith, number, c.requires.from, c.requires.few)

pub returns-in-Ok-clause-due : goal.returns-in-Ok-clause-due
returns-in-Ok-clause-due g c = λ x get h after.
    let one = one_of (slice_get c.args.stores.now.items c.args.from) c.index_mut.result.now x
    (get_at c.args.stores.now.items c.args.from c.index_mut.result.now c.requires.from c.index_mut.ensures.value) get in
    sym (subst (λ (s : Store). IsStoreAfter s h → c.in-Ok.due ≡ due_of s.v c.args.to h) one (c.in-Ok.ensures.due h) after)

pub returns-in-Ok-clause-fits : goal.returns-in-Ok-clause-fits
returns-in-Ok-clause-fits g c =
    fits_at c.index_mut.result.now.v c.args.from c.in-Ok.due (c.requires.numbered.v c.args.from c.index_mut.result.now
    (get_at c.args.stores.now.items c.args.from c.index_mut.result.now c.requires.from c.index_mut.ensures.value)) c.in-Ok.ensures.fits
