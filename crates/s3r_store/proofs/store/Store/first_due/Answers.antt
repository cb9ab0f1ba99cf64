use Rattle.std.proofs.Common.{◌<◌, ◌^◌, ap, ◌∙◌, subst}
use Rattle.s3r_history.specs.Deeds.{deeds}
use Rattle.s3r_history.specs.Due.{first_due}
use Rattle.s3r_store.specs.Stores.{state_of}
use Rattle.s3r_store.specs.Pending.{seen_due}
use Rattle.s3r_store.proofs.Lawful.{region-of, state-of, held-after}
use Rattle.s3r_store.proofs.FirstPending.{due-is, due-fits, store-may-end}
use Rattle.s3r_store.proofs.store.Store.first_due.Goals as goal

pub returns-clause-due : goal.returns-clause-due
returns-clause-due g c = λ h after.
    let store = c.args.self.now in
    let held = state-of store c.in-Some-state.state.now (c.in-Some-state.ensures ∙ ap state_of c.in_ok-bytes.ensures.store) in
    c.in_ok-due_with.ensures.due
    ∙ ap (λ s. seen_due s c.args.to) held.2
    ∙ due-is held.0.state h c.args.to (held-after store held.0 h held.1 after)
    ∙ ap (λ r. first_due h (deeds r h) c.args.to) (region-of store.regions store.v held.0 (store.lawful held.0 held.1))

pub returns-clause-fits : goal.returns-clause-fits
returns-clause-fits g c =
    let store = c.args.self.now in
    let held = state-of store c.in-Some-state.state.now (c.in-Some-state.ensures ∙ ap state_of c.in_ok-bytes.ensures.store) in
    due-fits store.regions store.v held.0 c.args.to c.in_ok-due_with.field-0 c.requires.region
    (subst (λ s. s.commands < 2 ^ 64) held.2 c.are_counted.ensures)
    (store.lawful held.0 held.1)
    (c.in_ok-due_with.ensures.due ∙ ap (λ s. seen_due s c.args.to) held.2)
    c.in_ok-due_with.ensures.named c.in_ok-due_with.ensures.small

pub returns-clause-ends : goal.returns-clause-ends
returns-clause-ends g c =
    let store = c.args.self.now in
    let held = state-of store c.in-Some-state.state.now (c.in-Some-state.ensures ∙ ap state_of c.in_ok-bytes.ensures.store) in
    store-may-end store held.0 c.args.to c.in_ok-due_with.field-0 held.1 (c.in_ok-due_with.ensures.due ∙ ap (λ s. seen_due s c.args.to) held.2)
