use Rattle.std.proofs.Common.{ℕ, ◌<◌, length, Option, sym, ap, ◌∙◌, subst}
use Rattle.s3r_queue.specs.declared.inbox.Noted.{Noted}
use Rattle.s3r_queue.specs.Received as queue
use Rattle.s3r_history.specs.Deeds.{deeds}
use Rattle.s3r_history.specs.Tasks.{last_from}
use Rattle.s3r_store.proofs.Lawful.{region-of, regions-of, notes-of, held-after}
use Rattle.s3r_store.proofs.store.Store.arrival.Goals as goal

pub judge-requires-clause-there : goal.judge-requires-clause-there
judge-requires-clause-there c =
    let store = c.args.self.now in
    let lawful = store.lawful c.in-Some.held c.in-Some.is in
    subst (λ (n : ℕ). c.args.from < n) (sym (ap length c.inbox.ensures ∙ notes-of store.regions store.v c.in-Some.held lawful)) c.requires.there

pub returns : goal.returns
returns c = λ h is.
    let store = c.args.self.now in
    let held = c.in-Some.held in
    let lawful = store.lawful held c.in-Some.is in
    let after = held-after store held h c.in-Some.is is in
    let there = subst (λ (n : ℕ). c.args.from < n) (sym (regions-of store.regions store.v held lawful)) c.requires.there in
    c.judge.ensures
    ∙ ap (λ inbox. queue.arrival_of (queue.last_from inbox c.args.from) c.args.number) c.inbox.ensures
    ∙ ap (λ (o : Option Noted). queue.arrival_of o c.args.number) (after.queues.last c.args.from there)
    ∙ ap (λ (r : ℕ). queue.arrival_of (last_from (deeds r h) c.args.from) c.args.number) (region-of store.regions store.v held lawful)
