use Rattle.std.specs.Prelude.{slice_get}
use Rattle.std.proofs.Common.{length, refl, sym, ap, ◌∙◌}
use Rattle.std.proofs.lemmas.Option.{slice_get_read, slice_get_past}
use Rattle.s3r_queue.specs.Queues.{to_region}
use Rattle.s3r_store.proofs.FirstPending.{first-there, first-few}
use Rattle.s3r_store.proofs.due.first_task.Goals as goal

pub returns-in-Some-clause-task : goal.returns-in-Some-clause-task
returns-in-Some-clause-task c =
    sym (slice_get_read c.tasks.result.now (length c.tasks.result.now) c.counts-settled.result.2 c.in-Some.task.now refl c.in-Some.ensures.lookup.3.0
    c.in-Some.ensures.lookup.1)
    ∙ ap (λ tasks. slice_get tasks c.counts-settled.result.2) (c.tasks.ensures ∙ ap (λ outbox. to_region outbox c.args.to) c.outbox.ensures)
    ∙ first-there (to_region c.args.state.now.outbox c.args.to) c.counts-settled.result.2 c.counts-settled.ensures.settled

pub returns-in-Some-clause-few : goal.returns-in-Some-clause-few
returns-in-Some-clause-few c = first-few (to_region c.args.state.now.outbox c.args.to) c.in-Some.task.now (returns-in-Some-clause-task c)

pub returns-in-None-clause-task : goal.returns-in-None-clause-task
returns-in-None-clause-task c =
    sym (slice_get_past c.tasks.result.now c.counts-settled.result.2 c.in-None.ensures.lookup.3)
    ∙ ap (λ tasks. slice_get tasks c.counts-settled.result.2) (c.tasks.ensures ∙ ap (λ outbox. to_region outbox c.args.to) c.outbox.ensures)
    ∙ first-there (to_region c.args.state.now.outbox c.args.to) c.counts-settled.result.2 c.counts-settled.ensures.settled
