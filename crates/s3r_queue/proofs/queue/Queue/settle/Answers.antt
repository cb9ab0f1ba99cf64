use Rattle.std.proofs.Common.{ap, ◌∙◌, arith}
use Rattle.s3r_queue.specs.Tasks.{with_outcome, on_first}
use Rattle.s3r_queue.proofs.InTurn.{at-place, place-below, changed-at, settled-so}
use Rattle.s3r_queue.proofs.queue.Queue.settle.Goals as goal

pub index_mut-requires : goal.index_mut-requires
index_mut-requires g c =
    let queue = c.self.inside in
    let at = at-place queue.tasks.items c.args.self.now queue.settled c.self.view_is c.self.invariant.0 c.requires c.self.invariant.1 in
    place-below queue.tasks.items queue.settled queue.tasks.len at queue.tasks.ok.0

pub overflow_add-self : goal.overflow_add-self
overflow_add-self g c =
    let queue = c.self.inside in
    let at = at-place queue.tasks.items c.args.self.now queue.settled c.self.view_is c.self.invariant.0 c.requires c.self.invariant.1 in
    omega (arith, place-below queue.tasks.items queue.settled queue.tasks.len at queue.tasks.ok.0, queue.tasks.ok.1, queue.tasks.small)

pub invariant_of-self : goal.invariant_of-self
invariant_of-self g c =
    let queue = c.self.inside in
    let at = at-place queue.tasks.items c.args.self.now queue.settled c.self.view_is c.self.invariant.0 c.requires c.self.invariant.1 in
    settled-so c.args.outcome queue.tasks.items queue.settled c.index_mut.result.now c.come_to.new.task at c.index_mut.ensures.value c.come_to.ensures

pub returns : goal.returns
returns g c =
    let queue = c.self.inside in
    let at = at-place queue.tasks.items c.args.self.now queue.settled c.self.view_is c.self.invariant.0 c.requires c.self.invariant.1 in
    let changed = with_outcome c.args.outcome in
    changed-at changed queue.tasks.items queue.settled c.index_mut.result.now c.come_to.new.task at c.index_mut.ensures.value c.come_to.ensures
    ∙ ap (on_first changed) c.self.view_is
