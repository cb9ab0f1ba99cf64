use Rattle.std.proofs.Common.{◌≡◌, ℕ, ◌+◌, ◌<◌, ◌≤◌, nat_lt, true, false, ap, ◌∙◌, arith, lt-ltb}
use Rattle.std.proofs.lemmas.Bool.Decides.{nat_tests}
use Rattle.s3r_queue.specs.Tasks.{one_attempt_more, on_first}
use Rattle.s3r_queue.proofs.InTurn.{at-place, place-below, here-found, changed-at, tried-so, tried-more}
use Rattle.s3r_queue.proofs.queue.Queue.attempt.Goals as goal

pub index_mut-requires : goal.index_mut-requires
index_mut-requires g c =
    let queue = c.self.inside in
    let at = at-place queue.tasks.items c.args.self.now queue.settled c.self.view_is c.self.invariant.0 c.requires c.self.invariant.1 in
    place-below queue.tasks.items queue.settled queue.tasks.len at queue.tasks.ok.0

pub try_again-attempts-requires : goal.try_again-attempts-requires
try_again-attempts-requires g c =
    let queue = c.self.inside in
    let at = at-place queue.tasks.items c.args.self.now queue.settled c.self.view_is c.self.invariant.0 c.requires c.self.invariant.1 in
    (here-found queue.tasks.items queue.settled c.index_mut.result.now at c.index_mut.ensures.value).0

pub overflow_add-self : goal.overflow_add-self
overflow_add-self g c =
    let queue = c.self.inside in
    let at = at-place queue.tasks.items c.args.self.now queue.settled c.self.view_is c.self.invariant.0 c.requires c.self.invariant.1 in
    omega (arith, place-below queue.tasks.items queue.settled queue.tasks.len at queue.tasks.ok.0, queue.tasks.ok.1, queue.tasks.small)

many : (n m : ℕ) → m ≡ n + 1 → 8 ≤ m → nat_lt (n + 1) 8 ≡ false
many n m e le = grind (arith, nat_tests)

few : (n m : ℕ) → m ≡ n + 1 → m < 8 → nat_lt (n + 1) 8 ≡ true
few n m e lt = lt-ltb (n + 1) 8 (omega arith)

pub invariant_of-self : goal.invariant_of-self
invariant_of-self g c =
    let queue = c.self.inside in
    let at = at-place queue.tasks.items c.args.self.now queue.settled c.self.view_is c.self.invariant.0 c.requires c.self.invariant.1 in
    let task = c.index_mut.result.now in
    let tried = c.try_again-attempts in
    let eight = many task.attempts tried.result tried.ensures.so_far c.if-attempts-ge-MOST_ATTEMPTS.true in
    let was = c.self.invariant.2 in
    tried-so queue.tasks.items queue.settled queue.answered task tried.new.task false at was c.index_mut.ensures.value tried.ensures.changed eight

pub invariant_of-self-else-attempts-ge-MOST_ATTEMPTS : goal.invariant_of-self-else-attempts-ge-MOST_ATTEMPTS
invariant_of-self-else-attempts-ge-MOST_ATTEMPTS g c =
    let queue = c.self.inside in
    let at = at-place queue.tasks.items c.args.self.now queue.settled c.self.view_is c.self.invariant.0 c.requires c.self.invariant.1 in
    let task = c.index_mut.result.now in
    let tried = c.try_again-attempts in
    let less = few task.attempts tried.result tried.ensures.so_far c.if-attempts-ge-MOST_ATTEMPTS.false in
    let was = c.self.invariant.2 in
    tried-so queue.tasks.items queue.settled queue.answered task tried.new.task true at was c.index_mut.ensures.value tried.ensures.changed less

pub returns-then-attempts-ge-MOST_ATTEMPTS-clause-changed : goal.returns-then-attempts-ge-MOST_ATTEMPTS-clause-changed
returns-then-attempts-ge-MOST_ATTEMPTS-clause-changed g c =
    let queue = c.self.inside in
    let at = at-place queue.tasks.items c.args.self.now queue.settled c.self.view_is c.self.invariant.0 c.requires c.self.invariant.1 in
    let tried = c.try_again-attempts in
    changed-at one_attempt_more queue.tasks.items queue.settled c.index_mut.result.now tried.new.task at c.index_mut.ensures.value tried.ensures.changed
    ∙ ap (on_first one_attempt_more) c.self.view_is

pub returns-else-attempts-ge-MOST_ATTEMPTS-clause-changed : goal.returns-else-attempts-ge-MOST_ATTEMPTS-clause-changed
returns-else-attempts-ge-MOST_ATTEMPTS-clause-changed g c =
    let queue = c.self.inside in
    let at = at-place queue.tasks.items c.args.self.now queue.settled c.self.view_is c.self.invariant.0 c.requires c.self.invariant.1 in
    let tried = c.try_again-attempts in
    changed-at one_attempt_more queue.tasks.items queue.settled c.index_mut.result.now tried.new.task at c.index_mut.ensures.value tried.ensures.changed
    ∙ ap (on_first one_attempt_more) c.self.view_is

pub returns-then-attempts-ge-MOST_ATTEMPTS-clause-so_far : goal.returns-then-attempts-ge-MOST_ATTEMPTS-clause-so_far
returns-then-attempts-ge-MOST_ATTEMPTS-clause-so_far g c =
    let queue = c.self.inside in
    let at = at-place queue.tasks.items c.args.self.now queue.settled c.self.view_is c.self.invariant.0 c.requires c.self.invariant.1 in
    let tried = c.try_again-attempts in
    let task = c.index_mut.result.now in
    tried-more queue.tasks.items c.args.self.now queue.settled tried.result task c.self.view_is at c.index_mut.ensures.value tried.ensures.so_far

pub returns-else-attempts-ge-MOST_ATTEMPTS-clause-so_far : goal.returns-else-attempts-ge-MOST_ATTEMPTS-clause-so_far
returns-else-attempts-ge-MOST_ATTEMPTS-clause-so_far g c =
    let queue = c.self.inside in
    let at = at-place queue.tasks.items c.args.self.now queue.settled c.self.view_is c.self.invariant.0 c.requires c.self.invariant.1 in
    let tried = c.try_again-attempts in
    let task = c.index_mut.result.now in
    tried-more queue.tasks.items c.args.self.now queue.settled tried.result task c.self.view_is at c.index_mut.ensures.value tried.ensures.so_far
