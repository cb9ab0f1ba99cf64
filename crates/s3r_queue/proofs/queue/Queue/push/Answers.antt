use Rattle.s3r_queue.proofs.InTurn.{pushed-so}
use Rattle.s3r_queue.proofs.queue.Queue.push.Goals as goal

pub invariant_of-self-2 : goal.invariant_of-self-2
invariant_of-self-2 g c =
    let queue = c.self.inside in
    let kept = c.self.invariant in
    pushed-so c.args.effect queue.tasks.items c.push.new.self.items queue.settled queue.answered kept.0 kept.1 kept.2 c.in_ok-push.ensures.items
