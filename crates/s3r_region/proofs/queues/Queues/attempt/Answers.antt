use Rattle.s3r_region.proofs.Waits.{tried-now, none-tried}
use Rattle.s3r_region.proofs.queues.Queues.attempt.Goals as goal

pub returns-in-Some-clause-after : goal.returns-in-Some-clause-after
returns-in-Some-clause-after c r h ok a =
    tried-now r (record { regions = c.self.inside.regions; outbox = c.self.inside.outbox; inbox = c.self.inside.inbox }) c.args.self.now c.in-Some.claim.to
    c.from-to.result c.args.to c.args.number c.claim.new.self c.attempt.new.self c.self.view_is c.claim.ensures.same
    c.in-Some.ensures.found.1 c.from-to.ensures c.attempt.ensures.changed c.requires h ok a

pub returns-in-None-clause-after : goal.returns-in-None-clause-after
returns-in-None-clause-after c r h ok a =
    none-tried r (record { regions = c.self.inside.regions; outbox = c.self.inside.outbox; inbox = c.self.inside.inbox }) c.args.self.now c.from-to.result
    c.args.to c.args.number c.self.view_is c.from-to.ensures c.requires c.in-None.ensures.none h ok a
