use Rattle.s3r_region.proofs.Waits.{settled-now, none-settled}
use Rattle.s3r_region.proofs.queues.Queues.settle.Goals as goal

pub returns-in-Some-clause-after : goal.returns-in-Some-clause-after
returns-in-Some-clause-after c r h ok a =
    settled-now r (record { regions = c.self.inside.regions; outbox = c.self.inside.outbox; inbox = c.self.inside.inbox }) c.args.self.now c.in-Some.claim.to
    c.from-to.result c.args.to c.args.number c.args.outcome c.claim.new.self c.settle.new.self c.self.view_is c.claim.ensures.same
    c.in-Some.ensures.found.1 c.from-to.ensures c.settle.ensures c.requires h ok a

pub returns-in-None-clause-after : goal.returns-in-None-clause-after
returns-in-None-clause-after c r h ok a =
    none-settled r (record { regions = c.self.inside.regions; outbox = c.self.inside.outbox; inbox = c.self.inside.inbox }) c.args.self.now c.from-to.result
    c.args.to c.args.number c.args.outcome c.self.view_is c.from-to.ensures c.requires c.in-None.ensures.none h ok a
