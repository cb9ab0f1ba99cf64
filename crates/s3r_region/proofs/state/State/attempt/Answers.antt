use Rattle.std.proofs.Common.{◌+◌, arith}
use Rattle.s3r_region.proofs.Given.{are-more}
use Rattle.s3r_region.proofs.Applied.{tried}
use Rattle.s3r_region.proofs.state.State.attempt.Goals as goal

pub invariant_of-self : goal.invariant_of-self
invariant_of-self c = (
  c.self.invariant.0,
  are-more c.self.inside.region c.self.inside.commands (c.self.inside.commands + 1) c.self.inside.buckets.items (omega arith) c.self.invariant.1,
)

pub returns : goal.returns
returns c =
    tried c.self.inside.region c.self.inside.commands c.self.inside.clock c.self.inside.buckets.items c.self.inside.queues c.attempt.new.self
    c.self.inside.jobs c.args.self.now
    c.args.to c.args.number c.self.view_is c.attempt.ensures.regions c.attempt.ensures.after
