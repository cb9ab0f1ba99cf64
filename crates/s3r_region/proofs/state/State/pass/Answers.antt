use Rattle.std.proofs.Common.{◌+◌, arith}
use Rattle.s3r_region.proofs.Given.{are-more}
use Rattle.s3r_region.proofs.state.State.pass.Goals as goal

pub invariant_of-self : goal.invariant_of-self
invariant_of-self c = (
  c.self.invariant.0,
  are-more c.self.inside.region c.self.inside.commands (c.self.inside.commands + 1) c.self.inside.buckets.items (omega arith) c.self.invariant.1,
)
