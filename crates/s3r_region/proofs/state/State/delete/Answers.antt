use Rattle.std.proofs.Common.{◌+◌, ap, ◌∙◌}
use Rattle.s3r_region.specs.Contents.{are_given}
use Rattle.s3r_region.proofs.Given.{given-deleted}
use Rattle.s3r_region.proofs.Applied.{deleted}
use Rattle.s3r_region.proofs.state.State.delete.Goals as goal

pub invariant_of-self : goal.invariant_of-self
invariant_of-self c = (
  c.self.invariant.0,
  ap (are_given c.self.inside.region (c.self.inside.commands + 1)) c.remove_bucket.ensures
      ∙ given-deleted c.self.inside.region c.self.inside.commands c.args.name.now c.self.inside.buckets.items c.self.invariant.1,
)

pub returns : goal.returns
returns c =
    deleted c.self.inside.region c.self.inside.commands c.self.inside.clock c.self.inside.buckets.items c.remove_bucket.new.buckets.items
    c.self.inside.queues c.self.inside.jobs
    c.args.self.now c.args.name.now c.self.view_is c.remove_bucket.ensures
