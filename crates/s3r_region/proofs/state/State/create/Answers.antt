use Rattle.std.proofs.Common.{◌+◌, [], ◌∷◌, ◌++◌, ap, ◌∙◌}
use Rattle.s3r_region.specs.declared.bucket.Bucket.{Bucket}
use Rattle.s3r_region.specs.Contents.{are_given}
use Rattle.s3r_region.proofs.Given.{given-created}
use Rattle.s3r_region.proofs.Applied.{created}
use Rattle.s3r_region.proofs.state.State.create.Goals as goal

pub invariant_of-self-2 : goal.invariant_of-self-2
invariant_of-self-2 c =
    let made = c.in_ok-push.ensures.items ∙ ap (λ (b : Bucket). c.self.inside.buckets.items ++ b ∷ []) c.new.ensures in (
      c.self.invariant.0,
      ap (are_given c.self.inside.region (c.self.inside.commands + 1)) made
          ∙ given-created c.self.inside.region c.self.inside.commands c.args.name c.args.locked c.self.inside.buckets.items c.self.invariant.1,
    )

pub returns : goal.returns
returns c =
    created c.self.inside.region c.self.inside.commands c.self.inside.clock c.self.inside.buckets.items c.push.new.self.items c.self.inside.queues
    c.self.inside.jobs
    c.args.self.now c.args.name c.args.locked c.self.view_is
    (c.in_ok-push.ensures.items ∙ ap (λ (b : Bucket). c.self.inside.buckets.items ++ b ∷ []) c.new.ensures)
