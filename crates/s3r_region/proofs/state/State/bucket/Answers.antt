use Rattle.std.proofs.Common.{ap, ◌∙◌}
use Rattle.std.specs.Prelude.{find}
use Rattle.s3r_region.specs.Contents.{is_named}
use Rattle.s3r_region.proofs.Given.{if_found_ids}
use Rattle.s3r_region.proofs.state.State.bucket.Goals as goal

pub returns-clause-ids : goal.returns-clause-ids
returns-clause-ids c =
    if_found_ids c.self.inside.region c.self.inside.commands c.args.name.now c.self.inside.buckets.items c.bucket_named.result
    (c.bucket_named.ensures ∙ ap (find (is_named c.args.name.now)) c.deref.ensures.value) c.self.invariant.1
