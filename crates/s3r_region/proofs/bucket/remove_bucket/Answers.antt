use Rattle.std.proofs.Common.{ap, sym, ◌∙◌, position}
use Rattle.s3r_region.specs.Contents.{is_named}
use Rattle.s3r_region.proofs.Places.{remove_at, without_first-none}
use Rattle.s3r_region.proofs.bucket.remove_bucket.Goals as goal

pub returns-in-Some : goal.returns-in-Some
returns-in-Some c =
    c.remove-bucket.ensures.items
    ∙ remove_at (is_named c.args.name.now) c.args.buckets.now.items c.in-Some.place
    (sym (ap (position (is_named c.args.name.now)) c.deref.ensures.value) ∙ sym c.place_of.ensures ∙ c.in-Some.is)

pub returns-in_default : goal.returns-in_default
returns-in_default c =
    sym (without_first-none (is_named c.args.name.now) c.args.buckets.now.items
    (sym (ap (position (is_named c.args.name.now)) c.deref.ensures.value) ∙ sym c.place_of.ensures ∙ c.in_default.is))
