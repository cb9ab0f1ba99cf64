use Rattle.std.proofs.Common.{None, ap, ◌∙◌}
use Rattle.std.specs.List.{last_or}
use Rattle.s3r_api.proofs.LastEntry.{last_item}
use Rattle.s3r_api.proofs.listings.cut_after.Goals as goal

pub returns-then-listing : goal.returns-then-listing
returns-then-listing c = rw c.if-listing.true (c.last.ensures.value ∙ last_item c.as_slice.result.now ∙ ap (last_or None) c.as_slice.ensures)
