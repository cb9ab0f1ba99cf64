use Rattle.std.proofs.Common.{◌≡◌, drop}
use Rattle.serde_json.specs.View.{items_view}
use Rattle.s3r_json.specs.Tags.{item_tags}
use Rattle.s3r_json.proofs.Lists.{after}
use Rattle.s3r_json.proofs.tags.item_tags.Given as goal

abbrev pub invariant-loop-item : goal.invariant-loop-item
invariant-loop-item l = after l.tags.items (item_tags (items_view (drop l.item-index l.list))) ≡ item_tags (items_view l.list)
