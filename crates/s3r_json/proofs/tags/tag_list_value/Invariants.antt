use Rattle.std.proofs.Common.{◌≡◌, map, take}
use Rattle.serde_json.specs.View.{view}
use Rattle.s3r_json.specs.Tags.{tag_data}
use Rattle.s3r_json.proofs.tags.tag_list_value.Given as goal

abbrev pub invariant-loop-tag : goal.invariant-loop-tag
invariant-loop-tag l = map view l.list.items ≡ map tag_data (take l.tag-index l.tags)
