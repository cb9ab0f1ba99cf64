use Rattle.std.proofs.Common.{ap, ◌∙◌, map, take_all}
use Rattle.s3r_json.specs.Tags.{tag_data}
use Rattle.s3r_json.proofs.Printed.{listed}
use Rattle.s3r_json.proofs.tags.tag_list_value.Goals as goal

pub returns : goal.returns
returns c =
    let all = take_all c.loop-tag.tag-index c.args.tags.now c.loop-tag-test.false in
    listed c.loop-tag.list c.args.tags.now (c.loop-tag.invariant ∙ ap (map tag_data) all)
