use Rattle.std.proofs.Common.{◌≡◌, true, refl, ap, ◌∙◌}
use Rattle.s3r_names.specs.Tags.{is_tag_set}
use Rattle.s3r_record.specs.Reading.{unread}
use Rattle.s3r_record.proofs.TagLaws.{set_read, made_of, not_refused}
use Rattle.s3r_record.proofs.tag_fields.tag_set_of.Goals as goal

pub unreachable-requires : goal.unreachable-requires
unreachable-requires c =
    let passed : is_tag_set c.in_ok-tags.tags ≡ true = set_read (unread c.args.left) (c.in_ok-tags.tags, unread c.in_ok-tags.rest) c.in_ok-tags.ensures in
    not_refused (is_tag_set c.into_vec.result.items) _ c.in-Err.field-0 c.into_vec.result.items (ap is_tag_set c.into_vec.ensures ∙ passed) c.in-Err.ensures

pub returns : goal.returns
returns c =
    let passed : is_tag_set c.in_ok-tags.tags ≡ true = set_read (unread c.args.left) (c.in_ok-tags.tags, unread c.in_ok-tags.rest) c.in_ok-tags.ensures in
    let same : c.in-Ok.set ≡ c.into_vec.result.items = made_of (is_tag_set c.into_vec.result.items) _ c.into_vec.result.items c.in-Ok.set
    (ap is_tag_set c.into_vec.ensures ∙ passed) c.in-Ok.ensures in
    rw (c.in_ok-tags.ensures, same, c.into_vec.ensures) refl
