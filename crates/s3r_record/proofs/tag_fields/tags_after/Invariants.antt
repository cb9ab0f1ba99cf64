use Rattle.std.proofs.Common.{◌≡◌, None}
use Rattle.s3r_record.specs.Reading.{unread}
use Rattle.s3r_record.specs.ReadingTags.{tags_after}
use Rattle.s3r_record.proofs.TagLoop.{go_on}
use Rattle.s3r_record.proofs.tag_fields.tags_after.Given as goal

abbrev pub invariant-loop : goal.invariant-loop
invariant-loop l = go_on l.rule l.tags.items l.count l.counter (unread l.rest) ≡ tags_after l.rule l.count None (unread l.left)
