use Rattle.std.proofs.Common.{◌≡◌, None, Ok, ap, subst, ◌∙◌}
use Rattle.std.proofs.lemmas.Result.{err_from_is_err_and}
use Rattle.std.specs.Prelude.{option_copied}
use Rattle.s3r_record.specs.Reading.{Fails, unread}
use Rattle.s3r_record.specs.ReadingTags.{tag_at, tags_after}
use Rattle.s3r_record.proofs.TagLoop.{last_of, goes_on, ends, is_done}
use Rattle.s3r_record.proofs.tag_fields.tags_after.Goals as goal

pub returns-in_err-tag : goal.returns-in_err-tag
returns-in_err-tag c =
    let before : option_copied c.last.result ≡ last_of c.loop.tags.items = c.last.ensures.value ∙ ap last_of c.deref.ensures.value in
    let fails = subst (λ tag. Fails c.in_err-tag.field-0.0 (tag_at c.args.rule tag (unread c.loop.rest))) before c.in_err-tag.ensures in
    let p = err_from_is_err_and c.from_residual.result c.from_residual.ensures.1 in
    rw (p.1, p.2) (ends c.in_err-tag.field-0.0 c.args.rule c.loop.tags.items c.args.count c.loop.counter (unread c.loop.rest)
    (tags_after c.args.rule c.args.count None (unread c.args.left)) c.loop-test.true fails c.loop.invariant)

pub loop-preserved : goal.loop-preserved
loop-preserved c =
    let before : option_copied c.last.result ≡ last_of c.loop.tags.items = c.last.ensures.value ∙ ap last_of c.deref.ensures.value in
    let read = subst (λ tag. tag_at c.args.rule tag (unread c.loop.rest) ≡ Ok (c.in_ok-tag.tag, unread c.in_ok-tag.after)) before c.in_ok-tag.ensures in
    rw c.in_ok-push.ensures.items (goes_on c.args.rule c.loop.tags.items c.args.count c.loop.counter (unread c.loop.rest) c.in_ok-tag.tag
    (unread c.in_ok-tag.after) (tags_after c.args.rule c.args.count None (unread c.args.left)) c.loop-test.true read c.loop.invariant)

pub returns : goal.returns
returns c = is_done c.args.rule c.loop.tags.items c.args.count c.loop.counter (unread c.loop.rest)
    (tags_after c.args.rule c.args.count None (unread c.args.left)) c.loop-test.false c.loop.invariant
