use Rattle.std.proofs.Common.{sym, ap, ◌∙◌}
use Rattle.std.proofs.lemmas.List.{drop_all}
use Rattle.s3r_versions.specs.Listing.{entry_of}
use Rattle.s3r_versions.proofs.Pages.{none_yet, passed_over, one_more, cut_page, last_page}
use Rattle.s3r_versions.proofs.listing.page_from.Goals as goal

pub loop-place-init : goal.loop-place-init
loop-place-init g c = none_yet c.args.prefix.now c.args.rows.now c.args.start c.args.limit c.new-entries.result.items c.new-entries.ensures.items

pub loop-place-preserved-then-not-has_prefix : goal.loop-place-preserved-then-not-has_prefix
loop-place-preserved-then-not-has_prefix g c =
    passed_over c.args.prefix.now c.args.rows.now c.args.start c.args.limit c.loop-place.place c.loop-place.entries.items c.index-rows-place.result
    c.loop-place.invariant c.loop-place-test.true c.index-rows-place.is
    (sym c.has_prefix.ensures ∙ c.if-not-has_prefix.true)

pub returns-then-len-limit : goal.returns-then-len-limit
returns-then-len-limit g c =
    cut_page c.args.prefix.now c.args.rows.now c.args.start c.args.limit c.loop-place.place c.loop-place.entries.items c.index-rows-place.result
    c.loop-place.invariant c.loop-place-test.true c.index-rows-place.is
    (sym c.has_prefix.ensures ∙ c.if-not-has_prefix.false)
    (sym c.loop-place.entries.ok.0 ∙ sym c.len.ensures ∙ c.if-len-limit.true)

pub loop-place-preserved : goal.loop-place-preserved
loop-place-preserved g c =
    let row = c.index-rows-place.result in
    one_more c.args.prefix.now c.args.rows.now c.args.start c.args.limit c.loop-place.place c.loop-place.entries.items c.push.new.self.items row
    c.in_ok-entry_at.field-0 c.loop-place.invariant c.loop-place-test.true c.index-rows-place.is
    (sym c.has_prefix.ensures ∙ c.if-not-has_prefix.false)
    (c.in_ok-entry_at.ensures row ∙ ap (entry_of c.args.rows.now) (sym c.index-rows-place.is))
    (λ full. c.if-len-limit.false (c.len.ensures ∙ c.loop-place.entries.ok.0 ∙ full))
    c.in_ok-push.ensures.items

pub returns : goal.returns
returns g c =
    last_page c.args.prefix.now c.args.rows.now c.args.start c.args.limit c.loop-place.place c.loop-place.entries.items c.loop-place.invariant
    (drop_all c.loop-place.place c.args.rows.now c.loop-place-test.false)
