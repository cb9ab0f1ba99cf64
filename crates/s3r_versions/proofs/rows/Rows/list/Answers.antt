use Rattle.std.proofs.Common.{List, drop, filter, option_copied, sym, ap, ◌∙◌}
use Rattle.s3r_versions.specs.declared.row.Row.{Row}
use Rattle.s3r_versions.specs.Contents.{Contents}
use Rattle.s3r_versions.specs.Listing.{has_prefix, is_after, page_of, listing}
use Rattle.s3r_versions.proofs.Pages.{page-listing}
use Rattle.s3r_versions.proofs.rows.Rows.list.Goals as goal

pub returns-in_ok-page_from-in-Some-clause-ok : goal.returns-in_ok-page_from-in-Some-clause-ok
returns-in_ok-page_from-in-Some-clause-ok g c =
    let rows = c.self.inside.rows.items in
    let prefix = c.args.prefix.now in
    let place = option_copied c.args.after in
    let start = c.in-Some.start in
    let from = sym (ap (drop start) c.deref.ensures.value)
    ∙ c.in-Some.ensures.rest
    ∙ ap (λ (rs : List (Row g.row.B.Denot)). filter (is_after place rs) rs) c.deref.ensures.value in
    c.in_ok-page_from-in-Some.ensures
    ∙ ap (λ (rs : List (Row g.row.B.Denot)). page_of c.args.limit rs (filter (has_prefix prefix) (drop start rs))) c.deref-in-Some.ensures.value
    ∙ page-listing prefix place c.args.limit start rows from
    ∙ ap (λ (seen : Contents g.row.B.Denot). listing prefix place c.args.limit seen.rows) c.self.view_is
