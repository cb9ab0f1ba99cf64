use Rattle.std.proofs.Common.{nat_cmp, sym, ap₂, ◌∙◌}
use Rattle.std.specs.Cmp.Lexicographic.{slice_cmp}
use Rattle.s3r_names.specs.Stamp.{is_before}
use Rattle.s3r_versions.proofs.ListingOrder.{comes_before-by}
use Rattle.s3r_versions.proofs.row.comes_before.Goals as goal

pub returns-in-Equal : goal.returns-in-Equal
returns-in-Equal g c =
    c.is_before.ensures
    ∙ ap₂ is_before c.first_stamp.ensures c.first_stamp-in-Equal.ensures
    ∙ sym (comes_before-by c.args.first.now c.args.second.now _ (c.in-Equal.ensures
    ∙ ap₂ (slice_cmp nat_cmp) c.as_bytes.ensures.spelled c.as_bytes-2.ensures.spelled))

pub returns-in-Greater : goal.returns-in-Greater
returns-in-Greater g c =
    sym (comes_before-by c.args.first.now c.args.second.now _ (c.in-Greater.ensures
    ∙ ap₂ (slice_cmp nat_cmp) c.as_bytes.ensures.spelled c.as_bytes-2.ensures.spelled))
