use Rattle.std.proofs.Common.{◌∙◌, ap}
use Rattle.s3r_versions.specs.Contents.{on_version, with_hold}
use Rattle.s3r_region.proofs.Receives.{is-there, met-there, marker-met, object-met}
use Rattle.s3r_region.proofs.change.receive.Goals as goal

pub returns-then-row-clause-rows : goal.returns-then-row-clause-rows
returns-then-row-clause-rows c =
    marker-met c.args.row c.args.rows.now.rows c.if-row.true
    ∙ met-there c.args.row c.args.rows.now.rows c.find.result c.find.ensures (is-there c.find.result c.is_none.result c.is_none.ensures c.if-is_none.false)

pub returns-clause-rows : goal.returns-clause-rows
returns-clause-rows c =
    c.set_hold.ensures.rows
    ∙ ap (on_version c.args.row.key c.args.row.id (with_hold c.args.row.hold_stamp c.args.row.hold)) c.set_tags.ensures.rows
    ∙ object-met c.args.row c.args.rows.now.rows c.if-row.false
    ∙ met-there c.args.row c.args.rows.now.rows c.find.result c.find.ensures (is-there c.find.result c.is_none.result c.is_none.ensures c.if-is_none.false)
