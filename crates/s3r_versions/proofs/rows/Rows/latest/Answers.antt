use Rattle.std.proofs.Common.{find, ap, ◌∙◌}
use Rattle.s3r_versions.specs.Lookup.{is_of_key, latest}
use Rattle.s3r_versions.specs.Contents.{Contents}
use Rattle.s3r_versions.proofs.Latest.{first-is-latest}
use Rattle.s3r_versions.proofs.rows.Rows.latest.Goals as goal

pub returns : goal.returns
returns g c =
    c.first_of_key.ensures
    ∙ ap (find (is_of_key {B = g.row.B.Denot} c.args.key.now)) c.deref.ensures.value
    ∙ first-is-latest {B = g.row.B.Denot} c.args.key.now c.self.inside.rows.items c.self.invariant.0
    ∙ ap (λ (seen : Contents g.row.B.Denot). latest c.args.key.now seen.rows) c.self.view_is
