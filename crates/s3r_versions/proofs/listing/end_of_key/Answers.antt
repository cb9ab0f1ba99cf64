use Rattle.std.proofs.Common.{length, unwrap_or, ap, ◌∙◌}
use Rattle.s3r_versions.proofs.Behind.{drop-key}
use Rattle.s3r_versions.proofs.listing.end_of_key.Goals as goal

pub returns : goal.returns
returns g c =
    drop-key c.args.key.now c.args.rows.now c.unwrap_or.result c.requires
    (c.unwrap_or.ensures ∙ ap (λ o. unwrap_or o (length c.args.rows.now)) c.place_above.ensures)
