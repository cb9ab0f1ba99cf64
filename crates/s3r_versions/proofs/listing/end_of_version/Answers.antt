use Rattle.std.proofs.Common.{None, Some, is_some, sym, ap, ◌∙◌}
use Rattle.s3r_versions.specs.Lookup.{is_version}
use Rattle.s3r_versions.proofs.Behind.{any_there, drop-version}
use Rattle.s3r_versions.proofs.listing.end_of_version.Goals as goal

pub returns-in_err-place-clause-there : goal.returns-in_err-place-clause-there
returns-in_err-place-clause-there g c =
    ap is_some c.from_residual.ensures ∙ any_there (is_version c.args.key.now c.args.id) c.args.rows.now None
    (sym c.in_err-place.was ∙ c.place_of_version.ensures)

pub returns-clause-there : goal.returns-clause-there
returns-clause-there g c =
    any_there (is_version c.args.key.now c.args.id) c.args.rows.now (Some c.in_ok-place.place) (sym c.in_ok-place.was ∙ c.place_of_version.ensures)

pub returns-clause-rest : goal.returns-clause-rest
returns-clause-rest g c =
    drop-version c.args.key.now c.args.id c.args.rows.now c.in_ok-place.place c.requires.listed c.requires.once
    (sym (sym c.in_ok-place.was ∙ c.place_of_version.ensures))
