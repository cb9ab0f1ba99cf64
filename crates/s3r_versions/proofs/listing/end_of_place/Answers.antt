use Rattle.std.proofs.Common.{◌≡◌, IfSome, Option, drop, filter, sym, subst}
use Rattle.s3r_names.specs.declared.version.VersionId.{VersionId}
use Rattle.s3r_versions.specs.Listing.{is_behind}
use Rattle.s3r_versions.proofs.listing.end_of_place.Goals as goal

pub returns-in-Some-clause-rest : goal.returns-in-Some-clause-rest
returns-in-Some-clause-rest g c =
    let rows = c.args.rows.now in
    subst (λ (id : Option VersionId). IfSome c.end_of_version.result (λ end. drop end rows ≡ filter (is_behind c.args.place.now.key id rows) rows))
    (sym c.in-Some.is) c.end_of_version.ensures.rest
