use Rattle.std.proofs.Common.{not}
use Rattle.std.proofs.lemmas.Slice.Zip.{either_empty_from_Zip}
use Rattle.s3r_api.specs.Listings.{marker_data, version_data}
use Rattle.s3r_api.proofs.Pairs.{all_made}
use Rattle.s3r_api.proofs.listings.entry_values.Goals as goal

pub returns-clause-markers : goal.returns-clause-markers
returns-clause-markers c =
    let over = either_empty_from_Zip _ c.next.new.self _ c.in-None.is c.next.ensures.steps in
    all_made (λ shown. shown.0.marker) marker_data _ _ _ _ over c.loop-entry.invariant.markers

pub returns-clause-versions : goal.returns-clause-versions
returns-clause-versions c =
    let over = either_empty_from_Zip _ c.next.new.self _ c.in-None.is c.next.ensures.steps in
    all_made (λ shown. not shown.0.marker) version_data _ _ _ _ over c.loop-entry.invariant.versions
