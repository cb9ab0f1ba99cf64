use Rattle.std.proofs.Common.{◌≡◌, ◌++◌, not, map, zip}
use Rattle.std.specs.Iterator.Adapters.{zip_first, zip_second}
use Rattle.std.specs.Slice.Iter.{iter_rest}
use Rattle.serde_json.specs.View.{view}
use Rattle.s3r_api.specs.Listings.{marker_data, version_data}
use Rattle.s3r_api.proofs.Pairs.{those}
use Rattle.s3r_api.proofs.listings.entry_values.Given as goal

-- what is made so far and what is left is all
abbrev pub invariant-loop-entry : goal.invariant-loop-entry
invariant-loop-entry l =
    let left = zip (iter_rest (zip_first l.entry-iterator)) (iter_rest (zip_second l.entry-iterator)) in
    let all = zip l.entries l.statuses in
    record {
      markers : map view l.markers.items ++ those (λ shown. shown.0.marker) marker_data left ≡ those (λ shown. shown.0.marker) marker_data all;
      versions : map view l.versions.items ++ those (λ shown. not shown.0.marker) version_data left ≡ those (λ shown. not shown.0.marker) version_data all;
    }
