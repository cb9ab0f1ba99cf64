-- A listing has no number but its sizes.
use Rattle.std.proofs.Common.{◌≡◌, ℕ, List, [], ◌∷◌, map, filter, zip, not, Option, Some, None, false, refl, codes}
use Rattle.serde_json.specs.Data.{Members, member, no_members, string, number, unsigned}
use Rattle.serde_json.specs.View.{items_of}
use Rattle.serde_json.specs.Written.{has_float, items_have_float, members_have_float}
use Rattle.s3r_names.specs.declared.outcome.Status.{Status}
use Rattle.s3r_versions.specs.declared.listing.Listed.{Listed}
use Rattle.s3r_versions.specs.declared.listing.Listing.{Listing}
use Rattle.s3r_api.specs.Ids.{id_text}
use Rattle.s3r_api.specs.Listings.{Shown, replication_members, marker_data, version_data, versions_data, cut_after, next_members, listing_data}
use Rattle.s3r_api.specs.Replication.{status_word}

status : (word : Option (List ℕ)) (others : Members) → members_have_float (replication_members word others) ≡ members_have_float others
status None others = refl
status (Some word) others = refl

marker : (shown : Shown) → has_float (marker_data shown) ≡ false
marker shown = status (status_word shown.1) (member (codes "VersionId") (string (id_text shown.0.id)) no_members)

version : (shown : Shown) → has_float (version_data shown) ≡ false
version shown = status (status_word shown.1) (member (codes "Size") (number (unsigned shown.0.length))
    (member (codes "StorageClass") (string shown.0.class) (member (codes "VersionId") (string (id_text shown.0.id)) no_members)))

markers : (all : List Shown) → items_have_float (items_of (map marker_data all)) ≡ false
markers [] = refl
markers (shown ∷ all) = rw (marker shown) (markers all)

versions : (all : List Shown) → items_have_float (items_of (map version_data all)) ≡ false
versions [] = refl
versions (shown ∷ all) = rw (version shown) (versions all)

next : (entry : Option Listed) (others : Members) → members_have_float (next_members entry others) ≡ members_have_float others
next None others = refl
next (Some entry) others = refl

pub no_float : (listing : Listing) (statuses : List Status) → has_float (listing_data listing statuses) ≡ false
no_float listing statuses =
    let all = zip listing.entries statuses in
    let last = member (codes "Versions") (versions_data all) no_members in
    rw (
      markers (filter (λ shown. shown.0.marker) all),
      next (cut_after listing) last,
      versions (filter (λ shown. not shown.0.marker) all),
    ) refl
