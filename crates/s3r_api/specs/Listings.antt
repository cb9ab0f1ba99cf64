-- The JSON of a page of a bucket's versions.
use Rattle.std.specs.Prelude.{ℕ, not, if◌then◌else◌, List, Option, Some, None, codes, map, filter}
use Rattle.std.specs.List.{last_or, zip}
use Rattle.serde_json.specs.Data.{Data, Members, no_members, member, boolean, number, unsigned, string, array, object}
use Rattle.serde_json.specs.View.{items_of}
use Rattle.s3r_names.specs.declared.outcome.Status.{Status}
use Rattle.s3r_versions.specs.declared.listing.Listed.{Listed}
use Rattle.s3r_versions.specs.declared.listing.Listing.{Listing}
use Rattle.s3r_api.specs.Ids.{id_text}
use Rattle.s3r_api.specs.Replication.{status_word}

-- an entry, and how far its replication is
abbrev pub Shown : Type 0
Shown = Listed × Status

-- the word of a status, where it has one, before other members
abbrev pub replication_members : Option (List ℕ) → Members → Members
replication_members None others = others
replication_members (Some word) others = member (codes "ReplicationStatus") (string word) others

-- a delete marker whose status has this word, where it has one, and whose id has this text
abbrev pub marker_with : Listed → Option (List ℕ) → List ℕ → Data
marker_with entry word id =
    object (member (codes "IsLatest") (boolean entry.latest)
    (member (codes "Key") (string entry.key)
    (replication_members word
    (member (codes "VersionId") (string id) no_members))))

-- a version with a body, told the same way
abbrev pub version_with : Listed → Option (List ℕ) → List ℕ → Data
version_with entry word id =
    object (member (codes "IsLatest") (boolean entry.latest)
    (member (codes "Key") (string entry.key)
    (replication_members word
    (member (codes "Size") (number (unsigned entry.length))
    (member (codes "StorageClass") (string entry.class)
    (member (codes "VersionId") (string id) no_members))))))

abbrev pub marker_data : Shown → Data
marker_data shown = marker_with shown.0 (status_word shown.1) (id_text shown.0.id)

abbrev pub version_data : Shown → Data
version_data shown = version_with shown.0 (status_word shown.1) (id_text shown.0.id)

abbrev pub markers_data : List Shown → Data
markers_data all = array (items_of (map marker_data (filter (λ shown. shown.0.marker) all)))

abbrev pub versions_data : List Shown → Data
versions_data all = array (items_of (map version_data (filter (λ shown. not shown.0.marker) all)))

-- the entry behind which more follow
abbrev pub cut_after : Listing → Option Listed
cut_after listing = if listing.truncated then last_or None listing.entries else None

-- where the next page begins, before other members
abbrev pub next_members : Option Listed → Members → Members
next_members None others = others
next_members (Some entry) others = member (codes "NextKeyMarker") (string entry.key) (member (codes "NextVersionIdMarker") (string (id_text entry.id)) others)

-- a page with these markers and these versions
abbrev pub page_data : Data → Data → Listing → Data
page_data markers versions listing =
    object (member (codes "DeleteMarkers") markers
    (member (codes "IsTruncated") (boolean listing.truncated)
    (next_members (cut_after listing)
    (member (codes "Versions") versions no_members))))

-- a page, and the statuses of its entries in order
abbrev pub listing_data : Listing → List Status → Data
listing_data listing statuses = page_data (markers_data (zip listing.entries statuses)) (versions_data (zip listing.entries statuses)) listing
