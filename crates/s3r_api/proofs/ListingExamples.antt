-- The texts of some listings.
use Rattle.std.proofs.Common.{◌≡◌, ℕ, Bool, true, false, List, [], ◌∷◌, ◌++◌, codes, refl}
use Rattle.std.specs.Fmt.{digits}
use Rattle.serde_json.specs.Written.{compact_text}
use Rattle.serde_json.proofs.OnLiterals.{serde_json_on_literals}
use Rattle.s3r_names.specs.Version.{hex_digits}
use Rattle.s3r_names.specs.declared.outcome.Status.TheVariants as status
use Rattle.s3r_versions.specs.declared.listing.Listed.{Listed}
use Rattle.s3r_versions.specs.declared.listing.Listing.{Listing}
use Rattle.s3r_api.specs.Ids.{id_text}
use Rattle.s3r_api.specs.Listings.{listing_data}

abbrev entry : List ℕ → ℕ → ℕ → Bool → Bool → ℕ → Listed
entry key region index latest marker length = record {
  key = key;
  id = record { region = region; index = index };
  latest = latest;
  marker = marker;
  length = length;
  class = codes "STANDARD";
}

abbrev page : List Listed → Bool → Listing
page entries truncated = record { entries = entries; truncated = truncated }

abbrev put_and_removed : Listing
put_and_removed = page (entry (codes "a") 0 3 true true 0 ∷ entry (codes "a") 0 2 false false 2 ∷ []) false

removed : compact_text (listing_data put_and_removed (status.NoTask ∷ status.NoTask ∷ []))
    ≡ codes "{\"DeleteMarkers\":[{\"IsLatest\":true,\"Key\":\"a\",\"VersionId\":\"0-0000000000000003\"}],\"IsTruncated\":false,"
    ++ codes "\"Versions\":[{\"IsLatest\":false,\"Key\":\"a\",\"Size\":2,\"StorageClass\":\"STANDARD\",\"VersionId\":\"0-0000000000000002\"}]}"
unfolding digits hex_digits serde_json_on_literals
removed = refl

copied : compact_text (listing_data put_and_removed (status.Failed ∷ status.Replica ∷ []))
    ≡ codes "{\"DeleteMarkers\":[{\"IsLatest\":true,\"Key\":\"a\",\"ReplicationStatus\":\"FAILED\",\"VersionId\":\"0-0000000000000003\"}],"
    ++ codes "\"IsTruncated\":false,\"Versions\":[{\"IsLatest\":false,\"Key\":\"a\",\"ReplicationStatus\":\"REPLICA\",\"Size\":2,"
    ++ codes "\"StorageClass\":\"STANDARD\",\"VersionId\":\"0-0000000000000002\"}]}"
unfolding digits hex_digits serde_json_on_literals
copied = refl

abbrev first_two : Listing
first_two = page (entry (codes "a") 0 2 true false 10 ∷ entry (codes "b\"c") 7 255 true true 0 ∷ []) true

cut : compact_text (listing_data first_two (status.NoTask ∷ status.NoTask ∷ []))
    ≡ codes "{\"DeleteMarkers\":[{\"IsLatest\":true,\"Key\":\"b\\\"c\",\"VersionId\":\"7-00000000000000ff\"}],\"IsTruncated\":true,"
    ++ codes "\"NextKeyMarker\":\"b\\\"c\",\"NextVersionIdMarker\":\"7-00000000000000ff\","
    ++ codes "\"Versions\":[{\"IsLatest\":true,\"Key\":\"a\",\"Size\":10,\"StorageClass\":\"STANDARD\",\"VersionId\":\"0-0000000000000002\"}]}"
unfolding digits hex_digits serde_json_on_literals
cut = refl

none : compact_text (listing_data (page [] false) []) ≡ codes "{\"DeleteMarkers\":[],\"IsTruncated\":false,"
    ++ codes "\"Versions\":[]}"
unfolding serde_json_on_literals
none = refl

no_version_has_it : id_text (record { region = 8; index = 1 }) ≡ []
no_version_has_it = refl
