-- The form of a configuration's body.
use Rattle.std.specs.Prelude.{ℕ, Bool, false, if◌then◌else◌, List, [], ◌∷◌, Option, Some, None, option_and_then, Result, Ok, Err, codes}
use Rattle.serde_json.specs.Data.{Data, Num, unsigned, negative, float, Items, item, no_items}
use Rattle.serde_json.specs.Find.{get, as_number}
use Rattle.s3r_names.specs.declared.tags.Tag.{Tag}
use Rattle.s3r_names.specs.declared.arn.Arn.{Arn}
use Rattle.s3r_names.specs.declared.arn.Arn.TheVariants as arn
use Rattle.s3r_names.specs.Arn.{arn_of}
use Rattle.s3r_names.specs.Tags.{is_tag_list, in_key_order}
use Rattle.s3r_json.specs.Members.{has_only, text_in, optional_text_in, list_in, flag_of}
use Rattle.s3r_json.specs.Status.{status_in}
use Rattle.s3r_json.specs.Tags.{tag_in, tag_list_in}
use Rattle.s3r_rules.specs.declared.fault.ConfigFault.{ConfigFault}
use Rattle.s3r_rules.specs.declared.fault.ConfigFault.TheVariants.{MalformedJson}
use Rattle.s3r_rules.specs.declared.draft.Draft.{Draft}
use Rattle.s3r_rules.specs.declared.draft.Filter.{Filter}
use Rattle.s3r_rules.specs.declared.draft.Destination.{Destination}
use Rattle.s3r_rules.specs.Faults.{◌>>=◌, or_malformed}

abbrev pub optional_text : List ℕ → Data → Result (Option (List ℕ)) ConfigFault
optional_text name value = or_malformed (optional_text_in name value)

abbrev pub status_if : Option Data → Result Bool ConfigFault
status_if None = Ok false
status_if (Some value) = or_malformed (status_in (codes "Enabled") (codes "Disabled") value)

-- a member that says Enabled or Disabled, Disabled where it is missing
abbrev pub status_at : List ℕ → Data → Result Bool ConfigFault
status_at name value = status_if (get name value)

-- None stands for a number below 0
abbrev pub number_of : Option Num → Result (Option ℕ) ConfigFault
number_of None = Err MalformedJson
number_of (Some (unsigned n)) = Ok (Some n)
number_of (Some (negative z)) = Ok None
number_of (Some (float x)) = Err MalformedJson

abbrev pub priority_if : Option Data → Result (Option ℕ) ConfigFault
priority_if None = Ok (Some 0)
priority_if (Some value) = number_of (as_number value)

abbrev pub priority_of : Data → Result (Option ℕ) ConfigFault
priority_of value = priority_if (get (codes "Priority") value)

abbrev pub enabled_of : Data → Result Bool ConfigFault
enabled_of value = or_malformed (option_and_then (flag_of (codes "Enabled") (codes "Disabled")) (text_in (codes "Status") value))

-- ---- a rule's filter

-- None stands for tags that are no set
abbrev pub set_of : List Tag → Option (List Tag)
set_of tags = if is_tag_list tags then Some (in_key_order tags) else None

abbrev pub or_empty : Option (List ℕ) → List ℕ
or_empty None = []
or_empty (Some text) = text

abbrev pub filter_with : Option (List ℕ) → Option (List Tag) → Filter
filter_with prefix tags = record { prefix = or_empty prefix; tags = tags }

abbrev pub no_filter : Filter
no_filter = filter_with None (Some [])

abbrev pub prefix_filter : Data → Result Filter ConfigFault
prefix_filter value = optional_text (codes "Prefix") value >>= λ prefix. Ok (filter_with prefix (Some []))

abbrev pub tag_of : Data → Result Tag ConfigFault
tag_of value = or_malformed (option_and_then tag_in (get (codes "Tag") value))

abbrev pub tag_filter : Data → Result Filter ConfigFault
tag_filter value = tag_of value >>= λ tag. Ok (filter_with None (set_of (tag ∷ [])))

abbrev pub tags_if : Option Data → Result (List Tag) ConfigFault
tags_if None = Ok []
tags_if (Some value) = or_malformed (tag_list_in value)

abbrev pub tags_at : Data → Result (List Tag) ConfigFault
tags_at value = tags_if (get (codes "Tags") value)

abbrev pub both_filter : Data → Result Filter ConfigFault
both_filter value =
    if has_only (codes "Prefix" ∷ codes "Tags" ∷ []) value
    then (optional_text (codes "Prefix") value >>= λ prefix. tags_at value >>= λ tags. Ok (filter_with prefix (set_of tags)))
    else Err MalformedJson

abbrev pub and_filter : Data → Result Filter ConfigFault
and_filter value = or_malformed (get (codes "And") value) >>= both_filter

-- a filter has at most one member
abbrev pub filter_of : Data → Result Filter ConfigFault
filter_of value =
    if has_only (codes "Prefix" ∷ []) value then prefix_filter value
    else (if has_only (codes "Tag" ∷ []) value then tag_filter value else (if has_only (codes "And" ∷ []) value then and_filter value else Err MalformedJson))

abbrev pub filter_if : Option Data → Result Filter ConfigFault
filter_if None = Ok no_filter
filter_if (Some value) = filter_of value

abbrev pub filter_at : Data → Result Filter ConfigFault
filter_at value = filter_if (get (codes "Filter") value)

-- ---- a rule's destination, and its sources

-- the bucket whose ARN it is
abbrev pub bucket_in : Option Arn → Option (List ℕ)
bucket_in None = None
bucket_in (Some (arn.Bucket name)) = Some name
bucket_in (Some (arn.Object name key)) = None

abbrev pub destination_of : Data → Result Destination ConfigFault
destination_of value =
    if has_only (codes "Bucket" ∷ codes "StorageClass" ∷ codes "Account" ∷ codes "Metrics" ∷ []) value
    then (or_malformed (text_in (codes "Bucket") value) >>= λ bucket. optional_text (codes "StorageClass") value >>= λ class. Ok
    (record { bucket = bucket_in (arn_of bucket); class = class }))
    else Err MalformedJson

abbrev pub destination_at : Data → Result Destination ConfigFault
destination_at value = or_malformed (get (codes "Destination") value) >>= destination_of

abbrev pub modifications_if : Option Data → Result Bool ConfigFault
modifications_if None = Ok false
modifications_if (Some value) = if has_only (codes "ReplicaModifications" ∷ []) value then status_at (codes "ReplicaModifications") value else Err MalformedJson

abbrev pub modifications_at : Data → Result Bool ConfigFault
modifications_at value = modifications_if (get (codes "SourceSelectionCriteria") value)

-- ---- a rule, and the body

abbrev pub rule_names : List (List ℕ)
rule_names = codes "ID" ∷ codes "Priority" ∷ codes "Status" ∷ codes "Filter" ∷ codes "DeleteMarkerReplication" ∷ codes "Destination" ∷ codes
    "SourceSelectionCriteria" ∷ codes "ExistingObjectReplication" ∷ []

abbrev pub members_of : Data → Result Draft ConfigFault
members_of value = do
  priority ← priority_of value
  enabled ← enabled_of value
  markers ← status_at (codes "DeleteMarkerReplication") value
  modifications ← modifications_at value
  id ← optional_text (codes "ID") value
  filter ← filter_at value
  destination ← destination_at value
  Ok (record {
    id = id;
    priority = priority;
    enabled = enabled;
    filter = filter;
    markers = markers;
    destination = destination;
    replica_modifications =
        modifications;
  })

-- a rule as it is written, whose form alone was looked at
unfoldable pub draft_of : Data → Result Draft ConfigFault
draft_of value = if has_only rule_names value then members_of value else Err MalformedJson

abbrev pub drafts_of : Items → Result (List Draft) ConfigFault
drafts_of no_items = Ok []
drafts_of (item value items) = draft_of value >>= λ draft. drafts_of items >>= λ drafts. Ok (draft ∷ drafts)

-- the rules of the member Rules, in its order
abbrev pub drafts_in : Data → Result (List Draft) ConfigFault
drafts_in value = if has_only (codes "Rules" ∷ codes "Role" ∷ []) value then (or_malformed (list_in (codes "Rules") value) >>= drafts_of) else Err MalformedJson
