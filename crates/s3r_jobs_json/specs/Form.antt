-- The form of a job's body.
use Rattle.std.specs.Prelude.{ℕ, Bool, true, false, ◌&&◌, if◌then◌else◌, List, [], ◌∷◌, Option, Some, None, option_and_then, Result, Ok, Err, codes}
use Rattle.std.specs.Str.{bytes_eq}
use Rattle.serde_json.specs.Data.{Data, Num, unsigned, negative, float, Items, item, no_items}
use Rattle.serde_json.specs.Find.{get, as_bool, as_str, as_number}
use Rattle.s3r_names.specs.declared.tags.Tag.{Tag}
use Rattle.s3r_names.specs.Tags.{is_tag_list, in_key_order}
use Rattle.s3r_json.specs.Members.{has_only, only_in, text_in, optional_text_in, list_in, if_any}
use Rattle.s3r_json.specs.Status.{status_in}
use Rattle.s3r_json.specs.Tags.{tags_in}
use Rattle.s3r_jobs_json.specs.declared.fault.JobFault.{JobFault}
use Rattle.s3r_jobs_json.specs.declared.fault.JobFault.TheVariants.{MalformedJson}
use Rattle.s3r_jobs_json.specs.declared.draft.Draft.{Draft}
use Rattle.s3r_jobs_json.specs.declared.draft.ManifestDraft.{ManifestDraft}
use Rattle.s3r_jobs_json.specs.declared.draft.OperationDraft.{OperationDraft}
use Rattle.s3r_jobs_json.specs.declared.draft.OperationDraft.TheVariants.{Tagging, Hold}
use Rattle.s3r_jobs_json.specs.Faults.{◌>>=◌, or_malformed}

-- a member that has to be there
abbrev pub member_of : List ℕ → Data → Result Data JobFault
member_of name value = or_malformed (get name value)

-- a text that has to be there
abbrev pub text_of : List ℕ → Data → Result (List ℕ) JobFault
text_of name value = or_malformed (text_in name value)

-- None stands for a number below 0
abbrev pub number_of : Option Num → Result (Option ℕ) JobFault
number_of None = Err MalformedJson
number_of (Some (unsigned n)) = Ok (Some n)
number_of (Some (negative z)) = Ok None
number_of (Some (float x)) = Err MalformedJson

abbrev pub priority_of : Data → Result (Option ℕ) JobFault
priority_of value = member_of (codes "Priority") value >>= λ number. number_of (as_number number)

abbrev pub or_false : Option Bool → Bool
or_false None = false
or_false (Some flag) = flag

-- false where it is missing
abbrev pub confirm_of : Data → Result Bool JobFault
confirm_of value = or_malformed (if_any as_bool (get (codes "ConfirmationRequired") value)) >>= λ flag. Ok (or_false flag)

-- ---- its report

abbrev pub is_false : Option Bool → Bool
is_false None = false
is_false (Some false) = true
is_false (Some true) = false

-- {"Enabled":false}
abbrev pub is_disabled : Data → Bool
is_disabled report = is_false (option_and_then as_bool (only_in (codes "Enabled") report))

abbrev pub disabled_if : Option Data → Bool
disabled_if None = false
disabled_if (Some report) = is_disabled report

-- a report has to be named, and it is disabled
abbrev pub has_no_report : Data → Bool
has_no_report value = disabled_if (get (codes "Report") value)

-- ---- its operation

-- None stands for tags that are no set
abbrev pub set_of : List Tag → Option (List Tag)
set_of tags = if is_tag_list tags then Some (in_key_order tags) else None

-- {"TagSet":[..]}
abbrev pub tagging_of : Data → Result OperationDraft JobFault
tagging_of value = or_malformed (tags_in value) >>= λ tags. Ok (Tagging (set_of tags))

-- {"LegalHold":{"Status":..}}
abbrev pub hold_of : Data → Result OperationDraft JobFault
hold_of value = or_malformed (option_and_then (status_in (codes "ON") (codes "OFF")) (only_in (codes "LegalHold") value)) >>= λ hold. Ok (Hold hold)

abbrev pub operation_by : Option Data → Option Data → Result OperationDraft JobFault
operation_by (Some tagging) hold = tagging_of tagging
operation_by None (Some hold) = hold_of hold
operation_by None None = Err MalformedJson

-- an operation has one member
abbrev pub operation_of : Data → Result OperationDraft JobFault
operation_of value = operation_by (only_in (codes "S3PutObjectTagging") value) (only_in (codes "S3PutObjectLegalHold") value)

abbrev pub operation_at : Data → Result OperationDraft JobFault
operation_at value = member_of (codes "Operation") value >>= operation_of

-- ---- its manifest

abbrev pub is_said : List ℕ → Option (List ℕ) → Bool
is_said word None = false
is_said word (Some text) = bytes_eq text word

-- the value is this text
abbrev pub is_word : List ℕ → Data → Bool
is_word word value = is_said word (as_str value)

-- the first two fields
abbrev pub are_keys : Data → Data → Bool
are_keys bucket key = is_word (codes "Bucket") bucket && is_word (codes "Key") key

-- Whether a record has a version's id. None where the fields are others.
abbrev pub versions_in : Items → Option Bool
versions_in no_items = None
versions_in (item bucket no_items) = None
versions_in (item bucket (item key no_items)) = if are_keys bucket key then Some false else None
versions_in (item bucket (item key (item id no_items))) = if are_keys bucket key && is_word (codes "VersionId") id then Some true else None
versions_in (item bucket (item key (item id (item more items)))) = None

abbrev pub has_format : Data → Bool
has_format value = is_said (codes "S3BatchOperations_CSV_20180820") (text_in (codes "Format") value)

-- {"Format":..,"Fields":[..]}
abbrev pub versions_of : Data → Result Bool JobFault
versions_of value =
    if has_only (codes "Format" ∷ codes "Fields" ∷ []) value && has_format value
    then or_malformed (option_and_then versions_in (list_in (codes "Fields") value)) else Err MalformedJson

abbrev pub versions_at : Data → Result Bool JobFault
versions_at value = member_of (codes "Spec") value >>= versions_of

-- {"ObjectArn":..,"ObjectVersionId":..,"ETag":..}
abbrev pub located : Bool → Data → Result ManifestDraft JobFault
located versions value =
    if has_only (codes "ObjectArn" ∷ codes "ObjectVersionId" ∷ codes "ETag" ∷ []) value
    then (text_of (codes "ObjectArn") value >>= λ arn. or_malformed (optional_text_in (codes "ObjectVersionId") value) >>= λ version. Ok
    (record { versions = versions; arn = arn; version = version }))
    else Err MalformedJson

-- {"Spec":..,"Location":..}
abbrev pub manifest_of : Data → Result ManifestDraft JobFault
manifest_of value =
    if has_only (codes "Spec" ∷ codes "Location" ∷ []) value
    then (versions_at value >>= λ versions. member_of (codes "Location") value >>= located versions)
    else Err MalformedJson

abbrev pub manifest_at : Data → Result ManifestDraft JobFault
manifest_at value = member_of (codes "Manifest") value >>= manifest_of

-- ---- the body

abbrev pub job_names : List (List ℕ)
job_names = codes "ClientRequestToken" ∷ codes "Operation" ∷ codes "Priority" ∷ codes "Manifest" ∷ codes "Report" ∷ codes "ConfirmationRequired"
    ∷ codes "AccountId" ∷ codes "RoleArn" ∷ codes "Description" ∷ codes "Tags" ∷ []

abbrev pub members_of : Data → Result Draft JobFault
members_of value = do
  priority ← priority_of value
  confirm ← confirm_of value
  token ← text_of (codes "ClientRequestToken") value
  manifest ← manifest_at value
  operation ← operation_at value
  Ok (record {
    token = token;
    priority = priority;
    confirm = confirm;
    operation = operation;
    manifest = manifest;
  })

-- a job as it is written, whose form alone was looked at
unfoldable pub draft_of : Data → Result Draft JobFault
draft_of value = if has_only job_names value && has_no_report value then members_of value else Err MalformedJson
