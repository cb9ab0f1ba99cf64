-- What is read of a body is a job's specification.
use Rattle.std.proofs.Common.{◌≡◌, ◌≤◌, ◌+◌, ◌==◌, ◌&&◌, nat_le, nat_eq, if◌then◌else◌, ℕ, Bool, true, false, List, position, take, drop, Option, Some, None, Result, Ok, Err, IfOk, codes, option_and_then, refl, arith}
use Rattle.std.specs.List.{starts_with}
use Rattle.std.proofs.lemmas.Bool.{and_parts}
use Rattle.std.proofs.lemmas.Bool.Decides.{nat_tests}
use Rattle.serde_json.specs.Data.{Data}
use Rattle.s3r_names.specs.declared.arn.Arn.{Arn}
use Rattle.s3r_names.specs.declared.arn.Arn.TheVariants as arn
use Rattle.s3r_names.specs.declared.tags.Tag.{Tag}
use Rattle.s3r_names.specs.declared.version.VersionId.{VersionId}
use Rattle.s3r_names.specs.Arn.{arn_prefix, object_arn, arn_at, named_by, arn_of}
use Rattle.s3r_names.specs.Bucket.{is_bucket_name}
use Rattle.s3r_names.specs.Key.{is_key}
use Rattle.s3r_names.specs.Tags.{is_tag_list, is_tag_set, in_key_order}
use Rattle.s3r_names.specs.Version.{IsVersionId}
use Rattle.s3r_names.proofs.TagLaws.{in_key_order-set}
use Rattle.s3r_json.specs.Bodies.{body_value}
use Rattle.s3r_json.specs.Members.{has_only, only_in}
use Rattle.s3r_json.specs.Status.{status_in}
use Rattle.s3r_json.specs.Tags.{tags_in}
use Rattle.s3r_routes.specs.declared.fault.RouteFault.{RouteFault}
use Rattle.s3r_routes.specs.Names.{version_named}
use Rattle.s3r_routes.proofs.Ids.{named-is}
use Rattle.s3r_rules.specs.declared.fault.Kind.TheVariants as kind
use Rattle.s3r_jobs.specs.Rules.{is_token, OptionIdMeetsLimits, IsOperation, IsManifest, IsJobSpec}
use Rattle.s3r_jobs_json.specs.declared.fault.JobFault.{JobFault}
use Rattle.s3r_jobs_json.specs.declared.fault.JobFault.TheVariants.{MalformedJson, InvalidRequest}
use Rattle.s3r_jobs_json.specs.declared.draft.Draft.{Draft}
use Rattle.s3r_jobs_json.specs.declared.draft.ManifestDraft.{ManifestDraft}
use Rattle.s3r_jobs_json.specs.declared.draft.OperationDraft.{OperationDraft}
use Rattle.s3r_jobs_json.specs.declared.draft.OperationDraft.TheVariants as drafted
use Rattle.s3r_jobs_json.specs.Faults.{◌>>=◌, or_malformed}
use Rattle.s3r_jobs_json.specs.Form.{priority_of, confirm_of, text_of, manifest_at, has_no_report, tagging_of, hold_of, operation_by, member_of, operation_of, operation_at, job_names, members_of, draft_of}
use Rattle.s3r_jobs_json.specs.Limits.{operation_from, token_from, priority_from, object_from, id_from, version_from, manifest_from, spec_from}
use Rattle.s3r_jobs_json.specs.Reading.{job_in, job_body}

ok-bind : {A B : Type 0} (P : A → Type 0) (Q : B → Type 0) (r : Result A JobFault) (f : A → Result B JobFault) → IfOk r P
    → ((x : A) → P x → IfOk (f x) Q) → IfOk (r >>= f) Q
ok-bind P Q (Ok x) f h next = next x h
ok-bind P Q (Err fault) f h next = tt

abbrev Any : {X : Type 0} → X → Type 0
Any x = Unit {0}

any : {X : Type 0} (r : Result X JobFault) → IfOk r Any
any (Ok x) = tt
any (Err fault) = tt

-- ---- its form

-- the tags of an operation are a set
abbrev HasSet : OperationDraft → Type 0
HasSet (drafted.Tagging None) = Unit {0}
HasSet (drafted.Tagging (Some tags)) = is_tag_set tags ≡ true
HasSet (drafted.Hold hold) = Unit {0}

set-is : (tags : List Tag) (b : Bool) → is_tag_list tags ≡ b → HasSet (drafted.Tagging (if b then Some (in_key_order tags) else None))
set-is tags true is = rw (in_key_order-set tags) is
set-is tags false is = tt

tagging-is : (value : Data) → IfOk (tagging_of value) HasSet
tagging-is value = ok-bind Any HasSet (or_malformed (tags_in value)) _ (any _) (λ tags t. set-is tags _ refl)

hold-is : (value : Data) → IfOk (hold_of value) HasSet
hold-is value = ok-bind Any HasSet (or_malformed (option_and_then (status_in (codes "ON") (codes "OFF")) (only_in (codes "LegalHold") value))) _ (any _)
    (λ on t. tt)

operation_by-is : (tagging hold : Option Data) → IfOk (operation_by tagging hold) HasSet
operation_by-is (Some tagging) hold = tagging-is tagging
operation_by-is None (Some hold) = hold-is hold
operation_by-is None None = tt

operation_at-is : (value : Data) → IfOk (operation_at value) HasSet
operation_at-is value = ok-bind Any HasSet (member_of (codes "Operation") value) operation_of (any _)
    (λ member t. operation_by-is (only_in (codes "S3PutObjectTagging") member) (only_in (codes "S3PutObjectLegalHold") member))

abbrev IsDraft : Draft → Type 0
IsDraft draft = HasSet draft.operation

members-are : (value : Data) → IfOk (members_of value) IsDraft
members-are value =
    ok-bind Any IsDraft (priority_of value) _ (any _)
    (λ priority t. ok-bind Any IsDraft (confirm_of value) _ (any _)
    (λ confirm u. ok-bind Any IsDraft (text_of (codes "ClientRequestToken") value) _ (any _)
    (λ token v. ok-bind Any IsDraft (manifest_at value) _ (any _)
    (λ manifest w. ok-bind HasSet IsDraft (operation_at value) _ (operation_at-is value) (λ operation is. is)))))

draft-is : (value : Data) → IfOk (draft_of value) IsDraft
unfolding draft_of
draft-is value = go (has_only job_names value && has_no_report value)
  where
    go : (b : Bool) → IfOk (if b then members_of value else Err MalformedJson) IsDraft
    go true = members-are value
    go false = tt

-- ---- what stands in it

operation-is : (draft : OperationDraft) → HasSet draft → IfOk (operation_from draft) IsOperation
operation-is (drafted.Tagging None) is = tt
operation-is (drafted.Tagging (Some tags)) is = is
operation-is (drafted.Hold hold) is = tt

abbrev Token : List ℕ → Type 0
Token token = is_token token ≡ true

token-is : (token : List ℕ) → IfOk (token_from token) Token
token-is token = go (is_token token) refl
  where
    go : (b : Bool) → is_token token ≡ b → IfOk (if b then Ok token else Err (InvalidRequest kind.Token)) Token
    go true is = is
    go false is = tt

abbrev Low : ℕ → Type 0
Low priority = priority ≤ 2147483647

priority-is : (priority : Option ℕ) → IfOk (priority_from priority) Low
priority-is None = tt
priority-is (Some n) = go (nat_le n 2147483647) refl
  where
    go : (b : Bool) → nat_le n 2147483647 ≡ b → IfOk (if b then Ok n else Err (InvalidRequest kind.Priority)) Low
    go true is = grind (arith, nat_tests)
    go false is = tt

-- an object's bucket and key
abbrev Named : List ℕ × List ℕ → Type 0
Named object = (is_bucket_name object.0 ≡ true) × (is_key object.1 ≡ true)

abbrev Means : Option Arn → Type 0
Means None = Unit {0}
Means (Some (arn.Bucket name)) = Unit {0}
Means (Some (arn.Object name key)) = Named (name, key)

object-means : (name key : List ℕ) → Means (object_arn name key)
object-means name key = go (is_bucket_name name && is_key key) refl
  where
    go : (b : Bool) → (is_bucket_name name && is_key key) ≡ b → Means (if b then Some (arn.Object name key) else None)
    go true is = and_parts (is_bucket_name name) (is_key key) is
    go false is = tt

place-means : (slash : Option ℕ) (bytes : List ℕ) → Means (arn_at slash bytes)
place-means None bytes = go (is_bucket_name bytes)
  where
    go : (b : Bool) → Means (if b then Some (arn.Bucket bytes) else None)
    go true = tt
    go false = tt
place-means (Some slash) bytes = object-means (take slash bytes) (drop (slash + 1) bytes)

arn-means : (text : List ℕ) → Means (arn_of text)
arn-means text = go (starts_with nat_eq text arn_prefix)
  where
    go : (b : Bool) → Means (if b then named_by (drop 13 text) else None)
    go true = place-means (position (λ byte. byte == 47) (drop 13 text)) (drop 13 text)
    go false = tt

object-is : (object : Option Arn) → Means object → IfOk (object_from object) Named
object-is None is = tt
object-is (Some (arn.Bucket name)) is = tt
object-is (Some (arn.Object name key)) is = is

id-is : (r : Result VersionId RouteFault) → IfOk r IsVersionId → IfOk (id_from r) OptionIdMeetsLimits
id-is (Ok id) is = is
id-is (Err fault) is = tt

version-is : (version : Option (List ℕ)) → IfOk (version_from version) OptionIdMeetsLimits
version-is None = tt
version-is (Some text) = id-is (version_named text) (named-is text)

manifest-is : (draft : ManifestDraft) → IfOk (manifest_from draft) IsManifest
manifest-is draft =
    ok-bind Named IsManifest (object_from (arn_of draft.arn)) _ (object-is (arn_of draft.arn) (arn-means draft.arn))
    (λ object named. ok-bind OptionIdMeetsLimits IsManifest (version_from draft.version) _ (version-is draft.version)
    (λ version is. record { bucket = named.0; key = named.1; version = is }))

spec-is : (draft : Draft) → IsDraft draft → IfOk (spec_from draft) IsJobSpec
unfolding spec_from
spec-is draft set =
    ok-bind IsOperation IsJobSpec (operation_from draft.operation) _ (operation-is draft.operation set)
    (λ operation operates. ok-bind Token IsJobSpec (token_from draft.token) _ (token-is draft.token)
    (λ token tells. ok-bind Low IsJobSpec (priority_from draft.priority) _ (priority-is draft.priority)
    (λ priority low. ok-bind IsManifest IsJobSpec (manifest_from draft.manifest) _ (manifest-is draft.manifest)
    (λ manifest lists. record { token = tells; priority = low; operation = operates; manifest = lists; report = tt }))))

pub job_lawful : (body : List ℕ) → IfOk (job_body body) IsJobSpec
job_lawful body =
    ok-bind Any IsJobSpec (or_malformed (body_value body)) job_in (any _)
    (λ value t. ok-bind IsDraft IsJobSpec (draft_of value) spec_from (draft-is value) spec-is)
