-- What is answered: the status, the lines and the body of each answer.
use Rattle.std.specs.Prelude.{ℕ, Bool, if◌then◌else◌, List, [], ◌∷◌, ◌++◌, length, Option, Some, None, Result, Ok, Err, codes, decimal}
use Rattle.std.specs.Str.{bytes_eq}
use Rattle.serde_json.specs.Data.{Data, Members, no_members, member, string, number, unsigned, object}
use Rattle.serde_json.specs.Written.{compact_text}
use Rattle.s3r_names.specs.declared.version.VersionId.{VersionId}
use Rattle.s3r_rules.specs.declared.fault.Kind.{Kind}
use Rattle.s3r_rules.specs.Kinds.{kind_text}
use Rattle.s3r_jobs.specs.Texts.{state_text, wanted_text}
use Rattle.s3r_rules_json.specs.Printing.{config_data}
use Rattle.s3r_history.specs.declared.refusal.Refusal.{Refusal}
use Rattle.s3r_history.specs.declared.refusal.Refusal.TheVariants as refusal
use Rattle.s3r_http.specs.declared.message.Field.{Field}
use Rattle.s3r_desk.specs.declared.fault.DeskFault.{DeskFault}
use Rattle.s3r_desk.specs.declared.fault.DeskFault.TheVariants as fault
use Rattle.s3r_desk.specs.declared.request.Answer.{Answer}
use Rattle.s3r_desk.specs.declared.request.Answer.TheVariants as answer
use Rattle.s3r_desk.specs.declared.request.ObjectMetadata.{ObjectMetadata}
use Rattle.s3r_json.specs.Tags.{tags_data}
use Rattle.s3r_json.specs.Status.{status_data}
use Rattle.s3r_api.specs.Ids.{id_text}
use Rattle.s3r_api.specs.Listings.{listing_data}
use Rattle.s3r_api.specs.Copying.{copy_data}
use Rattle.s3r_api.specs.JobAnswers.{id_members, made_data, set_data, moved_data, step_data, work_data}
use Rattle.s3r_api.specs.Replication.{status_word}
use Rattle.s3r_api.specs.declared.problem.Problem.{Problem}
use Rattle.s3r_api.specs.declared.problem.Problem.TheVariants as problem

-- An answer. The length is what HEAD tells of the body, which needn't be at hand then.
pub record Reply : Type 0 where
  pub status : ℕ
  pub fields : List Field
  pub body : List ℕ
  pub length : ℕ

-- an answer whose body is at hand
abbrev pub whole : ℕ → List Field → List ℕ → Reply
whole status fields body = record { status = status; fields = fields; body = body; length = length body }

abbrev pub version_field : VersionId → Field
version_field id = record { name = codes "x-amz-version-id"; value = id_text id }

abbrev pub marker_field : Field
marker_field = record { name = codes "x-amz-delete-marker"; value = codes "true" }

abbrev pub hold_word : Bool → List ℕ
hold_word hold = if hold then codes "ON" else codes "OFF"

abbrev pub hold_field : Bool → Field
hold_field hold = record { name = codes "x-amz-object-lock-legal-hold"; value = hold_word hold }

abbrev pub class_field : List ℕ → Field
class_field class = record { name = codes "x-amz-storage-class"; value = class }

abbrev pub replication_field : List ℕ → Field
replication_field word = record { name = codes "x-amz-replication-status"; value = word }

-- a hold is told under Object Lock alone
abbrev pub hold_fields : Bool → Bool → List Field
hold_fields locked hold = if locked then hold_field hold ∷ [] else []

-- how far the replication is, where that has a word
abbrev pub replication_fields : Option (List ℕ) → List Field
replication_fields None = []
replication_fields (Some word) = replication_field word ∷ []

-- a class is told where it isn't the usual one
abbrev pub class_fields : List ℕ → List Field
class_fields class = if bytes_eq class (codes "STANDARD") then [] else class_field class ∷ []

abbrev pub marker_fields : Bool → List Field
marker_fields marker = if marker then marker_field ∷ [] else []

-- the lines of a version, by their names
abbrev pub object_fields : ObjectMetadata → List Field
object_fields version = hold_fields version.locked version.hold ++ replication_fields (status_word version.status) ++ class_fields version.class
    ++ version_field version.id ∷ []

-- the lines of what is gone
abbrev pub gone_fields : Option VersionId → Bool → List Field
gone_fields None marker = []
gone_fields (Some id) marker = marker_fields marker ++ version_field id ∷ []

abbrev pub json_field : Field
json_field = record { name = codes "Content-Type"; value = codes "application/json" }

-- a body that is JSON
abbrev pub json_reply : ℕ → List ℕ → Reply
json_reply status text = whole status (json_field ∷ []) text

-- an object with a code and these members
abbrev pub code_data : List ℕ → Members → Data
code_data code members = object (member (codes "Code") (string code) members)

-- its text
abbrev pub code_text : List ℕ → Members → List ℕ
code_text code members = compact_text (code_data code members)

abbrev pub coded : ℕ → List ℕ → Reply
coded status code = json_reply status (code_text code no_members)

abbrev pub region_name : ℕ → List ℕ
region_name region = codes "r" ++ decimal region

abbrev pub region_members : ℕ → Members
region_members region = member (codes "Region") (string (region_name region)) no_members

-- what is wrong at a rule, 0 where it is at none
abbrev pub rule_members : List ℕ → ℕ → Members
rule_members kind rule = member (codes "Kind") (string kind) (member (codes "Rule") (number (unsigned rule)) no_members)

-- a rule of a configuration is wrong so
abbrev pub kind_reply : ℕ → Kind → Reply
kind_reply rule kind = json_reply 400 (code_text (codes "InvalidRequest") (rule_members (kind_text kind) rule))

-- the state that a job is in, and what was wanted of it
abbrev pub job_members : List ℕ → List ℕ → Members
job_members from wanted = member (codes "From") (string from) (member (codes "Wanted") (string wanted) no_members)

abbrev pub refusal_reply : Refusal → Reply
refusal_reply refusal.NoSuchBucket = coded 404 (codes "NoSuchBucket")
refusal_reply refusal.BucketAlreadyExists = coded 409 (codes "BucketAlreadyExists")
refusal_reply refusal.BucketNotEmpty = coded 409 (codes "BucketNotEmpty")
refusal_reply refusal.NoSuchVersion = coded 404 (codes "NoSuchVersion")
refusal_reply refusal.MethodNotAllowed = coded 405 (codes "MethodNotAllowed")
refusal_reply refusal.AccessDenied = coded 403 (codes "AccessDenied")
refusal_reply refusal.InvalidBucketState = coded 409 (codes "InvalidBucketState")
refusal_reply refusal.LockNeeded = json_reply 400 (code_text (codes "InvalidRequest") (rule_members (codes "LockNeeded") 0))
refusal_reply refusal.NoReplication = coded 404 (codes "ReplicationConfigurationNotFoundError")
refusal_reply (refusal.InvalidRequest rule kind) = kind_reply rule kind
refusal_reply (refusal.NoSuchRegion region) = coded 400 (codes "InvalidLocationConstraint")
refusal_reply (refusal.NotNext watermark) = coded 409 (codes "NotNext")
refusal_reply (refusal.NotFirst first) = coded 409 (codes "NotFirst")
refusal_reply refusal.TooManyBuckets = coded 400 (codes "TooManyBuckets")
refusal_reply refusal.NoSuchKey = coded 404 (codes "NoSuchKey")
refusal_reply refusal.InvalidLocation = coded 400 (codes "InvalidLocationConstraint")
refusal_reply refusal.InvalidArgument = coded 400 (codes "InvalidArgument")
refusal_reply refusal.NoSuchJob = coded 404 (codes "NoSuchJob")
refusal_reply refusal.TooManyJobs = coded 400 (codes "TooManyJobs")
refusal_reply (refusal.JobStatus from wanted) =
    json_reply 400 (code_text (codes "JobStatusException") (job_members (state_text from) (wanted_text wanted)))
refusal_reply (refusal.Idempotency id) = json_reply 400 (code_text (codes "IdempotencyException") (id_members (id_text id) no_members))

abbrev pub marked_status : Bool → ℕ
marked_status named = if named then 405 else 404

abbrev pub marked_code : Bool → List ℕ
marked_code named = if named then codes "MethodNotAllowed" else codes "NoSuchKey"

abbrev pub marked_fields : VersionId → List Field
marked_fields id = json_field ∷ marker_field ∷ version_field id ∷ []

-- a marker in place of a version
abbrev pub marker_reply : VersionId → Bool → Reply
marker_reply id named = whole (marked_status named) (marked_fields id) (code_text (marked_code named) no_members)

abbrev pub versioning_word : Bool → List ℕ
versioning_word enabled = if enabled then codes "Enabled" else codes "Suspended"

abbrev pub status_reply : List ℕ → Reply
status_reply word = json_reply 200 (compact_text (status_data word))

-- what two regions tell of the tasks from one to the other
abbrev pub pair_data : (from to : List ℕ) (sent answered settled received : ℕ) → Data
pair_data from to sent answered settled received =
    object (member (codes "Answered") (number (unsigned answered))
    (member (codes "Code") (string (codes "Disagree"))
    (member (codes "From") (string from)
    (member (codes "Received") (number (unsigned received))
    (member (codes "Sent") (number (unsigned sent))
    (member (codes "Settled") (number (unsigned settled))
    (member (codes "To") (string to) no_members)))))))

abbrev pub fault_reply : DeskFault → Reply
fault_reply (fault.Volume region) = json_reply 503 (code_text (codes "VolumeFault") (region_members region))
fault_reply (fault.Full region) = json_reply 507 (code_text (codes "VolumeFull") (region_members region))
fault_reply (fault.Damaged region offset) = json_reply 500 (code_text (codes "Damaged")
    (member (codes "Offset") (number (unsigned offset)) (region_members region)))
fault_reply (fault.Disagree from to sent answered settled received) =
    json_reply 500 (compact_text (pair_data (region_name from) (region_name to) sent answered settled received))
fault_reply fault.OutOfMemory = coded 500 (codes "OutOfMemory")

abbrev pub problem_reply : Problem → Reply
problem_reply problem.InvalidBucketName = coded 400 (codes "InvalidBucketName")
problem_reply problem.KeyTooLong = coded 400 (codes "KeyTooLongError")
problem_reply problem.InvalidKey = coded 400 (codes "InvalidURI")
problem_reply problem.InvalidTag = coded 400 (codes "InvalidTag")
problem_reply problem.InvalidVersionId = coded 400 (codes "InvalidArgument")
problem_reply problem.InvalidStorageClass = coded 400 (codes "InvalidStorageClass")
problem_reply problem.InvalidQuery = coded 400 (codes "InvalidArgument")
problem_reply problem.InvalidHold = coded 400 (codes "InvalidArgument")
problem_reply problem.MalformedJson = coded 400 (codes "MalformedJSON")
problem_reply (problem.InvalidRequest rule kind) = kind_reply rule kind
problem_reply problem.ConfigurationTooLong = coded 400 (codes "EntityTooLarge")
problem_reply problem.NoSuchRoute = coded 404 (codes "NoSuchRoute")
problem_reply problem.UnknownQuery = coded 501 (codes "NotImplemented")
problem_reply problem.WrongMethod = coded 405 (codes "MethodNotAllowed")
problem_reply problem.BadHead = coded 400 (codes "BadHead")
problem_reply problem.HeadTooLong = coded 431 (codes "HeadTooLong")
problem_reply problem.BadLength = coded 400 (codes "BadLength")
problem_reply problem.EntityTooLarge = coded 400 (codes "EntityTooLarge")
problem_reply problem.NotImplemented = coded 501 (codes "NotImplemented")
problem_reply problem.CutShort = coded 400 (codes "CutShort")
problem_reply problem.OutOfMemory = coded 500 (codes "OutOfMemory")

-- HEAD tells the length that is said of the version, GET that of the body
abbrev pub object_reply : ObjectMetadata → List ℕ → Reply
object_reply version body = record { status = 200; fields = object_fields version; body = body; length = version.length }

abbrev pub answer_reply : Result Answer DeskFault → Reply
answer_reply (Ok answer.Done) = whole 200 [] []
answer_reply (Ok (answer.Written id)) = whole 200 (version_field id ∷ []) []
answer_reply (Ok (answer.Gone id marker)) = whole 204 (gone_fields id marker) []
answer_reply (Ok (answer.Object version body)) = object_reply version body
answer_reply (Ok (answer.MarkerThere id named)) = marker_reply id named
answer_reply (Ok (answer.TagSet tags)) = json_reply 200 (compact_text (tags_data tags))
answer_reply (Ok (answer.Hold hold)) = status_reply (hold_word hold)
answer_reply (Ok (answer.Versioning enabled)) = status_reply (versioning_word enabled)
answer_reply (Ok (answer.Configuration config)) = json_reply 200 (compact_text (config_data config))
answer_reply (Ok (answer.Listing listing statuses)) = json_reply 200 (compact_text (listing_data listing statuses))
answer_reply (Ok (answer.Copied outcome)) = json_reply 200 (compact_text (copy_data outcome))
answer_reply (Ok (answer.JobMade id)) = json_reply 200 (compact_text (made_data id))
answer_reply (Ok (answer.JobSet id priority)) = json_reply 200 (compact_text (set_data id priority))
answer_reply (Ok (answer.JobMoved id state)) = json_reply 200 (compact_text (moved_data id state))
answer_reply (Ok (answer.JobStep outcome)) = json_reply 200 (compact_text (step_data outcome))
answer_reply (Ok (answer.Worked summary)) = json_reply 200 (compact_text (work_data summary))
answer_reply (Ok (answer.Refused why)) = refusal_reply why
answer_reply (Err why) = fault_reply why
