-- What is true of each request that is read, and of each reason why one isn't.
use Rattle.std.proofs.Common.{◌≡◌, ◌≤◌, if◌then◌else◌, ℕ, List, [], ◌∷◌, length, Option, Some, None, Bool, true, false, refl, sym, subst, ◌∙◌, nat_lt, IfOk, IfErr, Result, Ok, Err, codes}
use Rattle.serde_json.specs.Data.{Data}
use Rattle.serde_json.specs.Read.{read}
use Rattle.std.specs.Str.{is_utf8}
use Rattle.percent_encoding.specs.Percent.{percent_decode}
use Rattle.s3r_names.specs.declared.tags.Tag.{Tag}
use Rattle.s3r_names.specs.declared.version.VersionId.{VersionId}
use Rattle.s3r_names.specs.Version.{IsVersionId}
use Rattle.s3r_names.specs.Bucket.{is_bucket_name}
use Rattle.s3r_names.specs.Key.{is_key}
use Rattle.s3r_names.specs.Class.{is_class_name}
use Rattle.s3r_names.specs.Tags.{is_tag_list, is_tag_set, in_key_order}
use Rattle.s3r_names.specs.Query.{query_tags}
use Rattle.s3r_names.proofs.TagLaws.{in_key_order-set}
use Rattle.s3r_rules.specs.declared.fault.ConfigFault.{ConfigFault}
use Rattle.s3r_rules.specs.declared.fault.ConfigFault.TheVariants as config
use Rattle.s3r_rules.specs.declared.rule.Rule.{Rule}
use Rattle.s3r_rules.specs.Rules.{is_config}
use Rattle.s3r_rules_json.specs.Reading.{config_body}
use Rattle.s3r_rules_json.proofs.Lawful.{body_lawful}
use Rattle.s3r_record.specs.Spelling.{fits_record}
use Rattle.s3r_http.specs.declared.message.RawRequest.{RawRequest}
use Rattle.s3r_json.specs.declared.fault.BodyFault.{BodyFault}
use Rattle.s3r_json.specs.declared.fault.BodyFault.TheVariants as body
use Rattle.s3r_json.specs.Bodies.{of_value, body_value}
use Rattle.s3r_json.specs.Status.{status_body}
use Rattle.s3r_json.specs.Tags.{tags_body, tags_in as tags_read, set_of_read}
use Rattle.s3r_routes.specs.declared.fault.RouteFault.{RouteFault}
use Rattle.s3r_routes.specs.declared.fault.RouteFault.TheVariants as fault
use Rattle.s3r_routes.specs.declared.rows.Route.{Route}
use Rattle.s3r_routes.specs.declared.rows.Route.TheVariants as route
use Rattle.s3r_routes.specs.Target.{Target, bucket, object}
use Rattle.s3r_routes.specs.Query as query
use Rattle.s3r_routes.specs.Query.{Pair}
use Rattle.s3r_routes.specs.declared.words.Word.TheVariants as word
use Rattle.s3r_routes.specs.Rows.{route_of}
use Rattle.s3r_routes.specs.Names.{bucket_named, key_named, key_written, version_named}
use Rattle.s3r_routes.specs.Values.{given, limit_of, there, version_from, version_of}
use Rattle.s3r_routes.proofs.Ids.{named-is}
use Rattle.s3r_routes.proofs.Limits.{limit-least}
use Rattle.s3r_desk.specs.declared.request.Request.{Request}
use Rattle.s3r_desk.specs.declared.request.Request.TheVariants as request
use Rattle.s3r_desk.specs.Steps.{IsRequest, IsNamed}
use Rattle.s3r_api.specs.declared.request.Written.{Written}
use Rattle.s3r_api.specs.declared.problem.Problem.{Problem}
use Rattle.s3r_api.specs.declared.problem.Problem.TheVariants as problem
use Rattle.s3r_api.specs.Problems.{Gives, IsOfRequest}
use Rattle.s3r_api.specs.Faults.{◌>>=◌, of_route, of_body, routed, from_body, from_config}
use Rattle.s3r_api.specs.Numbers.{number_asked}
use Rattle.s3r_api.specs.Jobs.{job_at}
use Rattle.s3r_api.specs.Location.{location_in, region_of_text, region_of_value, region_of}
use Rattle.s3r_api.specs.Lines.{first_line, lock_word, locked_by, tags_in, tags_by, hold_word, hold_by, class_in, class_by}
use Rattle.s3r_api.proofs.Reading.{ReadsAs, reads-bind, Any, Fits, Below, reads-number_asked}
use Rattle.s3r_api.proofs.JobReading.{reads-job, named-job, reads-priority, reads-job_status, reads-turn, reads-work}
use Rattle.s3r_api.specs.Request.{asked_at, limit_asked, id_behind, place_behind, list_request, if_recorded, replication_request, bucket_asked, written_by, put_request, version_asked, is_put, object_asked, bucket_request, object_request, copy_request, desk_asked, other_request, request_at}

of-route : (f : RouteFault) → IsOfRequest (of_route f)
of-route fault.NoSuchRoute = tt
of-route fault.InvalidBucketName = tt
of-route fault.KeyTooLong = tt
of-route fault.InvalidKey = tt
of-route fault.InvalidQuery = tt
of-route fault.UnknownQuery = tt
of-route fault.WrongMethod = tt
of-route fault.InvalidVersionId = tt
of-route fault.OutOfMemory = tt

of-body : (f : BodyFault) → IsOfRequest (of_body f)
of-body body.MalformedJson = tt
of-body body.InvalidTag = tt
of-body body.OutOfMemory = tt

reads-routed : {X : Type 0} (P : X → Type 0) (r : Result X RouteFault) → IfOk r P → ReadsAs P (routed r)
reads-routed P (Ok x) h = h
reads-routed P (Err f) h = of-route f

reads-from_body : {X : Type 0} (P : X → Type 0) (r : Result X BodyFault) → IfOk r P → ReadsAs P (from_body r)
reads-from_body P (Ok x) h = h
reads-from_body P (Err f) h = of-body f

any-route : {X : Type 0} (r : Result X RouteFault) → IfOk r Any
any-route (Ok x) = tt
any-route (Err f) = tt

any-body : {X : Type 0} (r : Result X BodyFault) → IfOk r Any
any-body (Ok x) = tt
any-body (Err f) = tt

-- ---- names

abbrev Named : List ℕ → Type 0
Named name = is_bucket_name name ≡ true

abbrev Keyed : List ℕ → Type 0
Keyed key = is_key key ≡ true

bucket-is : (name : List ℕ) (b : Bool) → is_bucket_name name ≡ b → IfOk {T = List ℕ} {E = RouteFault} (if b then Ok name else Err fault.InvalidBucketName) Named
bucket-is name true is = is
bucket-is name false is = tt

short-is : (key : List ℕ) (b : Bool) → is_key key ≡ b → IfOk {T = List ℕ} {E = RouteFault} (if b then Ok key else Err fault.InvalidKey) Keyed
short-is key true is = is
short-is key false is = tt

key-is : (key : List ℕ) (b : Bool) → IfOk {T = List ℕ} {E = RouteFault}
    (if b then Err fault.KeyTooLong else (if is_key key then Ok key else Err fault.InvalidKey)) Keyed
key-is key true = tt
key-is key false = short-is key _ refl

reads-name : (bytes : List ℕ) → ReadsAs Named (routed (bucket_named bytes))
reads-name bytes = reads-routed Named (bucket_named bytes) (bucket-is bytes _ refl)

reads-key : (key : List ℕ) → ReadsAs Keyed (routed (key_named key))
reads-key key = reads-routed Keyed (key_named key) (key-is key (nat_lt 1024 (length key)))

version-is : (text : Option (List ℕ)) → IfOk (version_from text) IsNamed
version-is None = tt
version-is (Some text) = go (version_named text) (named-is text)
  where
    go : (r : Result VersionId RouteFault) → IfOk r IsVersionId → IfOk (there r) IsNamed
    go (Ok id) h = h
    go (Err f) h = tt

reads-version : (words : List Pair) → ReadsAs IsNamed (routed (version_of words))
reads-version words = reads-routed IsNamed (version_of words) (version-is (query.value word.VersionId words))

-- ---- bodies and header lines

reads-text : (text : Option (List ℕ)) → ReadsAs Any (region_of_text text)
reads-text None = tt
reads-text (Some text) = tt

reads-value : (value : Option Data) → ReadsAs Any (region_of_value value)
reads-value None = tt
reads-value (Some value) = reads-text (location_in value)

reads-location : (body : List ℕ) (b : Bool) → ReadsAs Any (if b then region_of_value (read body) else Err problem.MalformedJson)
reads-location body true = reads-value (read body)
reads-location body false = tt

reads-region : (body : List ℕ) → ReadsAs Any (region_of body)
unfolding region_of
reads-region [] = tt
reads-region (byte ∷ bytes) = reads-location (byte ∷ bytes) (is_utf8 (byte ∷ bytes))

reads-status : (on off body : List ℕ) → ReadsAs Any (from_body (status_body on off body))
reads-status on off body = reads-from_body Any (status_body on off body) (any-body _)

abbrev Set : List Tag → Type 0
Set tags = is_tag_set tags ≡ true

set-is : (tags : List Tag) (b : Bool) → is_tag_list tags ≡ b → IfOk {T = List Tag} {E = BodyFault}
    (if b then Ok (in_key_order tags) else Err body.InvalidTag) Set
set-is tags true is = in_key_order-set tags ∙ is
set-is tags false is = tt

set-read : (tags : Option (List Tag)) → IfOk (set_of_read tags) Set
set-read None = tt
set-read (Some tags) = set-is tags _ refl

set-of_value : (value : Option Data) → IfOk (of_value (λ v. set_of_read (tags_read v)) value) Set
set-of_value None = tt
set-of_value (Some value) = set-read (tags_read value)

reads-tags_body : (body : List ℕ) → ReadsAs Set (from_body (tags_body body))
reads-tags_body body = reads-from_body Set (tags_body body) (set-of_value (body_value body))

reads-words : (word : Option (List ℕ)) → ReadsAs Any (lock_word word)
reads-words None = tt
reads-words (Some word) = go _ _
  where
    go : (a b : Bool) → ReadsAs {X = Bool} Any (if a then Ok true else (if b then Ok false else Err problem.InvalidQuery))
    go true b = tt
    go false true = tt
    go false false = tt

reads-hold : (word : Option (List ℕ)) → ReadsAs Any (hold_word word)
reads-hold None = tt
reads-hold (Some word) = go _ _
  where
    go : (a b : Bool) → ReadsAs {X = Bool} Any (if a then Ok true else (if b then Ok false else Err problem.InvalidHold))
    go true b = tt
    go false true = tt
    go false false = tt

reads-tags : (form : Option (List ℕ)) → ReadsAs Set (tags_in form)
reads-tags None = refl
reads-tags (Some form) = go (is_tag_list (query_tags form)) refl
  where
    go : (b : Bool) → is_tag_list (query_tags form) ≡ b → ReadsAs Set (if b then Ok (in_key_order (query_tags form)) else Err problem.InvalidTag)
    go true is = in_key_order-set (query_tags form) ∙ is
    go false is = tt

abbrev Classed : List ℕ → Type 0
Classed name = is_class_name name ≡ true

reads-class : (name : Option (List ℕ)) → ReadsAs Classed (class_in name)
reads-class None = refl
reads-class (Some name) = go (is_class_name name) refl
  where
    go : (b : Bool) → is_class_name name ≡ b → ReadsAs Classed (if b then Ok name else Err problem.InvalidStorageClass)
    go true is = is
    go false is = tt

-- ---- a bucket's requests

reads-create : (raw : RawRequest) (words : List Pair) (name : List ℕ) → Named name → ReadsAs (Fits raw) (bucket_asked raw words name route.CreateBucket)
reads-create raw words name named =
    reads-bind Any (Fits raw) (locked_by raw) _ (reads-words (first_line (codes "x-amz-bucket-object-lock-enabled") raw))
    (λ locked any. reads-bind Any (Fits raw) (region_of raw.body) _ (reads-region raw.body) (λ region any short. named))

reads-versioning : (raw : RawRequest) (words : List Pair) (name : List ℕ) → Named name → ReadsAs (Fits raw) (bucket_asked raw words name route.PutVersioning)
reads-versioning raw words name named = reads-bind Any (Fits raw) (from_body (status_body (codes "Enabled") (codes "Suspended") raw.body)) _
    (reads-status _ _ raw.body) (λ enabled any short. named)

-- a body's configuration is one
abbrev Lawful : List Rule → Type 0
Lawful rules = is_config rules ≡ true

reads-config : (r : Result (List Rule) ConfigFault) → IfOk r Lawful → ReadsAs Lawful (from_config r)
reads-config (Ok rules) h = h
reads-config (Err config.MalformedJson) h = tt
reads-config (Err (config.InvalidRequest rule kind)) h = tt
reads-config (Err config.OutOfMemory) h = tt

reads-recorded : (raw : RawRequest) (name : List ℕ) (rules : List Rule) → Named name → Lawful rules → ReadsAs (Fits raw) (if_recorded name rules)
reads-recorded raw name rules named lawful = go (fits_record name rules) refl
  where
    go : (b : Bool) → fits_record name rules ≡ b → ReadsAs (Fits raw) (if b then Ok (request.PutReplication name rules) else Err problem.ConfigurationTooLong)
    go true is = λ short. (named, lawful, is)
    go false is = tt

reads-replication : (raw : RawRequest) (name : List ℕ) → Named name → ReadsAs (Fits raw) (replication_request raw name)
reads-replication raw name named =
    reads-bind Lawful (Fits raw) (from_config (config_body raw.body)) _ (reads-config (config_body raw.body) (body_lawful raw.body))
    (λ rules lawful. reads-recorded raw name rules named lawful)

abbrev Least : ℕ → Type 0
Least limit = 1 ≤ limit

reads-limit : (words : List Pair) → ReadsAs Least (limit_asked words)
reads-limit words = reads-bind Least Least (routed (limit_of words)) _ (reads-routed Least (limit_of words) (limit-least words))
    (λ limit least. go limit least _)
  where
    go : (limit : ℕ) → Least limit → (b : Bool) → ReadsAs Least (if b then Err problem.InvalidQuery else Ok limit)
    go limit least true = tt
    go limit least false = least

reads-id : (text : Option (List ℕ)) → ReadsAs Any (id_behind text)
reads-id None = tt
reads-id (Some text) = reads-bind Any Any (routed (version_named text)) _ (reads-routed Any (version_named text) (any-route _)) (λ id any. tt)

reads-place : (key id : Option (List ℕ)) → ReadsAs Any (place_behind key id)
reads-place None id = tt
reads-place (Some key) id = reads-bind Keyed Any (routed (key_named key)) _ (reads-key key)
    (λ k keyed. reads-bind Any Any (id_behind id) _ (reads-id id) (λ version any. tt))

reads-list : (raw : RawRequest) (words : List Pair) (name : List ℕ) → ReadsAs (Fits raw) (list_request words name)
reads-list raw words name =
    reads-bind Least (Fits raw) (limit_asked words) _ (reads-limit words)
    (λ limit least. reads-bind Any (Fits raw) (place_behind (given word.KeyMarker words) (given word.VersionIdMarker words)) _
    (reads-place (given word.KeyMarker words) (given word.VersionIdMarker words)) (λ after any short. least))

reads-bucket_asked : (raw : RawRequest) (words : List Pair) (name : List ℕ) (r : Route) → Named name → ReadsAs (Fits raw) (bucket_asked raw words name r)
reads-bucket_asked raw words name route.CreateBucket named = reads-create raw words name named
reads-bucket_asked raw words name route.HeadBucket named = λ short. tt
reads-bucket_asked raw words name route.DeleteBucket named = λ short. named
reads-bucket_asked raw words name route.PutVersioning named = reads-versioning raw words name named
reads-bucket_asked raw words name route.GetVersioning named = λ short. tt
reads-bucket_asked raw words name route.PutReplication named = reads-replication raw name named
reads-bucket_asked raw words name route.GetReplication named = λ short. tt
reads-bucket_asked raw words name route.DeleteReplication named = λ short. named
reads-bucket_asked raw words name route.ListVersions named = reads-list raw words name
reads-bucket_asked raw words name other named = tt

reads-asked : (raw : RawRequest) (place : Target) → ReadsAs Any (asked_at raw place)
reads-asked raw place =
    reads-bind Any Any (routed (query.read raw.target)) _ (reads-routed Any (query.read raw.target) (any-route _))
    (λ words any. reads-bind Any Any (routed (route_of place raw.method words)) _ (reads-routed Any (route_of place raw.method words) (any-route _))
    (λ r any. tt))

reads-bucket : (raw : RawRequest) (bytes : List ℕ) → ReadsAs (Fits raw) (bucket_request raw bytes)
unfolding bucket_request
reads-bucket raw bytes =
    reads-bind Named (Fits raw) (routed (bucket_named bytes)) _ (reads-name bytes)
    (λ name named. reads-bind Any (Fits raw) (asked_at raw (bucket bytes)) _ (reads-asked raw (bucket bytes))
    (λ asked any. reads-bucket_asked raw asked.words name asked.route named))

-- ---- an object's requests

abbrev IsWritten : RawRequest → Written → Type 0
IsWritten raw put = Set put.tags × Classed put.class × (put.body ≡ raw.body)

reads-written : (raw : RawRequest) → ReadsAs (IsWritten raw) (written_by raw)
reads-written raw =
    reads-bind Set (IsWritten raw) (tags_by raw) _ (reads-tags (first_line (codes "x-amz-tagging") raw))
    (λ tags set. reads-bind Any (IsWritten raw) (hold_by raw) _ (reads-hold (first_line (codes "x-amz-object-lock-legal-hold") raw))
    (λ hold any. reads-bind Classed (IsWritten raw) (class_by raw) _ (reads-class (first_line (codes "x-amz-storage-class") raw))
    (λ class classed. (set, classed, refl))))

reads-put : (raw : RawRequest) (name key : List ℕ) → Named name → Keyed key → ReadsAs (Fits raw) (put_request raw name key)
reads-put raw name key named keyed =
    reads-bind (IsWritten raw) (Fits raw) (written_by raw) _ (reads-written raw)
    (λ put is short. (named, keyed, is.0, is.1, subst (λ (body : List ℕ). length body ≤ 4194304) (sym is.2) short))

reads-version_asked : (raw : RawRequest) (name key : List ℕ) (version : Option VersionId) (r : Route) → Named name → Keyed key → IsNamed version
    → ReadsAs (Fits raw) (version_asked raw name key version r)
reads-version_asked raw name key version route.GetObject named keyed is = λ short. tt
reads-version_asked raw name key version route.DeleteObject named keyed is = λ short. ((named, keyed), is)
reads-version_asked raw name key version route.DeleteVersion named keyed is = λ short. ((named, keyed), is)
reads-version_asked raw name key version route.PutTags named keyed is =
    reads-bind Set (Fits raw) (from_body (tags_body raw.body)) _ (reads-tags_body raw.body) (λ tags set short. ((named, keyed), set))
reads-version_asked raw name key version route.GetTags named keyed is = λ short. tt
reads-version_asked raw name key version route.DeleteTags named keyed is = λ short. ((named, keyed), refl)
reads-version_asked raw name key version route.PutHold named keyed is =
    reads-bind Any (Fits raw) (from_body (status_body (codes "ON") (codes "OFF") raw.body)) _ (reads-status _ _ raw.body) (λ hold any short. (named, keyed))
reads-version_asked raw name key version route.GetHold named keyed is = λ short. tt
reads-version_asked raw name key version other named keyed is = tt

reads-object_asked : (raw : RawRequest) (words : List Pair) (name key : List ℕ) (r : Route) → Named name → Keyed key
    → ReadsAs (Fits raw) (object_asked raw words name key r)
reads-object_asked raw words name key r named keyed = go (is_put r)
  where
    go : (b : Bool) → ReadsAs (Fits raw)
        (if b then put_request raw name key else (routed (version_of words) >>= λ version. version_asked raw name key version r))
    go true = reads-put raw name key named keyed
    go false = reads-bind IsNamed (Fits raw) (routed (version_of words)) _ (reads-version words)
        (λ version is. reads-version_asked raw name key version r named keyed is)

reads-object : (raw : RawRequest) (bytes written : List ℕ) → ReadsAs (Fits raw) (object_request raw bytes written)
unfolding object_request
reads-object raw bytes written =
    reads-bind Named (Fits raw) (routed (bucket_named bytes)) _ (reads-name bytes)
    (λ name named. reads-bind Keyed (Fits raw) (routed (key_written written)) _ (reads-key (percent_decode written))
    (λ key keyed. reads-bind Any (Fits raw) (asked_at raw (object bytes written)) _ (reads-asked raw (object bytes written))
    (λ asked any. reads-object_asked raw asked.words name key asked.route named keyed)))

-- ---- the desk's own requests

reads-copy : (raw : RawRequest) (words : List Pair) → ReadsAs (Fits raw) (copy_request words)
reads-copy raw words =
    reads-bind (Below 4294967295) (Fits raw) (number_asked 4294967295 word.From words) _ (reads-number_asked 4294967295 word.From words)
    (λ from low. reads-bind (Below 4294967295) (Fits raw) (number_asked 4294967295 word.To words) _ (reads-number_asked 4294967295 word.To words)
    (λ to low short. tt))

reads-desk_asked : (raw : RawRequest) (place : Target) (words : List Pair) (r : Route) → ReadsAs (Fits raw) (desk_asked raw place words r)
reads-desk_asked raw place words route.CreateJob = reads-job raw
reads-desk_asked raw place words route.DescribeJob = tt
reads-desk_asked raw place words route.SetJobPriority = reads-priority raw (job_at place) words (named-job place)
reads-desk_asked raw place words route.SetJobStatus = reads-job_status raw (job_at place) words (named-job place)
reads-desk_asked raw place words route.Copy = reads-copy raw words
reads-desk_asked raw place words route.JobTurn = reads-turn raw words
reads-desk_asked raw place words route.Work = reads-work raw words
reads-desk_asked raw place words route.Check = tt
reads-desk_asked raw place words route.CreateBucket = tt
reads-desk_asked raw place words route.HeadBucket = tt
reads-desk_asked raw place words route.DeleteBucket = tt
reads-desk_asked raw place words route.PutVersioning = tt
reads-desk_asked raw place words route.GetVersioning = tt
reads-desk_asked raw place words route.PutReplication = tt
reads-desk_asked raw place words route.GetReplication = tt
reads-desk_asked raw place words route.DeleteReplication = tt
reads-desk_asked raw place words route.ListVersions = tt
reads-desk_asked raw place words route.PutObject = tt
reads-desk_asked raw place words route.GetObject = tt
reads-desk_asked raw place words route.DeleteObject = tt
reads-desk_asked raw place words route.DeleteVersion = tt
reads-desk_asked raw place words route.PutTags = tt
reads-desk_asked raw place words route.GetTags = tt
reads-desk_asked raw place words route.DeleteTags = tt
reads-desk_asked raw place words route.PutHold = tt
reads-desk_asked raw place words route.GetHold = tt

reads-other : (raw : RawRequest) (place : Target) → ReadsAs (Fits raw) (other_request raw place)
reads-other raw place = reads-bind Any (Fits raw) (asked_at raw place) _ (reads-asked raw place)
    (λ asked any. reads-desk_asked raw place asked.words asked.route)

pub reads-at : (raw : RawRequest) (place : Target) → ReadsAs (Fits raw) (request_at raw place)
reads-at raw (bucket bytes) = reads-bucket raw bytes
reads-at raw (object bytes written) = reads-object raw bytes written
reads-at raw other = reads-other raw other

-- a result that is what is asked for has it too
pub fits : (raw : RawRequest) (result asked : Result Request Problem) → Gives result asked → ReadsAs (Fits raw) asked → length raw.body ≤ 4194304
    → IfOk result IsRequest
fits raw (Ok x) asked is h short = let same : ReadsAs (Fits raw) (Ok x) = rw is at h in same short
fits raw (Err p) asked is h short = tt

pub problems : (raw : RawRequest) (result asked : Result Request Problem) → Gives result asked → ReadsAs (Fits raw) asked → IfErr result IsOfRequest
problems raw (Ok x) asked is h = tt
problems raw (Err problem.OutOfMemory) asked is h = tt
problems raw (Err p) asked is h = rw is at h
