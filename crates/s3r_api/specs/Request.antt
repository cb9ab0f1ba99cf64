-- Which request of the desk a framed request is.
use Rattle.std.specs.Prelude.{ℕ, Bool, true, false, if◌then◌else◌, is_some, List, [], Option, Some, None, Result, Ok, Err, codes, ◌&&◌, not}
use Rattle.std.specs.Str.{bytes_eq}
use Rattle.s3r_names.specs.declared.version.VersionId.{VersionId}
use Rattle.s3r_rules.specs.declared.rule.Rule.{Rule}
use Rattle.s3r_rules_json.specs.Reading.{config_body}
use Rattle.s3r_record.specs.Spelling.{fits_record}
use Rattle.s3r_http.specs.declared.message.RawRequest.{RawRequest}
use Rattle.s3r_json.specs.Status.{status_body}
use Rattle.s3r_json.specs.Tags.{tags_body}
use Rattle.s3r_routes.specs.Target.{Target, bucket, object, path_of, place_of}
use Rattle.s3r_routes.specs.Query as query
use Rattle.s3r_routes.specs.Query.{Pair}
use Rattle.s3r_routes.specs.declared.words.Word.TheVariants as word
use Rattle.s3r_routes.specs.declared.rows.Route.{Route}
use Rattle.s3r_routes.specs.declared.rows.Route.TheVariants as route
use Rattle.s3r_routes.specs.Rows.{route_of}
use Rattle.s3r_routes.specs.Names.{bucket_named, key_named, key_written, version_named}
use Rattle.s3r_routes.specs.Values.{given, limit_of, version_of}
use Rattle.s3r_versions.specs.declared.listing.ListPosition.{ListPosition as Behind}
use Rattle.s3r_desk.specs.declared.request.Request.{Request}
use Rattle.s3r_desk.specs.declared.request.Request.TheVariants as request
use Rattle.s3r_api.specs.declared.request.Written.{Written}
use Rattle.s3r_api.specs.declared.problem.Problem.{Problem}
use Rattle.s3r_api.specs.declared.problem.Problem.TheVariants.{NoSuchRoute, UnknownQuery, InvalidQuery, ConfigurationTooLong}
use Rattle.s3r_api.specs.Faults.{◌>>=◌, routed, from_body, from_config}
use Rattle.s3r_api.specs.Numbers.{number_asked}
use Rattle.s3r_api.specs.Jobs.{job_request, job_at, priority_request, status_request, turn_request, work_request}
use Rattle.s3r_api.specs.Location.{region_of}
use Rattle.s3r_api.specs.Lines.{locked_by, tags_by, hold_by, class_by}

-- the method is HEAD
abbrev pub is_head : RawRequest → Bool
is_head raw = bytes_eq raw.method (codes "HEAD")

-- ---- a listing's words

abbrev pub or_empty : Option (List ℕ) → List ℕ
or_empty None = []
or_empty (Some text) = text

-- a version's marker says something beside a key's alone
abbrev pub limit_asked : List Pair → Result ℕ Problem
limit_asked words = routed (limit_of words) >>= λ limit.
    if is_some (given word.VersionIdMarker words) && not (is_some (given word.KeyMarker words)) then Err InvalidQuery else Ok limit

abbrev pub id_behind : Option (List ℕ) → Result (Option VersionId) Problem
id_behind None = Ok None
id_behind (Some text) = routed (version_named text) >>= λ id. Ok (Some id)

-- the place behind which the page begins
abbrev pub place_behind : Option (List ℕ) → Option (List ℕ) → Result (Option Behind) Problem
place_behind None id = Ok None
place_behind (Some key) id = routed (key_named key) >>= λ k. id_behind id >>= λ version. Ok (Some (record { key = k; id = version }))

abbrev pub list_request : List Pair → List ℕ → Result Request Problem
list_request words name = do
  limit ← limit_asked words
  after ← place_behind (given word.KeyMarker words) (given word.VersionIdMarker words)
  Ok (request.ListVersions name (or_empty (query.value word.Prefix words)) after limit)

-- ---- the words of a copy

-- The sender is looked at first. Whether there are such regions isn't asked here.
abbrev pub copy_request : List Pair → Result Request Problem
copy_request words = do
  from ← number_asked 4294967295 word.From words
  to ← number_asked 4294967295 word.To words
  Ok (request.Copy from to)

-- ---- what is asked of a bucket

abbrev pub create_request : RawRequest → List ℕ → Result Request Problem
create_request raw name = locked_by raw >>= λ locked. region_of raw.body >>= λ region. Ok (request.CreateBucket name region locked)

abbrev pub versioning_request : RawRequest → List ℕ → Result Request Problem
versioning_request raw name = from_body (status_body (codes "Enabled") (codes "Suspended") raw.body) >>= λ enabled. Ok (request.PutVersioning name enabled)

-- a configuration is taken where a record can hold its command
abbrev pub if_recorded : List ℕ → List Rule → Result Request Problem
if_recorded name config = if fits_record name config then Ok (request.PutReplication name config) else Err ConfigurationTooLong

abbrev pub replication_request : RawRequest → List ℕ → Result Request Problem
replication_request raw name = from_config (config_body raw.body) >>= if_recorded name

abbrev pub bucket_asked : RawRequest → List Pair → List ℕ → Route → Result Request Problem
bucket_asked raw words name route.CreateBucket = create_request raw name
bucket_asked raw words name route.HeadBucket = Ok (request.HeadBucket name)
bucket_asked raw words name route.DeleteBucket = Ok (request.DeleteBucket name)
bucket_asked raw words name route.PutVersioning = versioning_request raw name
bucket_asked raw words name route.GetVersioning = Ok (request.GetVersioning name)
bucket_asked raw words name route.PutReplication = replication_request raw name
bucket_asked raw words name route.GetReplication = Ok (request.GetReplication name)
bucket_asked raw words name route.DeleteReplication = Ok (request.DeleteReplication name)
bucket_asked raw words name route.ListVersions = list_request words name
bucket_asked raw words name other = Err UnknownQuery

-- ---- what is asked of an object

-- what a put's lines and its body say
abbrev pub written_by : RawRequest → Result Written Problem
written_by raw = do
  tags ← tags_by raw
  hold ← hold_by raw
  class ← class_by raw
  Ok (record { body = raw.body; tags = tags; hold = hold; class = class })

abbrev pub put_request : RawRequest → List ℕ → List ℕ → Result Request Problem
put_request raw name key = written_by raw >>= λ put. Ok (request.PutObject name key put.body put.tags put.hold put.class)

abbrev pub tags_request : RawRequest → List ℕ → List ℕ → Option VersionId → Result Request Problem
tags_request raw name key version = from_body (tags_body raw.body) >>= λ tags. Ok (request.PutTags name key version tags false)

abbrev pub hold_request : RawRequest → List ℕ → List ℕ → Option VersionId → Result Request Problem
hold_request raw name key version = from_body (status_body (codes "ON") (codes "OFF") raw.body) >>= λ hold. Ok (request.PutHold name key version hold)

-- of a version, or of the latest where none is named
abbrev pub version_asked : RawRequest → List ℕ → List ℕ → Option VersionId → Route → Result Request Problem
version_asked raw name key version route.GetObject = Ok (request.GetObject name key version (is_head raw))
version_asked raw name key version route.DeleteObject = Ok (request.DeleteObject name key version)
version_asked raw name key version route.DeleteVersion = Ok (request.DeleteObject name key version)
version_asked raw name key version route.PutTags = tags_request raw name key version
version_asked raw name key version route.GetTags = Ok (request.GetTags name key version)
version_asked raw name key version route.DeleteTags = Ok (request.PutTags name key version [] true)
version_asked raw name key version route.PutHold = hold_request raw name key version
version_asked raw name key version route.GetHold = Ok (request.GetHold name key version)
version_asked raw name key version other = Err UnknownQuery

abbrev pub is_put : Route → Bool
is_put route.PutObject = true
is_put other = false

abbrev pub object_asked : RawRequest → List Pair → List ℕ → List ℕ → Route → Result Request Problem
object_asked raw words name key r = if is_put r then put_request raw name key else
    (routed (version_of words) >>= λ version. version_asked raw name key version r)

-- ---- a target's place, its words and its row

-- the words of the target, and the row that they fit
pub record Asked : Type 0 where
  pub words : List Pair
  pub route : Route

abbrev pub asked_at : RawRequest → Target → Result Asked Problem
asked_at raw place = do
  words ← routed (query.read raw.target)
  route ← routed (route_of place raw.method words)
  Ok (record { words = words; route = route })

unfoldable pub bucket_request : RawRequest → List ℕ → Result Request Problem
bucket_request raw bytes = do
  name ← routed (bucket_named bytes)
  asked ← asked_at raw (bucket bytes)
  bucket_asked raw asked.words name asked.route

-- the key is as it was written
unfoldable pub object_request : RawRequest → List ℕ → List ℕ → Result Request Problem
object_request raw bytes written = do
  name ← routed (bucket_named bytes)
  key ← routed (key_written written)
  asked ← asked_at raw (object bytes written)
  object_asked raw asked.words name key asked.route

-- What a row asks of the desk itself. Two of its rows aren't built, and rows of buckets and objects are at no such place.
abbrev pub desk_asked : RawRequest → Target → List Pair → Route → Result Request Problem
desk_asked raw place words route.CreateJob = job_request raw
desk_asked raw place words route.DescribeJob = Err UnknownQuery
desk_asked raw place words route.SetJobPriority = priority_request (job_at place) words
desk_asked raw place words route.SetJobStatus = status_request (job_at place) words
desk_asked raw place words route.Copy = copy_request words
desk_asked raw place words route.JobTurn = turn_request words
desk_asked raw place words route.Work = work_request words
desk_asked raw place words route.Check = Err UnknownQuery
desk_asked raw place words route.CreateBucket = Err UnknownQuery
desk_asked raw place words route.HeadBucket = Err UnknownQuery
desk_asked raw place words route.DeleteBucket = Err UnknownQuery
desk_asked raw place words route.PutVersioning = Err UnknownQuery
desk_asked raw place words route.GetVersioning = Err UnknownQuery
desk_asked raw place words route.PutReplication = Err UnknownQuery
desk_asked raw place words route.GetReplication = Err UnknownQuery
desk_asked raw place words route.DeleteReplication = Err UnknownQuery
desk_asked raw place words route.ListVersions = Err UnknownQuery
desk_asked raw place words route.PutObject = Err UnknownQuery
desk_asked raw place words route.GetObject = Err UnknownQuery
desk_asked raw place words route.DeleteObject = Err UnknownQuery
desk_asked raw place words route.DeleteVersion = Err UnknownQuery
desk_asked raw place words route.PutTags = Err UnknownQuery
desk_asked raw place words route.GetTags = Err UnknownQuery
desk_asked raw place words route.DeleteTags = Err UnknownQuery
desk_asked raw place words route.PutHold = Err UnknownQuery
desk_asked raw place words route.GetHold = Err UnknownQuery

-- what is asked neither of a bucket nor of an object
abbrev pub other_request : RawRequest → Target → Result Request Problem
other_request raw place = asked_at raw place >>= λ asked. desk_asked raw place asked.words asked.route

abbrev pub request_at : RawRequest → Target → Result Request Problem
request_at raw (bucket name) = bucket_request raw name
request_at raw (object name key) = object_request raw name key
request_at raw other = other_request raw other

abbrev pub request_in : RawRequest → Option Target → Result Request Problem
request_in raw None = Err NoSuchRoute
request_in raw (Some place) = request_at raw place

-- The request that a framed request is, or the first reason why it is none: its path, then its names, its words, its
-- row, what its words say, its header lines and its body.
unfoldable pub request_of : RawRequest → Result Request Problem
request_of raw = request_in raw (place_of (path_of raw.target))
