-- What some requests about jobs are, and the texts of their answers.
use Rattle.std.proofs.Common.{◌≡◌, ℕ, true, false, List, [], ◌∷◌, ◌++◌, Result, Ok, Err, Some, None, codes, refl}
use Rattle.std.specs.Fmt.{digits}
use Rattle.std.specs.Str.{is_utf8, chars}
use Rattle.percent_encoding.specs.Percent.{percent_decode}
use Rattle.form_urlencoded.specs.Form.{raw_pairs, split}
use Rattle.serde_json.specs.Written.{compact_text}
use Rattle.serde_json.proofs.OnLiterals.{serde_json_on_literals}
use Rattle.s3r_names.specs.declared.version.VersionId.{VersionId}
use Rattle.s3r_names.specs.Version.{hex_digits}
use Rattle.s3r_http.specs.declared.message.RawRequest.{RawRequest}
use Rattle.s3r_json.specs.Bodies.{body_value}
use Rattle.s3r_json.specs.Members.{only_in}
use Rattle.s3r_json.specs.Tags.{tag_in}
use Rattle.s3r_jobs.specs.declared.spec.JobSpec.{JobSpec}
use Rattle.s3r_jobs.specs.declared.spec.Operation.TheVariants as operation
use Rattle.s3r_jobs.specs.declared.state.JobState.TheVariants as state
use Rattle.s3r_jobs.specs.declared.fault.Wanted.TheVariants as wanted
use Rattle.s3r_history.specs.declared.refusal.Refusal.TheVariants as refusal
use Rattle.s3r_jobs_json.specs.Form.{draft_of}
use Rattle.s3r_jobs_json.specs.Limits.{spec_from}
use Rattle.s3r_rules.specs.declared.fault.Kind.TheVariants as kind
use Rattle.s3r_routes.specs.Target.{place_of}
use Rattle.s3r_routes.specs.Query.{read}
use Rattle.s3r_desk.specs.declared.job_outcome.JobOutcome.TheVariants as came
use Rattle.s3r_desk.specs.declared.request.Request.{Request}
use Rattle.s3r_desk.specs.declared.request.Request.TheVariants as request
use Rattle.s3r_api.specs.declared.problem.Problem.{Problem}
use Rattle.s3r_api.specs.declared.problem.Problem.TheVariants as problem
use Rattle.s3r_api.specs.Jobs.{job_request}
use Rattle.s3r_api.specs.JobAnswers.{made_data, set_data, moved_data, step_data, work_data}
use Rattle.s3r_api.specs.Replies.{refusal_reply}
use Rattle.s3r_api.specs.Request.{request_of}

asked : List ℕ → List ℕ → RawRequest
asked target body = record { method = codes "POST"; target = target; fields = []; body = body; last = false }

-- ---- requests

-- with this operation and this manifest
create : List ℕ → List ℕ → Result Request Problem
unfolding asked
create work place = job_request (asked (codes "/v20180820/jobs") (codes "{\"ClientRequestToken\":\"t\",\"Operation\":" ++ work
    ++ codes ",\"Priority\":7,\"Manifest\":{\"Spec\":{\"Format\":\"S3BatchOperations_CSV_20180820\",\"Fields\":[\"Bucket\",\"Key\"]},"
    ++ codes "\"Location\":{\"ObjectArn\":\"" ++ place ++ codes "\"}},\"Report\":{\"Enabled\":false}}"))

abbrev tagging : List ℕ
tagging = codes "{\"S3PutObjectTagging\":{\"TagSet\":[{\"Key\":\"k\",\"Value\":\"v\"}]}}"

abbrev spec : JobSpec
spec = record {
  token = codes "t";
  priority = 7;
  confirm = false;
  operation = operation.Tagging (record { key = codes "k"; value = codes "v" } ∷ []);
  manifest = record { versions = false; bucket = codes "ops"; key = codes "m"; version = None };
  report = None;
}

tags : create tagging (codes "arn:aws:s3:::ops/m") ≡ Ok (request.CreateJob spec)
unfolding create asked body_value only_in tag_in draft_of spec_from hex_digits is_utf8 chars lib.Utf8.encode serde_json_on_literals
tags = refl

copies : create (codes "{\"S3PutObjectCopy\":{\"TargetResource\":\"arn:aws:s3:::ops\"}}") (codes "arn:aws:s3:::ops/m") ≡ Err problem.MalformedJson
unfolding create asked body_value only_in tag_in draft_of spec_from hex_digits is_utf8 chars lib.Utf8.encode serde_json_on_literals
copies = refl

no_object : create tagging (codes "arn:aws:s3:::ops") ≡ Err (problem.InvalidRequest 0 kind.BadArn)
unfolding create asked body_value only_in tag_in draft_of spec_from hex_digits is_utf8 chars lib.Utf8.encode serde_json_on_literals
no_object = refl

abbrev third : VersionId
third = record { region = 0; index = 3 }

-- without a body
post : List ℕ → Result Request Problem
unfolding asked
post target = request_of (asked target [])

no_body : post (codes "/v20180820/jobs") ≡ Err problem.MalformedJson
unfolding post asked request_of place_of body_value read raw_pairs split percent_decode is_utf8 chars lib.Utf8.encode serde_json_on_literals
no_body = refl

greatest_priority : post (codes "/v20180820/jobs/0-0000000000000003/priority?priority=2147483647") ≡ Ok (request.SetJobPriority (Some third) 2147483647)
unfolding post asked request_of place_of read raw_pairs split percent_decode is_utf8 chars lib.Utf8.encode hex_digits
greatest_priority = refl

too_great : post (codes "/v20180820/jobs/0-0000000000000003/priority?priority=2147483648") ≡ Err problem.InvalidQuery
unfolding post asked request_of place_of read raw_pairs split percent_decode is_utf8 chars lib.Utf8.encode hex_digits
too_great = refl

other_id : post (codes "/v20180820/jobs/3/status?requestedJobStatus=Ready") ≡ Ok (request.SetJobStatus None true)
unfolding post asked request_of place_of read raw_pairs split percent_decode is_utf8 chars lib.Utf8.encode hex_digits
other_id = refl

cancelled : post (codes "/v20180820/jobs/0-0000000000000003/status?requestedJobStatus=Cancelled") ≡ Ok (request.SetJobStatus (Some third) false)
unfolding post asked request_of place_of read raw_pairs split percent_decode is_utf8 chars lib.Utf8.encode hex_digits
cancelled = refl

other_status : post (codes "/v20180820/jobs/3/status?requestedJobStatus=Active") ≡ Err problem.InvalidQuery
unfolding post asked request_of place_of read raw_pairs split percent_decode is_utf8 chars lib.Utf8.encode hex_digits
other_status = refl

turn : post (codes "/_s3r/job?region=7") ≡ Ok (request.JobTurn 7)
unfolding post asked request_of place_of read raw_pairs split percent_decode is_utf8 chars lib.Utf8.encode
turn = refl

no_region : post (codes "/_s3r/job") ≡ Err problem.InvalidQuery
unfolding post asked request_of place_of read raw_pairs split percent_decode is_utf8 chars lib.Utf8.encode
no_region = refl

rounds : post (codes "/_s3r/work?rounds=100000") ≡ Ok (request.Work 100000)
unfolding post asked request_of place_of read raw_pairs split percent_decode is_utf8 chars lib.Utf8.encode
rounds = refl

too_many_rounds : post (codes "/_s3r/work?rounds=100001") ≡ Err problem.InvalidQuery
unfolding post asked request_of place_of read raw_pairs split percent_decode is_utf8 chars lib.Utf8.encode
too_many_rounds = refl

-- ---- answers

again : (refusal_reply (refusal.JobStatus state.Cancelled (wanted.State state.Cancelled))).body
    ≡ codes "{\"Code\":\"JobStatusException\",\"From\":\"Cancelled\",\"Wanted\":\"Cancelled\"}"
unfolding serde_json_on_literals
again = refl

other_spec : (refusal_reply (refusal.Idempotency third)).body ≡ codes "{\"Code\":\"IdempotencyException\",\"JobId\":\"0-0000000000000003\"}"
unfolding hex_digits serde_json_on_literals
other_spec = refl

made : compact_text (made_data third) ≡ codes "{\"JobId\":\"0-0000000000000003\"}"
unfolding hex_digits serde_json_on_literals
made = refl

set : compact_text (set_data third 10) ≡ codes "{\"JobId\":\"0-0000000000000003\",\"Priority\":10}"
unfolding digits hex_digits serde_json_on_literals
set = refl

moved : compact_text (moved_data third state.Cancelling) ≡ codes "{\"JobId\":\"0-0000000000000003\",\"Status\":\"Cancelling\"}"
unfolding hex_digits serde_json_on_literals
moved = refl

idle : compact_text (step_data came.Idle) ≡ codes "{\"Step\":\"Idle\"}"
unfolding serde_json_on_literals
idle = refl

stepped : compact_text (step_data (came.Moved third state.Active)) ≡ codes "{\"Job\":\"0-0000000000000003\",\"Step\":\"Active\"}"
unfolding hex_digits serde_json_on_literals
stepped = refl

lined : compact_text (step_data (came.Lined third 12)) ≡ codes "{\"Job\":\"0-0000000000000003\",\"Line\":12,\"Step\":\"Line\"}"
unfolding digits hex_digits serde_json_on_literals
lined = refl

ended : compact_text (step_data (came.Ended third state.Cancelled)) ≡ codes "{\"Job\":\"0-0000000000000003\",\"Step\":\"Cancelled\"}"
unfolding hex_digits serde_json_on_literals
ended = refl

-- a put that was carried by one round
worked : compact_text (work_data (record {
  applied = 1;
  ended = 0;
  gave_up = 0;
  lines = 0;
  moves = 0;
  refused = 0;
  retried = 0;
  rounds = 1;
})) ≡ codes "{\"Applied\":1,\"Ended\":0,\"GaveUp\":0,\"Lines\":0,\"Moves\":0,\"Refused\":0,\"Retried\":0,\"Rounds\":1}"
unfolding digits serde_json_on_literals
worked = refl
