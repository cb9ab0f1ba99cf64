-- Jobs that are asked for, and bodies that are refused.
use Rattle.std.proofs.Common.{◌≡◌, ◌++◌, ℕ, List, [], ◌∷◌, true, false, Some, None, Result, Ok, Err, refl, codes}
use Rattle.std.specs.Str.{is_utf8, chars}
use Rattle.serde_json.proofs.OnLiterals.{serde_json_on_literals}
use Rattle.s3r_names.specs.Version.{hex_digits}
use Rattle.s3r_rules.specs.declared.fault.Kind.TheVariants as kind
use Rattle.s3r_jobs.specs.declared.spec.JobSpec.{JobSpec}
use Rattle.s3r_jobs.specs.declared.spec.Operation.{Operation}
use Rattle.s3r_jobs.specs.declared.spec.Operation.TheVariants as operations
use Rattle.s3r_json.specs.Bodies.{body_value}
use Rattle.s3r_json.specs.Members.{only_in}
use Rattle.s3r_json.specs.Tags.{tag_in}
use Rattle.s3r_jobs_json.specs.declared.fault.JobFault.{JobFault}
use Rattle.s3r_jobs_json.specs.declared.fault.JobFault.TheVariants.{MalformedJson, InvalidTag, InvalidRequest, InvalidArn, InvalidVersionId}
use Rattle.s3r_jobs_json.specs.Form.{draft_of}
use Rattle.s3r_jobs_json.specs.Limits.{spec_from}
use Rattle.s3r_jobs_json.specs.Reading.{job_body}

-- a body with this token, operation, priority, fields, place of the manifest and report, and further members
abbrev body : List ℕ → List ℕ → List ℕ → List ℕ → List ℕ → List ℕ → List ℕ → List ℕ
body token operation priority fields place report more =
    codes "{\"ClientRequestToken\":" ++ token ++ codes ",\"Operation\":" ++ operation ++ codes ",\"Priority\":" ++ priority
    ++ codes ",\"Manifest\":{\"Spec\":{\"Format\":\"S3BatchOperations_CSV_20180820\",\"Fields\":" ++ fields ++ codes "},\"Location\":" ++ place
    ++ codes "},\"Report\":" ++ report ++ more ++ codes "}"

abbrev tagging : List ℕ
tagging = codes "{\"S3PutObjectTagging\":{\"TagSet\":[{\"Key\":\"a\",\"Value\":\"1\"}]}}"

abbrev no_set : List ℕ
no_set = codes "{\"S3PutObjectTagging\":{\"TagSet\":[{\"Key\":\"\",\"Value\":\"1\"}]}}"

abbrev holding : List ℕ
holding = codes "{\"S3PutObjectLegalHold\":{\"LegalHold\":{\"Status\":\"OFF\"}}}"

abbrev place : List ℕ
place = codes "{\"ObjectArn\":\"arn:aws:s3:::lists/a/b\"}"

abbrev two : List ℕ
two = codes "[\"Bucket\",\"Key\"]"

abbrev off : List ℕ
off = codes "{\"Enabled\":false}"

-- one of which only these differ
abbrev read : List ℕ → List ℕ → List ℕ → List ℕ → Result JobSpec JobFault
read token operation priority at = job_body (body token operation priority two at off [])

-- one with this report and these further members
abbrev read_with : List ℕ → List ℕ → Result JobSpec JobFault
read_with report more = job_body (body (codes "\"t\"") tagging (codes "7") two place report more)

-- one with these fields
abbrev read_fields : List ℕ → Result JobSpec JobFault
read_fields fields = job_body (body (codes "\"t\"") tagging (codes "7") fields place off [])

abbrev asked : Operation → ℕ → JobSpec
asked operation priority = record {
  token = codes "t";
  priority = priority;
  confirm = false;
  operation = operation;
  manifest = record { versions = false; bucket = codes "lists"; key = codes "a/b"; version = None };
  report = None;
}

abbrev tags : Operation
tags = operations.Tagging (record { key = codes "a"; value = codes "1" } ∷ [])

-- ---- jobs

with_tags : read (codes "\"t\"") tagging (codes "7") place ≡ Ok (asked tags 7)
unfolding body_value only_in tag_in draft_of spec_from hex_digits is_utf8 chars lib.Utf8.encode serde_json_on_literals
with_tags = refl

greatest_priority : read (codes "\"t\"") holding (codes "2147483647") place ≡ Ok (asked (operations.Hold false) 2147483647)
unfolding body_value only_in tag_in draft_of spec_from hex_digits is_utf8 chars lib.Utf8.encode serde_json_on_literals
greatest_priority = refl

with_all : job_body (body (codes "\"t\"") holding (codes "0") (codes "[\"Bucket\",\"Key\",\"VersionId\"]")
    (codes "{\"ETag\":3,\"ObjectVersionId\":\"1-0000000000000002\",\"ObjectArn\":\"arn:aws:s3:::lists/a/b\"}")
    off (codes ",\"ConfirmationRequired\":true,\"AccountId\":null,\"RoleArn\":[],\"Description\":{},\"Tags\":0"))
    ≡ Ok (record {
      token = codes "t";
      priority = 0;
      confirm = true;
      operation = operations.Hold false;
      manifest = record { versions = true; bucket = codes "lists"; key = codes "a/b"; version = Some (record { region = 1; index = 2 }) };
      report = None;
    })
unfolding body_value only_in tag_in draft_of spec_from hex_digits is_utf8 chars lib.Utf8.encode serde_json_on_literals
with_all = refl

-- ---- other forms

copies : read (codes "\"t\"") (codes "{\"S3PutObjectCopy\":{\"TargetResource\":\"arn:aws:s3:::lists\"}}") (codes "7") place ≡ Err MalformedJson
unfolding body_value only_in tag_in draft_of spec_from hex_digits is_utf8 chars lib.Utf8.encode serde_json_on_literals
copies = refl

replicates : read (codes "\"t\"") (codes "{\"S3ReplicateObject\":{}}") (codes "7") place ≡ Err MalformedJson
unfolding body_value only_in tag_in draft_of spec_from hex_digits is_utf8 chars lib.Utf8.encode serde_json_on_literals
replicates = refl

no_operation : read (codes "\"t\"") (codes "{}") (codes "7") place ≡ Err MalformedJson
unfolding body_value only_in tag_in draft_of spec_from hex_digits is_utf8 chars lib.Utf8.encode serde_json_on_literals
no_operation = refl

hold_of_another_word : read (codes "\"t\"") (codes "{\"S3PutObjectLegalHold\":{\"LegalHold\":{\"Status\":\"On\"}}}") (codes "7") place ≡ Err MalformedJson
unfolding body_value only_in tag_in draft_of spec_from hex_digits is_utf8 chars lib.Utf8.encode serde_json_on_literals
hold_of_another_word = refl

two_operations : read (codes "\"t\"") (codes "{\"S3PutObjectTagging\":{\"TagSet\":[]},\"S3PutObjectLegalHold\":{\"LegalHold\":{\"Status\":\"ON\"}}}")
    (codes "7") place ≡ Err MalformedJson
unfolding body_value only_in tag_in draft_of spec_from hex_digits is_utf8 chars lib.Utf8.encode serde_json_on_literals
two_operations = refl

fraction : read (codes "\"t\"") tagging (codes "1.0") place ≡ Err MalformedJson
unfolding body_value only_in tag_in draft_of spec_from hex_digits is_utf8 chars lib.Utf8.encode serde_json_on_literals
fraction = refl

power : read (codes "\"t\"") tagging (codes "1e3") place ≡ Err MalformedJson
unfolding body_value only_in tag_in draft_of spec_from hex_digits is_utf8 chars lib.Utf8.encode serde_json_on_literals
power = refl

minus_zero : read (codes "\"t\"") tagging (codes "-0") place ≡ Err MalformedJson
unfolding body_value only_in tag_in draft_of spec_from hex_digits is_utf8 chars lib.Utf8.encode serde_json_on_literals
minus_zero = refl

too_long : read (codes "\"t\"") tagging (codes "18446744073709551616") place ≡ Err MalformedJson
unfolding body_value only_in tag_in draft_of spec_from hex_digits is_utf8 chars lib.Utf8.encode serde_json_on_literals
too_long = refl

priority_null : read (codes "\"t\"") tagging (codes "null") place ≡ Err MalformedJson
unfolding body_value only_in tag_in draft_of spec_from hex_digits is_utf8 chars lib.Utf8.encode serde_json_on_literals
priority_null = refl

token_null : read (codes "null") tagging (codes "7") place ≡ Err MalformedJson
unfolding body_value only_in tag_in draft_of spec_from hex_digits is_utf8 chars lib.Utf8.encode serde_json_on_literals
token_null = refl

version_null : read (codes "\"t\"") tagging (codes "7") (codes "{\"ObjectArn\":\"arn:aws:s3:::lists/a/b\",\"ObjectVersionId\":null}") ≡ Err MalformedJson
unfolding body_value only_in tag_in draft_of spec_from hex_digits is_utf8 chars lib.Utf8.encode serde_json_on_literals
version_null = refl

report_on : read_with (codes "{\"Enabled\":true}") [] ≡ Err MalformedJson
unfolding body_value only_in tag_in draft_of spec_from hex_digits is_utf8 chars lib.Utf8.encode serde_json_on_literals
report_on = refl

report_more : read_with (codes "{\"Enabled\":false,\"Prefix\":\"p\"}") [] ≡ Err MalformedJson
unfolding body_value only_in tag_in draft_of spec_from hex_digits is_utf8 chars lib.Utf8.encode serde_json_on_literals
report_more = refl

report_null : read_with (codes "null") [] ≡ Err MalformedJson
unfolding body_value only_in tag_in draft_of spec_from hex_digits is_utf8 chars lib.Utf8.encode serde_json_on_literals
report_null = refl

report_empty : read_with (codes "{}") [] ≡ Err MalformedJson
unfolding body_value only_in tag_in draft_of spec_from hex_digits is_utf8 chars lib.Utf8.encode serde_json_on_literals
report_empty = refl

confirm_null : read_with off (codes ",\"ConfirmationRequired\":null") ≡ Err MalformedJson
unfolding body_value only_in tag_in draft_of spec_from hex_digits is_utf8 chars lib.Utf8.encode serde_json_on_literals
confirm_null = refl

etag_elsewhere : read_with off (codes ",\"ETag\":\"x\"") ≡ Err MalformedJson
unfolding body_value only_in tag_in draft_of spec_from hex_digits is_utf8 chars lib.Utf8.encode serde_json_on_literals
etag_elsewhere = refl

generated : read_with off (codes ",\"ManifestGenerator\":{}") ≡ Err MalformedJson
unfolding body_value only_in tag_in draft_of spec_from hex_digits is_utf8 chars lib.Utf8.encode serde_json_on_literals
generated = refl

one_field : read_fields (codes "[\"Bucket\"]") ≡ Err MalformedJson
unfolding body_value only_in tag_in draft_of spec_from hex_digits is_utf8 chars lib.Utf8.encode serde_json_on_literals
one_field = refl

fields_turned : read_fields (codes "[\"Key\",\"Bucket\"]") ≡ Err MalformedJson
unfolding body_value only_in tag_in draft_of spec_from hex_digits is_utf8 chars lib.Utf8.encode serde_json_on_literals
fields_turned = refl

four_fields : read_fields (codes "[\"Bucket\",\"Key\",\"VersionId\",\"X\"]") ≡ Err MalformedJson
unfolding body_value only_in tag_in draft_of spec_from hex_digits is_utf8 chars lib.Utf8.encode serde_json_on_literals
four_fields = refl

field_of_another_word : read_fields (codes "[\"Bucket\",\"Key\",\"Version\"]") ≡ Err MalformedJson
unfolding body_value only_in tag_in draft_of spec_from hex_digits is_utf8 chars lib.Utf8.encode serde_json_on_literals
field_of_another_word = refl

-- ---- what is wrong first

form_before_tags : read (codes "\"t\"") no_set (codes "1.5") place ≡ Err MalformedJson
unfolding body_value only_in tag_in draft_of spec_from hex_digits is_utf8 chars lib.Utf8.encode serde_json_on_literals
form_before_tags = refl

tags_before_token : read (codes "\"\"") no_set (codes "-1") (codes "{\"ObjectArn\":\"arn:aws:s3:::lists\",\"ObjectVersionId\":\"x\"}") ≡ Err InvalidTag
unfolding body_value only_in tag_in draft_of spec_from hex_digits is_utf8 chars lib.Utf8.encode serde_json_on_literals
tags_before_token = refl

token_before_priority : read (codes "\"\"") tagging (codes "-1") (codes "{\"ObjectArn\":\"arn:aws:s3:::lists\",\"ObjectVersionId\":\"x\"}")
    ≡ Err (InvalidRequest kind.Token)
unfolding body_value only_in tag_in draft_of spec_from hex_digits is_utf8 chars lib.Utf8.encode serde_json_on_literals
token_before_priority = refl

below_range : read (codes "\"t\"") tagging (codes "-1") (codes "{\"ObjectArn\":\"arn:aws:s3:::lists\",\"ObjectVersionId\":\"x\"}")
    ≡ Err (InvalidRequest kind.Priority)
unfolding body_value only_in tag_in draft_of spec_from hex_digits is_utf8 chars lib.Utf8.encode serde_json_on_literals
below_range = refl

above_range : read (codes "\"t\"") tagging (codes "2147483648") (codes "{\"ObjectArn\":\"arn:aws:s3:::lists\",\"ObjectVersionId\":\"x\"}")
    ≡ Err (InvalidRequest kind.Priority)
unfolding body_value only_in tag_in draft_of spec_from hex_digits is_utf8 chars lib.Utf8.encode serde_json_on_literals
above_range = refl

arn_before_version : read (codes "\"t\"") tagging (codes "7") (codes "{\"ObjectArn\":\"arn:aws:s3:::lists\",\"ObjectVersionId\":\"x\"}") ≡ Err InvalidArn
unfolding body_value only_in tag_in draft_of spec_from hex_digits is_utf8 chars lib.Utf8.encode serde_json_on_literals
arn_before_version = refl

version_last : read (codes "\"t\"") tagging (codes "7") (codes "{\"ObjectArn\":\"arn:aws:s3:::lists/a/b\",\"ObjectVersionId\":\"\"}") ≡ Err InvalidVersionId
unfolding body_value only_in tag_in draft_of spec_from hex_digits is_utf8 chars lib.Utf8.encode serde_json_on_literals
version_last = refl
