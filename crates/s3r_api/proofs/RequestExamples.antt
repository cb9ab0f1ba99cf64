-- What some targets and bodies ask for.
use Rattle.std.proofs.Common.{◌≡◌, ℕ, true, false, List, [], ◌∷◌, ◌++◌, Result, Ok, Err, Some, None, codes, refl}
use Rattle.std.specs.Str.{is_utf8, chars}
use Rattle.percent_encoding.specs.Percent.{percent_decode}
use Rattle.form_urlencoded.specs.Form.{raw_pairs, split}
use Rattle.serde_json.proofs.OnLiterals.{serde_json_on_literals}
use Rattle.s3r_names.specs.Version.{hex_digits}
use Rattle.s3r_http.specs.declared.message.Field.{Field}
use Rattle.s3r_http.specs.declared.message.RawRequest.{RawRequest}
use Rattle.s3r_routes.specs.Target.{place_of}
use Rattle.s3r_routes.specs.Query.{read}
use Rattle.s3r_desk.specs.declared.request.Request.{Request}
use Rattle.s3r_desk.specs.declared.request.Request.TheVariants as request
use Rattle.s3r_api.specs.declared.problem.Problem.{Problem}
use Rattle.s3r_api.specs.declared.problem.Problem.TheVariants as problem
use Rattle.s3r_api.specs.Location.{region_of}
use Rattle.s3r_api.specs.Request.{bucket_request, object_request, request_of}

asked : List ℕ → List ℕ → List Field → List ℕ → RawRequest
asked method target fields body = record { method = method; target = target; fields = fields; body = body; last = false }

get : List ℕ → Result Request Problem
unfolding asked
get target = request_of (asked (codes "GET") target [] [])

create : List ℕ → Result Request Problem
unfolding asked
create body = request_of (asked (codes "PUT") (codes "/aaa") [] body)

object : get (codes "/aaa/a%20b/c") ≡ Ok (request.GetObject (codes "aaa") (codes "a b/c") None false)
unfolding get asked request_of place_of object_request read raw_pairs split percent_decode is_utf8 chars lib.Utf8.encode
object = refl

head : request_of (asked (codes "HEAD") (codes "/aaa/k") [] []) ≡ Ok (request.GetObject (codes "aaa") (codes "k") None true)
unfolding asked request_of place_of object_request read raw_pairs split percent_decode is_utf8 chars lib.Utf8.encode
head = refl

version : get (codes "/aaa//?versionId=0-000000000000001a") ≡ Ok (request.GetObject (codes "aaa") (codes "/") (Some (record { region = 0; index = 26 })) false)
unfolding get asked request_of place_of object_request read raw_pairs split percent_decode is_utf8 chars lib.Utf8.encode hex_digits
version = refl

empty_version : get (codes "/aaa/k?versionId=") ≡ Err problem.InvalidVersionId
unfolding get asked request_of place_of object_request read raw_pairs split percent_decode is_utf8 chars lib.Utf8.encode hex_digits
empty_version = refl

page : get (codes "/aaa?versions&key-marker=k&version-id-marker=&max-keys=7")
    ≡ Ok (request.ListVersions (codes "aaa") [] (Some (record { key = codes "k"; id = None })) 7)
unfolding get asked request_of place_of bucket_request read raw_pairs split percent_decode is_utf8 chars lib.Utf8.encode
page = refl

marker_of_no_key : get (codes "/aaa?versions&version-id-marker=x") ≡ Err problem.InvalidQuery
unfolding get asked request_of place_of bucket_request read raw_pairs split percent_decode is_utf8 chars lib.Utf8.encode
marker_of_no_key = refl

no_name : get (codes "//k?%ff") ≡ Err problem.InvalidBucketName
unfolding get asked request_of place_of object_request
no_name = refl

top : get (codes "/?x") ≡ Err problem.NoSuchRoute
unfolding get asked request_of place_of
top = refl

jobs : get (codes "/v20180820/jobs/x") ≡ Err problem.UnknownQuery
unfolding get asked request_of place_of read raw_pairs split percent_decode is_utf8 chars lib.Utf8.encode
jobs = refl

copy : List ℕ → Result Request Problem
unfolding asked
copy words = request_of (asked (codes "POST") (codes "/_s3r/copy?" ++ words) [] (codes "x"))

from_0_to_1 : copy (codes "to=1&from=0") ≡ Ok (request.Copy 0 1)
unfolding copy asked request_of place_of read raw_pairs split percent_decode is_utf8 chars lib.Utf8.encode
from_0_to_1 = refl

no_receiver : copy (codes "from=0") ≡ Err problem.InvalidQuery
unfolding copy asked request_of place_of read raw_pairs split percent_decode is_utf8 chars lib.Utf8.encode
no_receiver = refl

leading_zero : copy (codes "from=01&to=1") ≡ Err problem.InvalidQuery
unfolding copy asked request_of place_of read raw_pairs split percent_decode is_utf8 chars lib.Utf8.encode
leading_zero = refl

other_method : get (codes "/aaa/") ≡ Err problem.WrongMethod
unfolding get asked request_of place_of bucket_request read raw_pairs split percent_decode is_utf8 chars lib.Utf8.encode
other_method = refl

first_region : create [] ≡ Ok (request.CreateBucket (codes "aaa") (Some 0) false)
unfolding create asked request_of place_of bucket_request region_of read raw_pairs split percent_decode is_utf8 chars lib.Utf8.encode
first_region = refl

last_counts : create (codes "{\"LocationConstraint\":3, \"LocationConstraint\":\"r2\"}") ≡ Ok (request.CreateBucket (codes "aaa") (Some 2) false)
unfolding create asked request_of place_of bucket_request region_of serde_json_on_literals read raw_pairs split percent_decode is_utf8 chars lib.Utf8.encode
last_counts = refl

no_region : create (codes "{\"LocationConstraint\":\"r12\"}") ≡ Ok (request.CreateBucket (codes "aaa") None false)
unfolding create asked request_of place_of bucket_request region_of serde_json_on_literals read raw_pairs split percent_decode is_utf8 chars lib.Utf8.encode
no_region = refl

lock_word : List ℕ → Result Request Problem
unfolding asked
lock_word word = request_of (asked (codes "PUT") (codes "/aaa") (record { name = codes "X-Amz-Bucket-Object-Lock-Enabled"; value = word } ∷ []) [])

lock : lock_word (codes "True") ≡ Ok (request.CreateBucket (codes "aaa") (Some 0) true)
unfolding lock_word asked request_of place_of bucket_request region_of read raw_pairs split percent_decode is_utf8 chars lib.Utf8.encode
lock = refl

no_lock : lock_word (codes "1") ≡ Err problem.InvalidQuery
unfolding lock_word asked request_of place_of bucket_request region_of read raw_pairs split percent_decode is_utf8 chars lib.Utf8.encode
no_lock = refl
