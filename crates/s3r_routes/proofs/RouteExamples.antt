-- What some targets ask for.
use Rattle.std.proofs.Common.{◌≡◌, [], ◌∷◌, Ok, Err, Some, None, codes, refl}
use Rattle.std.specs.Str.{is_utf8, chars}
use Rattle.percent_encoding.specs.Percent.{percent_decode}
use Rattle.form_urlencoded.specs.Form.{raw_pairs, split}
use Rattle.s3r_names.specs.Version.{hex_digits}
use Rattle.s3r_routes.specs.declared.fault.RouteFault.TheVariants as fault
use Rattle.s3r_routes.specs.declared.rows.Route.TheVariants as route
use Rattle.s3r_routes.specs.declared.words.Word.TheVariants as word
use Rattle.s3r_routes.specs.Target.{bucket, object, jobs, job_status, copy, place_of}
use Rattle.s3r_routes.specs.Query.{read}
use Rattle.s3r_routes.specs.Rows.{route_of}
use Rattle.s3r_routes.specs.Names.{key_written, version_named}
use Rattle.s3r_routes.specs.Values.{limit_of, given}

slash : place_of (codes "/aaa//") ≡ Some (object (codes "aaa") (codes "/"))
unfolding place_of
slash = refl

no_key : place_of (codes "/aaa/") ≡ Some (bucket (codes "aaa"))
unfolding place_of
no_key = refl

no_job : place_of (codes "/v20180820/jobs/x/y") ≡ Some (object (codes "v20180820") (codes "jobs/x/y"))
unfolding place_of
no_job = refl

status : place_of (codes "/v20180820/jobs/x/status") ≡ Some (job_status (codes "x"))
unfolding place_of
status = refl

top : place_of (codes "/") ≡ None
unfolding place_of
top = refl

words : read (codes "/aaa?versions&x-id=L&prefix=a+b%2B&") ≡ Ok ((codes "versions", []) ∷ (codes "prefix", codes "a b+") ∷ [])
unfolding read raw_pairs split percent_decode is_utf8 chars lib.Utf8.encode
words = refl

no_text : read (codes "/aaa?x-id=%ff") ≡ Err fault.InvalidQuery
unfolding read raw_pairs split percent_decode is_utf8 chars lib.Utf8.encode
no_text = refl

no_get : route_of (bucket (codes "aaa")) (codes "GET") [] ≡ Err fault.WrongMethod
no_get = refl

two_subjects : route_of (bucket (codes "aaa")) (codes "GET") ((codes "versions", []) ∷ (codes "versioning", []) ∷ []) ≡ Err fault.UnknownQuery
two_subjects = refl

removal : route_of (object (codes "aaa") (codes "k")) (codes "DELETE") ((codes "versionId", []) ∷ []) ≡ Ok route.DeleteVersion
removal = refl

tags_gone : route_of (object (codes "aaa") (codes "k")) (codes "DELETE") ((codes "tagging", []) ∷ (codes "versionId", []) ∷ []) ≡ Ok route.DeleteTags
tags_gone = refl

made : route_of jobs (codes "POST") [] ≡ Ok route.CreateJob
made = refl

turn : route_of copy (codes "POST") ((codes "to", codes "1") ∷ []) ≡ Ok route.Copy
turn = refl

key : key_written (codes "a%2Fb+%zz") ≡ Ok (codes "a/b+%zz")
unfolding percent_decode is_utf8 chars lib.Utf8.encode
key = refl

id : version_named (codes "3-00000000000000ff") ≡ Ok (record { region = 3; index = 255 })
unfolding hex_digits
id = refl

index_zero : version_named (codes "3-0000000000000000") ≡ Err fault.InvalidVersionId
index_zero = refl

page : limit_of ((codes "max-keys", codes "1000") ∷ []) ≡ Ok 1000
page = refl

page_of_none : limit_of ((codes "max-keys", codes "0") ∷ []) ≡ Err fault.InvalidQuery
page_of_none = refl

empty_marker : given word.KeyMarker ((codes "key-marker", []) ∷ []) ≡ None
empty_marker = refl
