-- The texts of some answers.
use Rattle.std.proofs.Common.{◌≡◌, ℕ, Bool, true, false, List, [], ◌++◌, Some, None, Ok, Err, codes, refl}
use Rattle.std.specs.Fmt.{digits}
use Rattle.serde_json.proofs.OnLiterals.{serde_json_on_literals}
use Rattle.s3r_names.specs.Version.{hex_digits}
use Rattle.s3r_names.specs.declared.outcome.Status.{Status}
use Rattle.s3r_names.specs.declared.outcome.Status.TheVariants as status
use Rattle.s3r_history.specs.declared.refusal.Refusal.TheVariants as refusal
use Rattle.s3r_http.specs.Response.{code_text, status_line, length_line, last_line}
use Rattle.s3r_desk.specs.declared.fault.DeskFault.TheVariants as fault
use Rattle.s3r_desk.specs.declared.request.Answer.TheVariants as answer
use Rattle.s3r_desk.specs.declared.request.ObjectMetadata.{ObjectMetadata}
use Rattle.s3r_api.specs.declared.problem.Problem.TheVariants as problem
use Rattle.s3r_api.specs.Texts.{reply_text, answer_text, problem_text}

exists : answer_text (Ok (answer.Refused refusal.BucketAlreadyExists)) false false
    ≡ codes "HTTP/1.1 409 Conflict\r\nContent-Length: 30\r\nContent-Type: application/json\r\n\r\n{\"Code\":\"BucketAlreadyExists\"}"
unfolding reply_text status_line code_text length_line last_line digits serde_json_on_literals
exists = refl

cut_short : problem_text problem.CutShort false true
    ≡ codes "HTTP/1.1 400 Bad Request\r\nContent-Length: 19\r\nContent-Type: application/json\r\nConnection: close\r\n\r\n{\"Code\":\"CutShort\"}"
unfolding reply_text status_line code_text length_line last_line digits serde_json_on_literals
cut_short = refl

abbrev version : ℕ → ℕ → List ℕ → Status → Bool → Bool → ℕ → ObjectMetadata
version region index class status locked hold length = record {
  id = record { region = region; index = index };
  class = class;
  status = status;
  locked = locked;
  hold = hold;
  length = length;
}

abbrev plain : ObjectMetadata
plain = version 0 2 (codes "STANDARD") status.NoTask false false 2

object : answer_text (Ok (answer.Object plain (codes "hi"))) false false
    ≡ codes "HTTP/1.1 200 OK\r\nContent-Length: 2\r\nx-amz-version-id: 0-0000000000000002\r\n\r\nhi"
unfolding reply_text status_line code_text length_line last_line digits hex_digits
object = refl

-- HEAD tells the length of a body that isn't at hand
head : answer_text (Ok (answer.Object (version 3 255 (codes "STANDARD") status.NoTask false true 4194304) [])) true false
    ≡ codes "HTTP/1.1 200 OK\r\nContent-Length: 4194304\r\nx-amz-version-id: 3-00000000000000ff\r\n\r\n"
unfolding reply_text status_line code_text length_line last_line digits hex_digits
head = refl

locked : answer_text (Ok (answer.Object (version 0 2 (codes "GLACIER") status.Pending true false 2) (codes "hi"))) false false
    ≡ codes "HTTP/1.1 200 OK\r\nContent-Length: 2\r\nx-amz-object-lock-legal-hold: OFF\r\nx-amz-replication-status: PENDING\r\n"
    ++ codes "x-amz-storage-class: GLACIER\r\nx-amz-version-id: 0-0000000000000002\r\n\r\nhi"
unfolding reply_text status_line code_text length_line last_line digits hex_digits
locked = refl

gone : answer_text (Ok (answer.Gone (Some (record { region = 0; index = 3 })) true)) false false
    ≡ codes "HTTP/1.1 204 No Content\r\nx-amz-delete-marker: true\r\nx-amz-version-id: 0-0000000000000003\r\n\r\n"
unfolding reply_text status_line code_text length_line last_line digits hex_digits
gone = refl

bucket_gone : answer_text (Ok (answer.Gone None false)) false false ≡ codes "HTTP/1.1 204 No Content\r\n\r\n"
unfolding reply_text status_line code_text length_line last_line digits
bucket_gone = refl

marker_there : answer_text (Ok (answer.MarkerThere (record { region = 0; index = 3 }) false)) false false
    ≡ codes "HTTP/1.1 404 Not Found\r\nContent-Length: 20\r\nContent-Type: application/json\r\nx-amz-delete-marker: true\r\nx-amz-version-id: "
    ++ codes "0-0000000000000003\r\n\r\n{\"Code\":\"NoSuchKey\"}"
unfolding reply_text status_line code_text length_line last_line digits hex_digits serde_json_on_literals
marker_there = refl

hold_on : answer_text (Ok (answer.Hold true)) false false
    ≡ codes "HTTP/1.1 200 OK\r\nContent-Length: 15\r\nContent-Type: application/json\r\n\r\n{\"Status\":\"ON\"}"
unfolding reply_text status_line code_text length_line last_line digits serde_json_on_literals
hold_on = refl

done : answer_text (Ok answer.Done) false true ≡ codes "HTTP/1.1 200 OK\r\nContent-Length: 0\r\nConnection: close\r\n\r\n"
unfolding reply_text status_line code_text length_line last_line digits
done = refl

lock_needed : answer_text (Ok (answer.Refused refusal.LockNeeded)) false false
    ≡ codes "HTTP/1.1 400 Bad Request\r\nContent-Length: 54\r\nContent-Type: "
    ++ codes "application/json\r\n\r\n{\"Code\":\"InvalidRequest\",\"Kind\":\"LockNeeded\",\"Rule\":0}"
unfolding reply_text status_line code_text length_line last_line digits serde_json_on_literals
lock_needed = refl

damaged : answer_text (Err (fault.Damaged 3 16)) false false
    ≡ codes "HTTP/1.1 500 Internal Server Error\r\nContent-Length: 44\r\nContent-Type: "
    ++ codes "application/json\r\n\r\n{\"Code\":\"Damaged\",\"Offset\":16,\"Region\":\"r3\"}"
unfolding reply_text status_line code_text length_line last_line digits serde_json_on_literals
damaged = refl

full : answer_text (Err (fault.Full 1)) true false
    ≡ codes "HTTP/1.1 507 Insufficient Storage\r\nContent-Length: 35\r\nContent-Type: application/json\r\n\r\n"
unfolding reply_text status_line code_text length_line last_line digits serde_json_on_literals
full = refl
