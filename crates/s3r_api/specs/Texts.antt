-- Answers as bytes.
use Rattle.std.specs.Prelude.{◌≡◌, ℕ, Bool, true, false, List, [], ◌++◌, length, Result, Ok}
use Rattle.s3r_names.specs.declared.version.VersionId.{VersionId}
use Rattle.s3r_names.specs.Version.{IsVersionId, version_text}
use Rattle.s3r_http.specs.Response.{head_text, response_text}
use Rattle.s3r_desk.specs.declared.fault.DeskFault.{DeskFault}
use Rattle.s3r_desk.specs.declared.request.Answer.{Answer}
use Rattle.s3r_desk.specs.declared.request.Answer.TheVariants.{Object}
use Rattle.s3r_desk.specs.declared.request.ObjectMetadata.{ObjectMetadata}
use Rattle.s3r_api.specs.declared.problem.Problem.{Problem}
use Rattle.s3r_api.specs.Ids.{id_text}
use Rattle.s3r_api.specs.Replies.{Reply, answer_reply, problem_reply}

-- the answer to HEAD is what stands before a body of the length that is told
unfoldable pub reply_text : Reply → Bool → Bool → List ℕ
reply_text reply true last = head_text reply.status reply.fields reply.length last
reply_text reply false last = response_text reply.status reply.fields reply.body false last

abbrev pub answer_text : Result Answer DeskFault → Bool → Bool → List ℕ
answer_text answer head last = reply_text (answer_reply answer) head last

abbrev pub problem_text : Problem → Bool → Bool → List ℕ
problem_text problem head last = reply_text (problem_reply problem) head last

-- the text of a version's id is the one that ids are read by
abbrev pub IdsAreSpelled : Type 0
IdsAreSpelled = (id : VersionId) → IsVersionId id → id_text id ≡ version_text id

-- a version's answer to GET is the one to HEAD, and the body behind it
abbrev pub HeadBegins : Type 0
HeadBegins = (version : ObjectMetadata) (body : List ℕ) (last : Bool) → version.length ≡ length body
    → answer_text (Ok (Object version body)) false last ≡ answer_text (Ok (Object version [])) true last ++ body
