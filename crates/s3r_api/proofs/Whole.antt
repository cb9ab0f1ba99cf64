-- An answer whose body is at hand, and one to HEAD.
use Rattle.std.proofs.Common.{◌≡◌, ℕ, Bool, true, false, List, [], ◌++◌, length, Ok, refl, sym, ap}
use Rattle.std.proofs.lemmas.List.{append-nil}
use Rattle.s3r_http.specs.declared.message.Field.{Field}
use Rattle.s3r_http.specs.Response.{head_text, response_text}
use Rattle.s3r_desk.specs.declared.request.Answer.TheVariants.{Object}
use Rattle.s3r_desk.specs.declared.request.ObjectMetadata.{ObjectMetadata}
use Rattle.s3r_api.specs.Replies.{whole, object_fields}
use Rattle.s3r_api.specs.Texts.{reply_text, answer_text}

-- it is printed as it stands
pub whole_text : (status : ℕ) (fields : List Field) (body : List ℕ) (head last : Bool)
    → response_text status fields body head last ≡ reply_text (whole status fields body) head last
unfolding reply_text
whole_text status fields body true last = append-nil _
whole_text status fields body false last = refl

-- HEAD's answer is the beginning of GET's where the length is the body's
pub begins : (version : ObjectMetadata) (body : List ℕ) (last : Bool) → version.length ≡ length body
    → answer_text (Ok (Object version body)) false last ≡ answer_text (Ok (Object version [])) true last ++ body
unfolding reply_text
begins version body last same = ap (λ (n : ℕ). head_text 200 (object_fields version) n last ++ body) (sym same)
