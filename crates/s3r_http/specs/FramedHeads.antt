-- What a head asks for.
use Rattle.std.specs.Prelude.{◌≡◌, ℕ, List, map}
use Rattle.httparse.specs.Grammar.{RequestHead}
use Rattle.s3r_http.specs.declared.reading.FramedHead.{FramedHead}
use Rattle.s3r_http.specs.declared.lines.ParsedHead.{ParsedHead}
use Rattle.s3r_http.specs.declared.message.RawRequest.{RawRequest}
use Rattle.s3r_http.specs.Lines.{line_of, is_last}
use Rattle.s3r_http.specs.Request.{Asks}
use Rattle.s3r_http.specs.Parsed.{IsHeadOf}

pub record IsFramedHead (bytes : List ℕ) (plan : FramedHead) : Type 0 where
  pub head : RequestHead
  pub asks : Asks bytes head plan.body
  pub parts : IsHeadOf head plan.head

-- it has the parts of this head and this body
pub record IsRawOf (parts : ParsedHead) (content : List ℕ) (raw : RawRequest) : Type 0 where
  pub method : raw.method ≡ parts.method
  pub target : raw.target ≡ parts.target
  pub fields : raw.fields ≡ parts.fields.items
  pub body : raw.body ≡ content
  pub last : raw.last ≡ is_last parts.minor (map line_of parts.fields.items)
