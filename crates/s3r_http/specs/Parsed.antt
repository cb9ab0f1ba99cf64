-- The parts of a head.
use Rattle.std.specs.Prelude.{◌≡◌, map}
use Rattle.httparse.specs.Grammar.{RequestHead}
use Rattle.s3r_http.specs.declared.lines.ParsedHead.{ParsedHead}
use Rattle.s3r_http.specs.Lines.{line_of}
use Rattle.s3r_http.specs.Request.{lines_of}

pub record IsHeadOf (h : RequestHead) (parts : ParsedHead) : Type 0 where
  pub method : parts.method ≡ h.method
  pub target : parts.target ≡ h.target
  pub minor : parts.minor ≡ h.minor
  pub fields : map line_of parts.fields.items ≡ lines_of h
