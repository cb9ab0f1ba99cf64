-- The text of a request.
use Rattle.std.specs.Prelude.{◌≡◌, ◌≢◌, ℕ, ◌≤◌, false, List, [], ◌++◌, length, map, codes, Some, Option, None}
use Rattle.httparse.specs.Grammar.{RequestHead, ReadsRequest}
use Rattle.httparse.specs.Spans.{name_and_value}
use Rattle.s3r_http.specs.declared.message.RawRequest.{RawRequest}
use Rattle.s3r_http.specs.Head.{head_length}
use Rattle.s3r_http.specs.Lines.{Line, line_of, has_line, values_of, is_last, SayLength}

-- the bytes are, as a whole, a request head of the parser's default grammar with at most 64 header lines
abbrev pub IsWholeHead : List ℕ → RequestHead → Type 0
IsWholeHead bytes h = ReadsRequest bytes h [] × (length h.fields ≤ 64)

abbrev pub lines_of : RequestHead → List Line
lines_of h = map name_and_value h.fields

-- a body of this length follows header lines
pub record AsksBody (lines : List Line) (n : ℕ) : Type 0 where
  pub plain : has_line (codes "transfer-encoding") lines ≡ false
  pub says : SayLength (values_of (codes "content-length") lines) n
  pub small : n ≤ 4194304

-- these bytes are a head with a body of this length behind it
pub record Asks (bytes : List ℕ) (h : RequestHead) (n : ℕ) : Type 0 where
  pub whole : IsWholeHead bytes h
  pub body : AsksBody (lines_of h) n

-- These bytes are the text of a request: a head up to its first empty line, and so many bytes of body as it says.
pub record SpellsRequest (raw : RawRequest) (text : List ℕ) : Type 0 where
  pub head : RequestHead
  pub bytes : List ℕ
  pub ends : head_length bytes ≡ Some (length bytes)
  pub short : length bytes ≤ 16384
  pub asks : Asks bytes head (length raw.body)
  pub method : raw.method ≡ head.method
  pub target : raw.target ≡ head.target
  pub fields : map line_of raw.fields ≡ lines_of head
  pub last : raw.last ≡ is_last head.minor (lines_of head)
  pub is : text ≡ bytes ++ raw.body

-- bytes are there, and no request stands at their front
abbrev pub BeginsNone : List ℕ → Type 0
BeginsNone stream = (stream ≢ []) × ((raw : RawRequest) (text rest : List ℕ) → SpellsRequest raw text → stream ≡ text ++ rest → ⊥)

-- what was read of the bytes that were to come, and what is to come now
abbrev pub ReadsSome : Option RawRequest → List ℕ → List ℕ → Type 0
ReadsSome None old new = (old ≡ []) × (new ≡ [])
ReadsSome (Some raw) old new = (text : List ℕ) × SpellsRequest raw text × (old ≡ text ++ new)
