-- Why no request is read.
use Rattle.std.specs.Prelude.{◌≡◌, ◌⊎◌, ℕ, ◌+◌, ◌<◌, ◌≤◌, true, false, List, ◌++◌, length, Some, codes, ⊤}
use Rattle.httparse.specs.Grammar.{RequestHead}
use Rattle.s3r_http.specs.declared.message.HttpFault.{HttpFault}
use Rattle.s3r_http.specs.declared.message.HttpFault.TheVariants.{BadHead, HeadTooLong, BadLength, EntityTooLarge, NotImplemented, CutShort, Input, OutOfMemory}
use Rattle.s3r_http.specs.Head.{head_length, BeginsTooLong, EndsInHead}
use Rattle.s3r_http.specs.Lines.{Line, has_line, values_of, SayLength}
use Rattle.s3r_http.specs.Request.{IsWholeHead, lines_of, Asks}

-- the bytes up to the end of the first empty line
pub record BeginsHead (stream bytes : List ℕ) : Type 0 where
  pub rest : List ℕ
  pub is : stream ≡ bytes ++ rest
  pub ends : head_length bytes ≡ Some (length bytes)
  pub short : length bytes ≤ 16384

-- why no body follows header lines
abbrev pub LinesCause : HttpFault → List Line → Type 0
LinesCause NotImplemented lines = has_line (codes "transfer-encoding") lines ≡ true
LinesCause BadLength lines = (has_line (codes "transfer-encoding") lines ≡ false) × ((n : ℕ) → SayLength (values_of (codes "content-length") lines) n → ⊥)
LinesCause EntityTooLarge lines = (has_line (codes "transfer-encoding") lines ≡ false) × (n : ℕ) × SayLength (values_of (codes "content-length") lines) n
    × (4194304 < n)
LinesCause OutOfMemory lines = ⊤
LinesCause fault lines = ⊥

-- why bytes are the head of no request
abbrev pub HeadCause : HttpFault → List ℕ → Type 0
HeadCause BadHead bytes = (h : RequestHead) → IsWholeHead bytes h → ⊥
HeadCause OutOfMemory bytes = ⊤
HeadCause fault bytes = (h : RequestHead) × IsWholeHead bytes h × LinesCause fault (lines_of h)

-- the bytes end inside the body that their head asks for
pub record EndsInBody (stream : List ℕ) : Type 0 where
  pub bytes : List ℕ
  pub begins : BeginsHead stream bytes
  pub head : RequestHead
  pub body : ℕ
  pub asks : Asks bytes head body
  pub short : length stream < length bytes + body

-- neither an input that failed nor want of memory
abbrev pub IsRefusal : HttpFault → Type 0
IsRefusal Input = ⊥
IsRefusal OutOfMemory = ⊥
IsRefusal fault = ⊤

-- Why no request is read of the bytes that are to come. Of an input that failed, and of want of memory, they say
-- nothing.
abbrev pub IsCause : HttpFault → List ℕ → Type 0
IsCause Input stream = ⊤
IsCause OutOfMemory stream = ⊤
IsCause HeadTooLong stream = BeginsTooLong stream
IsCause CutShort stream = EndsInHead stream ⊎ EndsInBody stream
IsCause fault stream = (bytes : List ℕ) × BeginsHead stream bytes × HeadCause fault bytes
