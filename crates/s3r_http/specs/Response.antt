-- The text of an answer.
use Rattle.std.specs.Prelude.{ℕ, Bool, ◌==◌, if◌then◌else◌, List, [], ◌∷◌, ◌++◌, length, flat_map, codes, decimal, unwrap_or}
use Rattle.http.specs.StatusCode.{reason_phrase, code_digits}
use Rattle.s3r_http.specs.declared.message.Field.{Field}

-- a text and the end of its line
abbrev pub line : List ℕ → List ℕ
line text = text ++ 13 ∷ 10 ∷ []

-- the three digits of a status
unfoldable pub code_text : ℕ → List ℕ
code_text status = code_digits status

unfoldable pub status_line : ℕ → List ℕ
status_line status = line (codes "HTTP/1.1 " ++ code_text status ++ codes " " ++ unwrap_or (reason_phrase status) [])

abbrev pub field_line : Field → List ℕ
field_line field = line (field.name ++ codes ": " ++ field.value)

-- the length of the body, but for an answer that has none by its status
unfoldable pub length_line : ℕ → ℕ → List ℕ
length_line status length = if status == 204 then [] else line (codes "Content-Length: " ++ decimal length)

unfoldable pub last_line : Bool → List ℕ
last_line last = if last then line (codes "Connection: close") else []

-- what stands before a body of this length: the status, its lines, and an empty line
abbrev pub head_text : ℕ → List Field → ℕ → Bool → List ℕ
head_text status fields length last = status_line status ++ length_line status length ++ flat_map field_line fields ++ last_line last ++ line []

-- an answer: its head, and the body where the request wasn't HEAD
abbrev pub response_text : ℕ → List Field → List ℕ → Bool → Bool → List ℕ
response_text status fields body head last = head_text status fields (length body) last ++ (if head then [] else body)
