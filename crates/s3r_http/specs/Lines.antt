-- What the header lines of a request say.
use Rattle.std.specs.Prelude.{◌≡◌, ℕ, ◌+◌, ◌-◌, ◌*◌, ◌==◌, nat_le, ◌&&◌, ◌||◌, Bool, true, false, List, [], ◌∷◌, map, filter, fold, codes}
use Rattle.std.specs.List.{list_any, list_all}
use Rattle.std.specs.Str.{bytes_eq}
use Rattle.std.specs.Char.{to_ascii_lowercase}
use Rattle.s3r_http.specs.declared.message.Field.{Field}

-- a line's name and its value
abbrev pub Line : Type 0
Line = List ℕ × List ℕ

abbrev pub line_of : Field → Line
line_of field = (field.name, field.value)

-- the same text without regard to case
abbrev pub is_alike : List ℕ → List ℕ → Bool
is_alike a b = bytes_eq (map to_ascii_lowercase a) (map to_ascii_lowercase b)

abbrev pub has_line : List ℕ → List Line → Bool
has_line name lines = list_any (λ (line : Line). is_alike line.0 name) lines

-- the values of the lines of this name, in order
abbrev pub values_of : List ℕ → List Line → List (List ℕ)
values_of name lines = map (λ (line : Line). line.1) (filter (λ (line : Line). is_alike line.0 name) lines)

-- it is a Connection line that says `close`
abbrev pub says_close : Line → Bool
says_close line = is_alike line.0 (codes "connection") && is_alike line.1 (codes "close")

-- HTTP/1.0, or a Connection line that says `close`
abbrev pub is_last : ℕ → List Line → Bool
is_last minor lines = minor == 0 || list_any says_close lines

abbrev pub is_digit : ℕ → Bool
is_digit byte = nat_le 48 byte && nat_le byte 57

abbrev pub number_of : List ℕ → ℕ
number_of digits = fold (λ n digit. n * 10 + (digit - 48)) 0 digits

-- one digit or more
abbrev pub is_number : List ℕ → Bool
is_number [] = false
is_number (digit ∷ digits) = list_all is_digit (digit ∷ digits)

-- the same number as the first
abbrev pub says_same : List ℕ → List ℕ → Bool
says_same first value = is_number value && number_of value == number_of first

-- how long the body is by the values of the Content-Length lines: 0 where there is none
abbrev pub SayLength : List (List ℕ) → ℕ → Type 0
SayLength [] n = n ≡ 0
SayLength (value ∷ values) n = (is_number value ≡ true) × (list_all (says_same value) values ≡ true) × (number_of value ≡ n)
