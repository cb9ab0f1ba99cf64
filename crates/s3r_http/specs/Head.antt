-- Where the head of a request ends: behind the first empty line.
use Rattle.std.specs.Prelude.{◌≡◌, ◌≢◌, ℕ, ◌+◌, ◌<◌, ◌≤◌, Bool, false, if◌then◌else◌, nat_eq, List, [], ◌∷◌, length, take, drop, Option, Some, None}
use Rattle.std.specs.Option.{option_map}
use Rattle.std.specs.List.{starts_with}
use Rattle.s3r_http.specs.declared.head.Head.{Head}
use Rattle.s3r_http.specs.declared.head.Head.TheVariants.{Found, TooLong, Cut, Over}

-- the end of a line, and an empty line
abbrev pub begins_empty_line : List ℕ → Bool
begins_empty_line bytes = starts_with nat_eq bytes (13 ∷ 10 ∷ 13 ∷ 10 ∷ [])

-- how many bytes there are up to the end of the first empty line
abbrev pub head_length : List ℕ → Option ℕ
head_length [] = None
head_length (byte ∷ bytes) = if begins_empty_line (byte ∷ bytes) then Some 4 else option_map (λ n. n + 1) (head_length bytes)

-- none stands at a place before this one
abbrev pub NoneBefore : ℕ → List ℕ → Type 0
NoneBefore place bytes = (i : ℕ) → i < place → begins_empty_line (drop i bytes) ≡ false

-- there are as many bytes as a head may have, and none of them ends one
abbrev pub BeginsTooLong : List ℕ → Type 0
BeginsTooLong stream = (16384 ≤ length stream) × (head_length (take 16384 stream) ≡ None)

-- the bytes end inside a head
pub record EndsInHead (stream : List ℕ) : Type 0 where
  pub some : stream ≢ []
  pub short : length stream < 16384
  pub open_ended : head_length stream ≡ None

-- what is said of the bytes that are still to come
abbrev pub HeadIs : Head → List ℕ → Type 0
HeadIs (Found n) stream = (head_length stream ≡ Some n) × (n ≤ 16384)
HeadIs TooLong stream = BeginsTooLong stream
HeadIs Cut stream = EndsInHead stream
HeadIs Over stream = stream ≡ []
