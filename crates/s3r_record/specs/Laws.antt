-- What is true of all spellings.
use Rattle.std.specs.Prelude.{◌≡◌, ◌≤◌, ℕ, List, ◌++◌, length}
use Rattle.s3r_record.specs.declared.command.Command.{Command}
use Rattle.s3r_record.specs.Spelling.{spelling, IsCommand}

-- no two commands are spelled alike
abbrev pub OneSpelling : Type 0
OneSpelling = (c d : Command) → IsCommand c → IsCommand d → spelling c ≡ spelling d → c ≡ d

-- no spelling begins another: bytes that begin with one begin with no other, and what follows it is determined
abbrev pub NoFront : Type 0
NoFront = (c d : Command) (s t : List ℕ) → IsCommand c → IsCommand d → spelling c ++ s ≡ spelling d ++ t → (c ≡ d) × (s ≡ t)

-- a spelling is short enough for a record
abbrev pub SpellingsAreShort : Type 0
SpellingsAreShort = (c : Command) → IsCommand c → length (spelling c) ≤ 16777216
