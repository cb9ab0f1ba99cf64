-- Version ids and their one spelling.
use Rattle.std.specs.Prelude.{ℕ, zero, suc, ◌+◌, ◌-◌, ◌/◌, ◌%◌, ◌^◌, ◌<◌, ◌≤◌, List, [], ◌∷◌, ◌++◌, Option, Some, None, ◌&&◌, nat_le, nat_lt, if◌then◌else◌}
use Rattle.s3r_names.specs.declared.version.VersionId.{VersionId}

-- a region is at most 7, and an index is at least 1
pub record IsVersionId (id : VersionId) : Type 0 where
  pub region : id.region ≤ 7
  pub above : 1 ≤ id.index
  pub below : id.index < 2 ^ 64

-- `0` to `9`, then `a` to `f`
abbrev pub hex_digit : ℕ → ℕ
hex_digit n = if nat_lt n 10 then n + 48 else n + 87

-- the value of such a digit
abbrev pub hex_value : ℕ → Option ℕ
hex_value byte = if nat_le 48 byte && nat_le byte 57 then Some (byte - 48) else (if nat_le 97 byte && nat_le byte 102 then Some (byte - 87) else None)

-- the last `count` hexadecimal digits of a number, the greatest first
unfoldable pub hex_digits : ℕ → ℕ → List ℕ
hex_digits zero n = []
hex_digits (suc count) n = hex_digits count (n / 16) ++ hex_digit (n % 16) ∷ []

-- the region's digit, a dash, and the index in sixteen digits
abbrev pub version_text : VersionId → List ℕ
version_text id = (id.region + 48) ∷ 45 ∷ hex_digits 16 id.index
