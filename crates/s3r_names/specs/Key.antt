-- Which bytes are an object's key.
use Rattle.std.specs.Prelude.{ℕ, Bool, ◌&&◌, nat_le, List, length}
use Rattle.std.specs.Str.{is_utf8}

-- 1 to 1,024 bytes of UTF-8
abbrev pub is_key : List ℕ → Bool
is_key bytes = nat_le 1 (length bytes) && nat_le (length bytes) 1024 && is_utf8 bytes
