-- Which bytes are a storage class.
use Rattle.std.specs.Prelude.{ℕ, Bool, ◌&&◌, ◌||◌, ◌==◌, nat_le, List, length}
use Rattle.std.specs.List.{list_all}
use Rattle.s3r_names.specs.Bucket.{is_digit}

-- `A` to `Z`, a digit or `_`
abbrev pub is_class_byte : ℕ → Bool
is_class_byte byte = (nat_le 65 byte && nat_le byte 90) || is_digit byte || byte == 95

-- 1 to 32 of them
abbrev pub is_class_name : List ℕ → Bool
is_class_name bytes = nat_le 1 (length bytes) && nat_le (length bytes) 32 && list_all is_class_byte bytes
