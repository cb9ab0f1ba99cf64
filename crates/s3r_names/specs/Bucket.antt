-- Which bytes are a bucket's name.
use Rattle.std.specs.Prelude.{ℕ, Bool, ◌&&◌, ◌||◌, not, ◌==◌, ◌-◌, nat_le, List, length, drop, slice_index, codes}
use Rattle.std.specs.List.{list_all, list_any, slice_split, zip}
use Rattle.std.specs.Str.{bytes_eq}

-- `0` to `9`
abbrev pub is_digit : ℕ → Bool
is_digit byte = nat_le 48 byte && nat_le byte 57

-- `a` to `z`, or a digit
abbrev pub is_letter_or_digit : ℕ → Bool
is_letter_or_digit byte = (nat_le 97 byte && nat_le byte 122) || is_digit byte

-- a letter, a digit, `.` or `-`
abbrev pub is_name_byte : ℕ → Bool
is_name_byte byte = is_letter_or_digit byte || byte == 46 || byte == 45

-- 3 to 63 bytes
abbrev pub has_name_length : List ℕ → Bool
has_name_length bytes = nat_le 3 (length bytes) && nat_le (length bytes) 63

-- a letter or digit at both ends
abbrev pub has_name_ends : List ℕ → Bool
has_name_ends bytes = is_letter_or_digit (slice_index bytes 0) && is_letter_or_digit (slice_index bytes (length bytes - 1))

abbrev pub has_adjacent_dots : List ℕ → Bool
has_adjacent_dots bytes = list_any (λ pair. pair.0 == 46 && pair.1 == 46) (zip bytes (drop 1 bytes))

-- the groups between the dots
abbrev pub groups : List ℕ → List (List ℕ)
groups bytes = slice_split (λ byte. byte == 46) bytes

-- one to three digits
abbrev pub is_number : List ℕ → Bool
is_number group = nat_le 1 (length group) && nat_le (length group) 3 && list_all is_digit group

-- four such numbers joined by dots
abbrev pub is_address : List ℕ → Bool
is_address bytes = (length (groups bytes) == 4) && list_all is_number (groups bytes)

-- the one name of the right form that no bucket has
abbrev pub is_reserved : List ℕ → Bool
is_reserved bytes = bytes_eq bytes (codes "v20180820")

abbrev pub is_bucket_name : List ℕ → Bool
is_bucket_name bytes = has_name_length bytes
    && list_all is_name_byte bytes
    && has_name_ends bytes
    && not (has_adjacent_dots bytes)
    && not (is_address bytes)
    && not (is_reserved bytes)
