-- Which tags a set may have.
use Rattle.std.specs.Prelude.{ℕ, Bool, true, ◌&&◌, not, nat_le, List, [], ◌∷◌, length, drop}
use Rattle.std.specs.List.{list_all, list_any, prefix_len, insert, zip}
use Rattle.std.specs.Ordering.{nat_cmp, is_lt}
use Rattle.std.specs.Cmp.Lexicographic.{slice_cmp}
use Rattle.std.specs.Str.{bytes_eq, is_utf8, chars}
use Rattle.s3r_names.specs.declared.tags.Tag.{Tag}

-- text of so many characters
abbrev pub is_text : ℕ → ℕ → List ℕ → Bool
is_text least most bytes = is_utf8 bytes && nat_le least (length (chars bytes)) && nat_le (length (chars bytes)) most

abbrev pub is_tag_key : List ℕ → Bool
is_tag_key bytes = is_text 1 128 bytes

abbrev pub is_tag_value : List ℕ → Bool
is_tag_value bytes = is_text 0 256 bytes

abbrev pub is_tag : Tag → Bool
is_tag tag = is_tag_key tag.key && is_tag_value tag.value

-- the first key is before the second by their bytes
abbrev pub is_key_below : List ℕ → List ℕ → Bool
is_key_below first second = is_lt (slice_cmp nat_cmp first second)

-- each key is below the next
abbrev pub has_rising_keys : List Tag → Bool
has_rising_keys tags = list_all (λ pair. is_key_below pair.0.key pair.1.key) (zip tags (drop 1 tags))

-- at most ten tags
abbrev pub is_tag_set : List Tag → Bool
is_tag_set tags = nat_le (length tags) 10 && list_all is_tag tags && has_rising_keys tags

-- one of the tags has this key
abbrev pub has_key : List ℕ → List Tag → Bool
has_key key tags = list_any (λ (tag : Tag). bytes_eq tag.key key) tags

-- no two tags have the same key
abbrev pub has_distinct_keys : List Tag → Bool
has_distinct_keys [] = true
has_distinct_keys (tag ∷ tags) = not (has_key tag.key tags) && has_distinct_keys tags

-- tags in some order that a set may have
abbrev pub is_tag_list : List Tag → Bool
is_tag_list tags = nat_le (length tags) 10 && list_all is_tag tags && has_distinct_keys tags

-- how many tags at the front have a key below this one
abbrev pub place_of : List ℕ → List Tag → ℕ
place_of key tags = prefix_len (λ (tag : Tag). is_key_below tag.key key) tags

-- the tags with one more, behind those at the front that are below it
abbrev pub with_tag : Tag → List Tag → List Tag
with_tag tag tags = insert tags (place_of tag.key tags) tag

abbrev pub first_place : List Tag → ℕ
first_place [] = 0
first_place (tag ∷ tags) = place_of tag.key tags

-- the first tag in its place among the others
abbrev pub first_moved : List Tag → List Tag
first_moved [] = []
first_moved (tag ∷ tags) = with_tag tag tags

-- the tags in rising order of their keys
abbrev pub in_key_order : List Tag → List Tag
in_key_order [] = []
in_key_order (tag ∷ tags) = with_tag tag (in_key_order tags)
