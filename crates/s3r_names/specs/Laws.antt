-- What is true of all tags.
use Rattle.std.specs.Prelude.{◌≡◌, true, List, IsPermutation}
use Rattle.s3r_names.specs.declared.tags.Tag.{Tag}
use Rattle.s3r_names.specs.Tags.{in_key_order, is_tag_list, is_tag_set}

-- the same tags are there in order
abbrev pub KeepsTags : Type 0
KeepsTags = (tags : List Tag) → IsPermutation tags (in_key_order tags)

-- they are a set exactly where a set may have them
abbrev pub MakesSets : Type 0
MakesSets = (tags : List Tag) → is_tag_set (in_key_order tags) ≡ is_tag_list tags

-- a set's tags are in order
abbrev pub KeepsSets : Type 0
KeepsSets = (tags : List Tag) → is_tag_set tags ≡ true → in_key_order tags ≡ tags
