-- The body {"TagSet":[{"Key":..,"Value":..},..]}, and the tags of any value.
use Rattle.std.specs.Prelude.{ℕ, List, [], ◌∷◌, map, codes, if◌then◌else◌, Option, Some, None, option_and_then, Result, Ok, Err}
use Rattle.serde_json.specs.Data.{Data, string, array, object, Items, item, no_items, member, no_members}
use Rattle.serde_json.specs.Find.{as_array}
use Rattle.serde_json.specs.View.{items_of}
use Rattle.s3r_names.specs.declared.tags.Tag.{Tag}
use Rattle.s3r_names.specs.Tags.{is_tag_list, in_key_order}
use Rattle.s3r_json.specs.declared.fault.BodyFault.{BodyFault}
use Rattle.s3r_json.specs.declared.fault.BodyFault.TheVariants.{MalformedJson, InvalidTag}
use Rattle.s3r_json.specs.Bodies.{of_body}
use Rattle.s3r_json.specs.Members.{has_only, only_in, text_in}

abbrev pub tag_from : Option (List ℕ) → Option (List ℕ) → Option Tag
tag_from None value = None
tag_from (Some key) None = None
tag_from (Some key) (Some value) = Some (record { key = key; value = value })

-- the tag of an object of a key and a value and nothing else
unfoldable pub tag_in : Data → Option Tag
tag_in value = if has_only (codes "Key" ∷ codes "Value" ∷ []) value then tag_from (text_in (codes "Key") value) (text_in (codes "Value") value) else None

abbrev pub front : Option Tag → Option (List Tag) → Option (List Tag)
front None tags = None
front (Some tag) None = None
front (Some tag) (Some tags) = Some (tag ∷ tags)

-- the tags of a list, where each item is one
abbrev pub item_tags : Items → Option (List Tag)
item_tags no_items = Some []
item_tags (item value items) = front (tag_in value) (item_tags items)

abbrev pub tag_list_in : Data → Option (List Tag)
tag_list_in value = option_and_then item_tags (as_array value)

-- the tags of the one member TagSet, in the order of the list
abbrev pub tags_in : Data → Option (List Tag)
tags_in value = option_and_then tag_list_in (only_in (codes "TagSet") value)

-- the set of tags in any order
abbrev pub set_of : List Tag → Result (List Tag) BodyFault
set_of tags = if is_tag_list tags then Ok (in_key_order tags) else Err InvalidTag

-- the form comes first
abbrev pub set_of_read : Option (List Tag) → Result (List Tag) BodyFault
set_of_read None = Err MalformedJson
set_of_read (Some tags) = set_of tags

abbrev pub tags_body : List ℕ → Result (List Tag) BodyFault
tags_body body = of_body (λ value. set_of_read (tags_in value)) body

abbrev pub tag_data : Tag → Data
tag_data tag = object (member (codes "Key") (string tag.key) (member (codes "Value") (string tag.value) no_members))

abbrev pub tag_list_data : List Tag → Data
tag_list_data tags = array (items_of (map tag_data tags))

abbrev pub tags_data : List Tag → Data
tags_data tags = object (member (codes "TagSet") (tag_list_data tags) no_members)
