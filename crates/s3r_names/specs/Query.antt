-- Tags as the text of a web form.
use Rattle.std.specs.Prelude.{ℕ, List, [], map}
use Rattle.form_urlencoded.specs.Form as form
use Rattle.s3r_names.specs.declared.tags.Tag.{Tag}

abbrev pub tag_of : List ℕ × List ℕ → Tag
tag_of pair = record { key = pair.0; value = pair.1 }

abbrev pub pair_of : Tag → List ℕ × List ℕ
pair_of tag = (tag.key, tag.value)

-- the pairs of the form, as tags
abbrev pub query_tags : List ℕ → List Tag
query_tags bytes = map tag_of (form.parse bytes)

-- the form of these tags, in their order
abbrev pub query_text : List Tag → List ℕ
query_text tags = form.extend_pairs [] (map pair_of tags)
