-- Reading tags: each text is a field of its own, and keys rise.
use Rattle.std.specs.Prelude.{ℕ, zero, suc, Bool, true, ◌&&◌, List, [], ◌∷◌, Option, Some, None, Result, Ok}
use Rattle.std.specs.Int.{w16}
use Rattle.std.specs.Str.{is_utf8}
use Rattle.s3r_names.specs.Tags.{is_tag_key, is_tag_value, is_key_below}
use Rattle.s3r_names.specs.declared.tags.Tag.{Tag}
use Rattle.s3r_record.specs.declared.tag_rule.TagRule.{TagRule}
use Rattle.s3r_record.specs.declared.tag_rule.TagRule.TheVariants as allowed
use Rattle.s3r_record.specs.Reading.{◌>>=◌, Unread, byte_at, tested_at}

abbrev pub may_be_key : TagRule → List ℕ → Bool
may_be_key allowed.Lawful key = is_tag_key key
may_be_key allowed.Any key = is_utf8 key

abbrev pub may_be_value : TagRule → List ℕ → Bool
may_be_value allowed.Lawful value = is_tag_value value
may_be_value allowed.Any value = is_utf8 value

-- a byte counts to 255
abbrev pub most_tags : TagRule → ℕ
most_tags allowed.Lawful = 10
most_tags allowed.Any = 255

-- a key that may stand after that tag
abbrev pub rises_above : Option Tag → List ℕ → Bool
rises_above None key = true
rises_above (Some before) key = is_key_below before.key key

abbrev pub key_follows : TagRule → Option Tag → List ℕ → Bool
key_follows rule before key = rises_above before key && may_be_key rule key

unfoldable pub tag_at : TagRule → Option Tag → Unread → Result (Tag × Unread) ℕ
tag_at rule before left = do
  key ← tested_at w16 (key_follows rule before) left
  value ← tested_at w16 (may_be_value rule) key.1
  Ok (record { key = key.0; value = value.0 }, value.1)

-- so many tags, after that one
unfoldable pub tags_after : TagRule → ℕ → Option Tag → Unread → Result (List Tag × Unread) ℕ
tags_after rule zero before left = Ok ([], left)
tags_after rule (suc count) before left = do
  tag ← tag_at rule before left
  others ← tags_after rule count (Some tag.0) tag.1
  Ok (tag.0 ∷ others.0, others.1)

-- a count, and so many
unfoldable pub tags_at : TagRule → Unread → Result (List Tag × Unread) ℕ
tags_at rule left = do
  count ← byte_at (most_tags rule) left
  tags_after rule count.0 None count.1
