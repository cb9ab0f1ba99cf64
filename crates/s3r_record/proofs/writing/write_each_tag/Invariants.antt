use Rattle.std.proofs.Common.{◌≡◌, ◌++◌, take}
use Rattle.std.specs.List.{flat_map}
use Rattle.s3r_record.specs.Fields.{tag_bytes}
use Rattle.s3r_record.proofs.writing.write_each_tag.Given as goal

abbrev pub invariant-loop-tag : goal.invariant-loop-tag
invariant-loop-tag l = l.out.items ≡ l.fn.out.items ++ flat_map tag_bytes (take l.tag-index l.tags)
