use Rattle.std.proofs.Common.{◌≡◌, map, take}
use Rattle.s3r_names.specs.Query.{tag_of}
use Rattle.s3r_names.proofs.tags.tags_of.Given as goal

abbrev pub invariant-loop-key : goal.invariant-loop-key
invariant-loop-key l = l.tags.items ≡ map tag_of (take l.key-index l.pairs)
