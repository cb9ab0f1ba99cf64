use Rattle.std.proofs.Common.{◌≡◌, ◌++◌, take, drop}
use Rattle.s3r_names.specs.Tags.{in_key_order}
use Rattle.s3r_names.proofs.tag_order.put_in_order.Given as goal

abbrev pub invariant-loop-start : goal.invariant-loop-start
invariant-loop-start l = l.tags ≡ take l.start l.fn.tags ++ in_key_order (drop l.start l.fn.tags)
