use Rattle.std.proofs.Common.{arith}
use Rattle.s3r_world.proofs.Bytes.{no_bytes_push}
use Rattle.s3r_world.proofs.disk.Disk.new.Goals as goal

pub loop-preserved : goal.loop-preserved
loop-preserved c = (
  λ v. rw c.in_ok-push.ensures.items (no_bytes_push _ _ c.new.ensures.items c.loop.invariant.0 v),
  omega (arith, c.in_ok-push.ensures.len, c.loop.invariant.1),
)

pub invariant_of-result : goal.invariant_of-result
invariant_of-result c = rw c.new-3.ensures.items (record { kept = λ v l. c.loop.invariant.0 v; put = c.new-2.ensures.items })
