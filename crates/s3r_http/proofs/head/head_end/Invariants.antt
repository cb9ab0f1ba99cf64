use Rattle.s3r_http.specs.Head.{NoneBefore}
use Rattle.s3r_http.proofs.head.head_end.Given as goal

abbrev pub invariant-loop-i : goal.invariant-loop-i
invariant-loop-i l = NoneBefore l.i l.bytes
