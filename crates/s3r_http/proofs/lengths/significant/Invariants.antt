use Rattle.std.proofs.Common.{◌≡◌, drop}
use Rattle.s3r_http.specs.Lengths.{significant}
use Rattle.s3r_http.proofs.lengths.significant.Given as goal

abbrev pub invariant-loop-i : goal.invariant-loop-i
invariant-loop-i l = significant (drop l.i l.digits) ≡ significant l.digits
