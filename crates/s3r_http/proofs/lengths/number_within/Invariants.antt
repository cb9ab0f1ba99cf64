use Rattle.std.proofs.Common.{◌≡◌, take}
use Rattle.s3r_http.specs.Lines.{number_of}
use Rattle.s3r_http.proofs.lengths.number_within.Given as goal

abbrev pub invariant-loop-digit : goal.invariant-loop-digit
invariant-loop-digit l = number_of (take l.digit-index l.digits) ≡ l.number
