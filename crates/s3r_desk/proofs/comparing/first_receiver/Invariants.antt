use Rattle.std.proofs.Common.{◌≡◌, None}
use Rattle.s3r_desk.specs.Comparing.{first_below, seen_fault}
use Rattle.s3r_desk.proofs.comparing.first_receiver.Given as goal

abbrev pub invariant-loop-to : goal.invariant-loop-to
invariant-loop-to l = first_below (seen_fault l.stores l.from) l.to ≡ None
