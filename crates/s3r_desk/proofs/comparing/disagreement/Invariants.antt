use Rattle.std.proofs.Common.{◌≡◌, None, length}
use Rattle.s3r_desk.specs.Comparing.{first_below, seen_fault}
use Rattle.s3r_desk.proofs.comparing.disagreement.Given as goal

abbrev pub invariant-loop-from : goal.invariant-loop-from
invariant-loop-from l = first_below (λ s. first_below (seen_fault l.stores s) (length l.stores)) l.from ≡ None
