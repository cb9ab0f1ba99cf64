use Rattle.std.proofs.Common.{length, sym, ◌∙◌, arith}
use Rattle.s3r_desk.specs.Comparing.{first_below, seen_fault}
use Rattle.s3r_desk.proofs.Disagreeing.{first_here}
use Rattle.s3r_desk.proofs.comparing.disagreement.Goals as goal

pub returns-in-Some : goal.returns-in-Some
returns-in-Some c =
    let stores = c.args.stores.now in
    sym (first_here (λ s. first_below (seen_fault stores s) (length stores)) c.loop-from.from (length stores) c.in-Some.fault
    (omega (arith, c.loop-from-test.true)) c.loop-from.invariant (sym c.first_receiver.ensures ∙ c.in-Some.is))
