use Rattle.std.proofs.Common.{length, sym, ◌∙◌, arith}
use Rattle.s3r_desk.specs.Comparing.{seen_fault}
use Rattle.s3r_desk.proofs.Disagreeing.{first_here}
use Rattle.s3r_desk.proofs.comparing.first_receiver.Goals as goal

pub returns-in-Some : goal.returns-in-Some
returns-in-Some c =
    let stores = c.args.stores.now in
    sym (first_here (seen_fault stores c.args.from) c.loop-to.to (length stores) c.in-Some.fault (omega (arith, c.loop-to-test.true)) c.loop-to.invariant
    (sym c.pair_fault.ensures ∙ c.in-Some.is))
