use Rattle.std.proofs.Common.{◌≡◌, ℕ, ◌++◌, ◌∙◌, ap, arith}
use Rattle.s3r_desk.specs.Rounds.{copies_from}
use Rattle.s3r_desk.proofs.worker_turn.add_copies.Goals as goal

pub returns : goal.returns
returns c =
    let end : c.loop-to.to ≡ c.args.regions = omega (arith, c.loop-to-test.false, c.loop-to.auto.to-end) in
    c.loop-to.invariant ∙ ap (λ (n : ℕ). c.args.turns.now.items ++ copies_from c.args.from n) end
