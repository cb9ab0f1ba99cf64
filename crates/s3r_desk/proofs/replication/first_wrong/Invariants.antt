use Rattle.std.proofs.Common.{◌≡◌, ◌+◌, drop, length}
use Rattle.s3r_desk.specs.Steps.{location, wrong_rule, first_wrong}
use Rattle.s3r_desk.specs.Lookups.{views_of}
use Rattle.s3r_desk.proofs.replication.first_wrong.Given as goal

abbrev pub invariant-loop-rule : goal.invariant-loop-rule
invariant-loop-rule l =
    let wrong = wrong_rule (location (length l.stores) (views_of l.stores)) l.name in
    (first_wrong wrong l.number (drop l.rule-index l.rules) ≡ first_wrong wrong 1 l.rules) × (l.number ≡ l.rule-index + 1)
