use Rattle.std.proofs.Common.{◌≡◌, ◌+◌, length, drop, sym, ap, ◌∙◌, Some, None}
use Rattle.s3r_desk.specs.Lookups.{views_of}
use Rattle.s3r_desk.specs.Steps.{location, or_wrong, wrong_rule, first_wrong}
use Rattle.s3r_desk.proofs.PlacedRules.{next_is}
use Rattle.s3r_desk.proofs.replication.first_wrong.Goals as goal

pub returns-in-Some : goal.returns-in-Some
returns-in-Some c =
    let wrong = wrong_rule (location (length c.args.stores.now) (views_of c.args.stores.now)) c.args.name.now in
    let next = next_is c.args.rules.now c.loop-rule.rule-index c.rule-item.result c.loop-rule-test.true c.rule-item.is in
    let here : wrong c.rule-item.result ≡ Some c.in-Some.kind = sym c.wrong_rule.ensures ∙ c.in-Some.is in
    sym (ap (λ o. or_wrong c.loop-rule.number o (first_wrong wrong (c.loop-rule.number + 1) (drop (c.loop-rule.rule-index + 1) c.args.rules.now))) here)
    ∙ sym (ap (first_wrong wrong c.loop-rule.number) next)
    ∙ c.loop-rule.invariant.0

pub loop-rule-preserved : goal.loop-rule-preserved
loop-rule-preserved c =
    let wrong = wrong_rule (location (length c.args.stores.now) (views_of c.args.stores.now)) c.args.name.now in
    let next = next_is c.args.rules.now c.loop-rule.rule-index c.rule-item.result c.loop-rule-test.true c.rule-item.is in
    let none : wrong c.rule-item.result ≡ None = sym c.wrong_rule.ensures ∙ c.in_default.is in (
      sym (ap (λ o. or_wrong c.loop-rule.number o (first_wrong wrong (c.loop-rule.number + 1) (drop (c.loop-rule.rule-index + 1) c.args.rules.now))) none)
          ∙ sym (ap (first_wrong wrong c.loop-rule.number) next)
          ∙ c.loop-rule.invariant.0,
      ap (λ k. k + 1) c.loop-rule.invariant.1,
    )
