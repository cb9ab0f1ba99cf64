use Rattle.std.proofs.Common.{ℕ, List, [], ◌∷◌, ◌++◌, length, sym, ap, ◌∙◌}
use Rattle.s3r_desk.specs.Lookups.{views_of}
use Rattle.s3r_desk.specs.Steps.{location, region_of}
use Rattle.s3r_desk.proofs.PlacedRules.{regions_more}
use Rattle.s3r_desk.proofs.replication.regions_of.Goals as goal

pub loop-rule-preserved : goal.loop-rule-preserved
loop-rule-preserved c =
    let at = location (length c.args.stores.now) (views_of c.args.stores.now) in
    c.in_ok-push.ensures.items
    ∙ ap (λ (r : ℕ). c.loop-rule.regions.items ++ r ∷ []) c.region_of.ensures
    ∙ ap (λ (rs : List ℕ). rs ++ region_of (at c.rule-item.result.bucket) ∷ []) c.loop-rule.invariant
    ∙ sym (regions_more at c.args.rules.now c.loop-rule.rule-index c.rule-item.result c.loop-rule-test.true c.rule-item.is)
