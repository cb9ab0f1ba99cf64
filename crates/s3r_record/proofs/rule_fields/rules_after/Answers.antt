use Rattle.std.proofs.Common.{◌≡◌, ℕ, List, [], Ok, subst}
use Rattle.std.proofs.lemmas.Result.{err_from_is_err_and}
use Rattle.s3r_rules.specs.declared.rule.Rule.{Rule}
use Rattle.s3r_record.specs.Reading.{Fails, unread}
use Rattle.s3r_record.specs.ReadingRules.{rule_at, rules_after}
use Rattle.s3r_record.proofs.RuleLoop.{goes_on, ends, is_done}
use Rattle.s3r_record.proofs.rule_fields.rules_after.Goals as goal

pub returns-in_err-rule : goal.returns-in_err-rule
returns-in_err-rule c =
    let fault = c.in_err-rule.field-0.0 in
    let left = unread c.loop.rest in
    let some = subst (λ (rules : List Rule). Fails fault (rule_at rules c.deref-in-loop.result.now left)) c.deref.ensures.value c.in_err-rule.ensures in
    let fails = subst (λ (regions : List ℕ). Fails fault (rule_at c.loop.rules.items regions left)) c.deref-in-loop.ensures.value some in
    let p = err_from_is_err_and c.from_residual.result c.from_residual.ensures.1 in
    rw (p.1, p.2) (ends fault c.loop.rules.items c.loop.regions.items c.args.count c.loop.counter left
    (rules_after c.args.count [] [] (unread c.args.left)) c.loop-test.true fails c.loop.invariant)

pub loop-preserved : goal.loop-preserved
loop-preserved c =
    let left = unread c.loop.rest in
    let read = Ok ((c.in_ok-rule.rule, c.in_ok-rule.region), unread c.in_ok-rule.after) in
    let some = subst (λ (rules : List Rule). rule_at rules c.deref-in-loop.result.now left ≡ read) c.deref.ensures.value c.in_ok-rule.ensures in
    let one = subst (λ (regions : List ℕ). rule_at c.loop.rules.items regions left ≡ read) c.deref-in-loop.ensures.value some in
    rw (c.in_ok-push.ensures.items, c.in_ok-push-2.ensures.items)
    (goes_on c.loop.rules.items c.loop.regions.items c.args.count c.loop.counter left c.in_ok-rule.rule c.in_ok-rule.region (unread c.in_ok-rule.after)
    (rules_after c.args.count [] [] (unread c.args.left)) c.loop-test.true one c.loop.invariant)

pub returns : goal.returns
returns c = is_done c.loop.rules.items c.loop.regions.items c.args.count c.loop.counter (unread c.loop.rest)
    (rules_after c.args.count [] [] (unread c.args.left)) c.loop-test.false c.loop.invariant
