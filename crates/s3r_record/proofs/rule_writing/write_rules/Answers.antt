use Rattle.std.proofs.Common.{◌≡◌, take, get_or, true, sym, subst, ◌∙◌}
use Rattle.std.specs.List.{list_all}
use Rattle.std.proofs.lemmas.Bool.{and_from}
use Rattle.std.proofs.lemmas.List.Folds.{list_all_more}
use Rattle.s3r_rules.specs.declared.rule.Rule.{Rule}
use Rattle.s3r_rules.specs.Rules.{is_rule}
use Rattle.s3r_record.specs.Placing.{has_texts}
use Rattle.s3r_record.proofs.Agreeing.{all-get, spelled_more}
use Rattle.s3r_record.proofs.rule_writing.write_rules.Goals as goal

pub write_rule-requires : goal.write_rule-requires
write_rule-requires c =
    let rule = c.index-rules-index.result in
    subst (λ (rule : Rule). is_rule rule ≡ true) (sym c.index-rules-index.is)
    (all-get is_rule c.args.rules.now c.loop-index.index rule c.loop-index-test.true c.requires.ruled)

pub loop-index-preserved : goal.loop-index-preserved
loop-index-preserved c =
    let rules = c.args.rules.now in
    let i = c.loop-index.index in
    let rule = c.index-rules-index.result in
    let texts : has_texts (get_or rules i rule) ≡ true = subst (λ (rule : Rule). has_texts rule ≡ true)
    c.index-rules-index.is c.in_ok-write_rule.ensures.texts in
    record {
      spelled = spelled_more rules c.args.regions.now i rule c.args.out.now.items c.loop-index.out.items c.write_rule.new.out.items c.loop-index-test.true
          c.requires.paired c.index-rules-index.is c.loop-index.invariant.spelled c.in_ok-write_rule.ensures.spelled;
      texts = list_all_more has_texts rules i rule c.loop-index-test.true
          ∙ and_from (list_all has_texts (take i rules)) (has_texts (get_or rules i rule)) c.loop-index.invariant.texts texts;
    }
