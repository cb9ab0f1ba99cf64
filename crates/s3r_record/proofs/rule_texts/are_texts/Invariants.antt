use Rattle.std.proofs.Common.{◌≡◌, take, true}
use Rattle.std.specs.List.{list_all}
use Rattle.s3r_record.specs.Placing.{has_texts}
use Rattle.s3r_record.proofs.rule_texts.are_texts.Given as goal

abbrev pub invariant-loop-rule : goal.invariant-loop-rule
invariant-loop-rule l = list_all has_texts (take l.rule-index l.config) ≡ true
