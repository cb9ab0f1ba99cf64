use Rattle.std.proofs.Common.{◌≡◌, ◌++◌, take, true}
use Rattle.std.specs.List.{list_all, flat_map, zip}
use Rattle.s3r_record.specs.Fields.{rule_bytes}
use Rattle.s3r_record.specs.Placing.{has_texts}
use Rattle.s3r_record.proofs.rule_writing.write_rules.Given as goal

abbrev pub invariant-loop-index : goal.invariant-loop-index
invariant-loop-index l = record {
  spelled : l.out.items ≡ l.fn.out.items ++ flat_map rule_bytes (zip (take l.index l.rules) (take l.index l.regions));
  texts : list_all has_texts (take l.index l.rules) ≡ true;
}
