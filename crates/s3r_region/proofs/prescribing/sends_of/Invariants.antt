use Rattle.std.proofs.Common.{◌≡◌, ◌++◌, drop}
use Rattle.std.specs.List.{filter_map}
use Rattle.s3r_region.specs.Written.{seen}
use Rattle.s3r_region.specs.Prescribing.{choice_sends}
use Rattle.s3r_region.proofs.prescribing.sends_of.Given as goal

abbrev pub invariant-loop-choice : goal.invariant-loop-choice
invariant-loop-choice l = record {
  rest : l.sends.items ++ filter_map (choice_sends l.outbox l.bucket (seen l.written) l.config) (drop l.choice-index l.choice-items)
      ≡ filter_map (choice_sends l.outbox l.bucket (seen l.written) l.config) l.choice-items;
}
