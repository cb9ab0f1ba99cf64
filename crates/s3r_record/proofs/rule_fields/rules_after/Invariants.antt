use Rattle.std.proofs.Common.{◌≡◌, ◌-◌, []}
use Rattle.s3r_record.specs.Reading.{unread}
use Rattle.s3r_record.specs.ReadingRules.{rules_after}
use Rattle.s3r_record.proofs.rule_fields.rules_after.Given as goal

abbrev pub invariant-loop : goal.invariant-loop
invariant-loop l = rules_after (l.count - l.counter) l.rules.items l.regions.items (unread l.rest) ≡ rules_after l.count [] [] (unread l.left)
