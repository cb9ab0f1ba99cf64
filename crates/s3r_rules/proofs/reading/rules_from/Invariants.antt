use Rattle.std.proofs.Common.{◌≡◌, ◌+◌, drop, length, []}
use Rattle.s3r_rules.specs.Reading as read
use Rattle.s3r_rules.proofs.reading.rules_from.Given as goal

abbrev pub invariant-loop-draft : goal.invariant-loop-draft
invariant-loop-draft l = (read.rules_from l.rules.items (drop l.draft-index l.drafts) ≡ read.rules_from [] l.drafts) × (l.number ≡ length l.rules.items + 1)
    × (length l.rules.items ≡ l.draft-index)
