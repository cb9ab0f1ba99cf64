use Rattle.std.proofs.Common.{◌≡◌, drop}
use Rattle.serde_json.specs.View.{items_view}
use Rattle.s3r_rules_json.specs.Drafts.{drafts_of}
use Rattle.s3r_rules_json.proofs.Drafting.{after}
use Rattle.s3r_rules_json.proofs.drafts.drafts_of.Given as goal

abbrev pub invariant-loop-value : goal.invariant-loop-value
invariant-loop-value l = after l.drafts.items (drafts_of (items_view (drop l.value-index l.list))) ≡ drafts_of (items_view l.list)
