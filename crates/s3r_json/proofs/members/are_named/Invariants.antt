use Rattle.std.proofs.Common.{◌≡◌, map}
use Rattle.serde_json.specs.View.{members_view}
use Rattle.s3r_json.specs.Members.{are_named}
use Rattle.s3r_json.proofs.members.are_named.Given as goal

abbrev pub invariant-loop-key : goal.invariant-loop-key
invariant-loop-key l = are_named (map (λ n. n.now) l.names) (members_view l.fn.members.entries) ≡ are_named (map (λ n. n.now) l.names)
    (members_view l.key-iterator)
