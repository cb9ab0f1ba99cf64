use Rattle.std.proofs.Common.{◌≡◌, reverse, rules, sym}
use Rattle.s3r_world.proofs.Bytes.{reverse_push, kept_set}
use Rattle.s3r_world.specs.Events.{reads_of}
use Rattle.s3r_world.proofs.disk.Disk.place.Goals as goal

pub returns-clause-ok : goal.returns-clause-ok
returns-clause-ok c =
    let same : c.in_ok-copy.copy.items ≡ c.args.bytes.items = search rules in
    (c.in_ok-copy.copy, same, reverse_push _ _ _ c.in_ok-push.ensures.items)

pub invariant_of-self-2 : goal.invariant_of-self-2
invariant_of-self-2 c =
    let same : c.in_ok-copy.copy.items ≡ c.args.bytes.items = search rules in
    rw (reverse_push _ _ _ c.in_ok-push.ensures.items) (record {
      kept = kept_set _ _ (reads_of (reverse c.args.self.now.events.items)) c.args.v c.args.bytes _ c.args.self.now.volumes.ok.0 c.requires
          (sym same) c.args.self.now.kept;
      put = c.args.self.now.put;
    })
