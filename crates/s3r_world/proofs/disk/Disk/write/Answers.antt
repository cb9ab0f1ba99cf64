use Rattle.std.proofs.Common.{◌≡◌, ℕ, List, Vec, reverse, ap, rules, ◌∙◌}
use Rattle.s3r_world.proofs.Bytes.{reverse_push, kept_set, overwritten_is}
use Rattle.s3r_world.specs.Events.{reads_of, bytes_of}
use Rattle.std.specs.declared.alloc.Global.{Global}
use Rattle.s3r_world.proofs.disk.Disk.write.Goals as goal

pub returns-clause-ok : goal.returns-clause-ok
returns-clause-ok c =
    let same : c.in_ok-copy.copy.items ≡ c.args.bytes.now = search rules in
    (c.in_ok-copy.copy, same, reverse_push _ _ _ c.in_ok-push.ensures.items)

pub invariant_of-self-2 : goal.invariant_of-self-2
invariant_of-self-2 c =
    let same : c.in_ok-copy.copy.items ≡ c.args.bytes.now = search rules in
    let was = c.bytes_at.ensures ∙ ap (λ (l : List (Vec ℕ Global)). bytes_of l c.args.v) c.deref.ensures.value
    ∙ c.args.self.now.kept c.args.v c.requires.volume in
    let is = overwritten_is c.args.at c.args.bytes.now c.in_ok-copy.copy.items _ _ _ c.in_ok-next.ensures was same c.requires.place in
    rw (reverse_push _ _ _ c.in_ok-push.ensures.items) (record {
      kept = kept_set _ _ (reads_of (reverse c.args.self.now.events.items))
          c.args.v c.in_ok-next.next _ c.args.self.now.volumes.ok.0 c.requires.volume is c.args.self.now.kept;
      put = c.args.self.now.put;
    })
