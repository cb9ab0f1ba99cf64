use Rattle.std.proofs.Common.{◌≡◌, ◌+◌, length, arith, sym, ap, ◌∙◌, not}
use Rattle.s3r_jobs.specs.Jobs.{JobsFacts, is_ended, is_unended}
use Rattle.s3r_jobs.proofs.OrderLemmas.{all-put}
use Rattle.s3r_jobs.proofs.jobs.Jobs.give_back.Goals as goal

pub invariant_of-self : goal.invariant_of-self
invariant_of-self c =
    let before = c.self.invariant in
    let out : c.self.inside.out ≡ c.args.self.now.out = ap (λ (jobs : JobsFacts). jobs.out) c.self.view_is in
    let more : length c.put.new.jobs.items ≡ length c.self.inside.ended.items + 1 = c.put.ensures.more in
    let room = c.put.ensures.room in
    let ended = all-put is_ended c.args.job c.self.inside.ended.items c.put.new.jobs.items c.put.ensures.items
    (sym c.has_ended.ensures ∙ c.if-has_ended.true) before.1.1 in (
      record {
        live = omega (arith, before.0.live, c.requires, out, more);
        ended = omega (arith, before.0.ended, c.requires, out, more, room);
        few = omega (arith, before.0.few, c.requires, out, more);
      },
      (before.1.0, ended),
    )

pub invariant_of-self-2 : goal.invariant_of-self-2
invariant_of-self-2 c =
    let before = c.self.invariant in
    let out : c.self.inside.out ≡ c.args.self.now.out = ap (λ (jobs : JobsFacts). jobs.out) c.self.view_is in
    let more : length c.put-2.new.jobs.items ≡ length c.self.inside.live.items + 1 = c.put-2.ensures.more in
    let room = c.put-2.ensures.room in
    let live = all-put is_unended c.args.job c.self.inside.live.items c.put-2.new.jobs.items c.put-2.ensures.items
    (ap not (sym c.has_ended.ensures ∙ c.if-has_ended.false)) before.1.0 in (
      record {
        live = omega (arith, before.0.live, c.requires, out, more, room);
        ended = omega (arith, before.0.ended, c.requires, out, more);
        few = omega (arith, before.0.few, c.requires, out, more);
      },
      (live, before.1.1),
    )
