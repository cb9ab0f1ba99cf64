use Rattle.std.proofs.Common.{◌+◌, ◌∙◌, max, ap, subst, sym, arith}
use Rattle.s3r_history.specs.Carried.{target_of, is_applied}
use Rattle.s3r_history.specs.Judging.{judged}
use Rattle.s3r_region.specs.declared.change.Change.{Change}
use Rattle.s3r_region.specs.Contents.{Contents, are_given}
use Rattle.s3r_region.specs.After.{seen}
use Rattle.s3r_region.specs.Changes.{changed_if, IsFreeIn}
use Rattle.s3r_region.proofs.Applied.{kept, received}
use Rattle.s3r_region.proofs.Received.{free-received, received-given}
use Rattle.s3r_region.proofs.state.State.receive.Goals as goal

pub change_if_applied-requires : goal.change_if_applied-requires
change_if_applied-requires c =
    subst (λ (change : Change). IsFreeIn change c.self.inside.buckets.items) (sym c.in_ok-name.ensures.1)
    (free-received (c.self.inside.commands + 1) c.args.from c.args.effect c.self.inside.buckets.items)

pub invariant_of-self-2 : goal.invariant_of-self-2
invariant_of-self-2 c =
    let old = kept c.self.inside.region c.self.inside.commands c.self.inside.clock c.self.inside.buckets.items c.self.inside.queues c.self.inside.jobs in
    let applied = is_applied c.judge-outcome.result in
    let made = c.in_ok-change_if_applied.ensures.ok
    ∙ ap (λ name. changed_if applied name c.in_ok-name.change c.self.inside.buckets.items) c.in_ok-name.ensures.0
    ∙ ap (λ (change : Change). changed_if applied (target_of c.args.effect) change c.self.inside.buckets.items) c.in_ok-name.ensures.1 in
    let came = c.judge-outcome.ensures.judged
    ∙ ap (λ (s : Contents). judged s.region s.commands c.args.effect (seen s (target_of c.args.effect))) (sym c.self.view_is) in (
      c.self.invariant.0,
      ap (are_given c.self.inside.region (c.self.inside.commands + 1)) made
          ∙ received-given old c.args.from c.args.effect c.judge-outcome.result c.self.invariant.0
          (omega (arith, ap (λ (s : Contents). s.commands) c.self.view_is, c.requires.few)) c.requires.short came c.self.invariant.1,
    )

pub returns : goal.returns
returns c =
    let applied = is_applied c.judge-outcome.result in
    let made = c.in_ok-change_if_applied.ensures.ok
    ∙ ap (λ name. changed_if applied name c.in_ok-name.change c.self.inside.buckets.items) c.in_ok-name.ensures.0
    ∙ ap (λ (change : Change). changed_if applied (target_of c.args.effect) change c.self.inside.buckets.items) c.in_ok-name.ensures.1 in
    received c.self.inside.region c.self.inside.commands c.self.inside.clock c.self.inside.buckets.items c.change_if_applied.new.buckets.items
    c.self.inside.queues c.receive.new.self c.self.inside.jobs c.args.self.now c.args.from c.args.number c.args.effect c.judge-outcome.result
    c.max-self-inside.result
    c.self.view_is
    c.receive.ensures.regions c.receive.ensures.after made
    (c.max-self-inside.ensures ∙ ap (λ n. max n c.self.inside.clock) c.carried_n-n.ensures) c.judge-outcome.ensures.after
