use Rattle.std.proofs.Common.{◌+◌, ap, ◌∙◌, arith, subst, sym}
use Rattle.s3r_region.specs.Contents.{Contents, are_given}
use Rattle.s3r_region.specs.Changes.{IsNext}
use Rattle.s3r_region.proofs.Given.{is-free_in, given-changed}
use Rattle.s3r_region.proofs.Applied.{kept}
use Rattle.s3r_region.proofs.state.State.change.Goals as goal

pub change_bucket-requires : goal.change_bucket-requires
change_bucket-requires c =
    let old = kept c.self.inside.region c.self.inside.commands c.self.inside.clock c.self.inside.buckets.items c.self.inside.queues c.self.inside.jobs in
    is-free_in old c.args.change (subst (λ (s : Contents). IsNext s c.args.change) (sym c.self.view_is) c.requires.next) c.self.invariant.1

pub invariant_of-self-2 : goal.invariant_of-self-2
invariant_of-self-2 c =
    let old = kept c.self.inside.region c.self.inside.commands c.self.inside.clock c.self.inside.buckets.items c.self.inside.queues c.self.inside.jobs in (
      c.self.invariant.0,
      ap (are_given c.self.inside.region (c.self.inside.commands + 1)) c.in_ok-change_bucket.ensures.ok
          ∙ given-changed old c.args.name.now c.args.change c.self.invariant.0
          (omega (arith, ap (λ (s : Contents). s.commands) c.self.view_is, c.requires.few))
          (subst (λ (s : Contents). IsNext s c.args.change) (sym c.self.view_is) c.requires.next) c.self.invariant.1,
    )
