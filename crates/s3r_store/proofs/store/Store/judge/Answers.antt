use Rattle.std.proofs.Common.{ℕ, ap, ◌∙◌}
use Rattle.s3r_history.specs.Deeds.{judge}
use Rattle.s3r_store.proofs.Lawful.{region-of, held-after}
use Rattle.s3r_store.proofs.store.Store.judge.Goals as goal

pub returns : goal.returns
returns c = λ h is.
    let store = c.args.self.now in
    let held = c.in-Some.held in
    c.judge.ensures.after h (held-after store held h c.in-Some.is is)
    ∙ ap (λ (r : ℕ). judge r h c.args.effect.now) (region-of store.regions store.v held (store.lawful held c.in-Some.is))
