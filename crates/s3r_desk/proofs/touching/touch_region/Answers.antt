use Rattle.std.proofs.Common.{◌≡◌, ℕ, ◌+◌, length, IsSome, None, ◌∙◌, subst, arith}
use Rattle.std.proofs.lemmas.Result.{on_ok_weaker, on_err_weaker}
use Rattle.s3r_store.specs.declared.store.Store.{Store}
use Rattle.s3r_journal.proofs.Elsewhere.{left_looks}
use Rattle.s3r_desk.specs.Damage.{IsDamage}
use Rattle.s3r_desk.specs.Responds.{FailsAt}
use Rattle.s3r_desk.proofs.Places.{get_at}
use Rattle.s3r_desk.proofs.Keeps.{numbered_set, tied_set}
use Rattle.s3r_desk.proofs.OneStore.{store_set, left_set}
use Rattle.s3r_desk.proofs.OneTouch.{one_touch, ties_touched, cause_at}
use Rattle.s3r_desk.proofs.touching.touch_region.Goals as goal

pub returns-clause-told : goal.returns-clause-told
returns-clause-told g c = λ told before keeps.
    let s = c.index_mut.result.now in
    let at = get_at c.args.stores.now.items c.args.region s (omega arith) c.index_mut.ensures.value in
    let number : s.v ≡ c.args.region = c.requires.numbered.v c.args.region s at in
    one_touch before c.args.stores.now.items c.args.region s c.touch_one.new.store (g.W.World.outside c.args.world.now)
    (g.W.World.outside c.touch_one.new.world) (omega arith) at (c.touch_one.ensures.told told) keeps c.touch_one.result
    (c.touch_one.ensures.v ∙ number) (c.touch_one.ensures.regions ∙ c.requires.numbered.regions c.args.region s at) (c.touch_one.ensures.holds told)
    c.touch_one.ensures.unread
    (on_err_weaker c.touch_one.result (λ fails. subst (λ (m : ℕ). FailsAt m c.touch_one.result) number fails) c.touch_one.ensures.fails)
    (λ some. (c.touch_one.ensures.read_before some).0)

pub returns-clause-tied : goal.returns-clause-tied
returns-clause-tied g c = λ told.
    tied_set c.args.stores.now.items c.args.region c.touch_one.new.store (g.W.World.outside c.args.world.now) (g.W.World.outside c.touch_one.new.world)
    (omega arith) (c.requires.tied told)
    (ties_touched c.touch_one.result c.touch_one.new.store _ (c.touch_one.ensures.holds told) c.touch_one.ensures.unread)
    (λ q. left_looks q _ _ (c.touch_one.ensures.told told))

pub returns-clause-read : goal.returns-clause-read
returns-clause-read g c =
    on_ok_weaker c.touch_one.result
    (λ read. store_set (λ (s : Store). IsSome s.held) c.args.stores.now.items c.args.region c.touch_one.new.store (omega arith) read)
    c.touch_one.ensures.read

pub returns-clause-unread : goal.returns-clause-unread
returns-clause-unread g c =
    on_err_weaker c.touch_one.result
    (λ unread. store_set (λ (s : Store). s.held ≡ None) c.args.stores.now.items c.args.region c.touch_one.new.store (omega arith) unread)
    c.touch_one.ensures.unread

pub returns-clause-others : goal.returns-clause-others
returns-clause-others g c = left_set c.args.stores.now.items c.args.region c.touch_one.new.store

pub returns-clause-numbered : goal.returns-clause-numbered
returns-clause-numbered g c =
    let s = c.index_mut.result.now in
    let at = get_at c.args.stores.now.items c.args.region s (omega arith) c.index_mut.ensures.value in
    numbered_set c.args.stores.now.items c.args.region s c.touch_one.new.store (omega arith) at c.touch_one.ensures.v c.touch_one.ensures.regions
    c.requires.numbered

pub returns-clause-damage : goal.returns-clause-damage
returns-clause-damage g c = λ told.
    let s = c.index_mut.result.now in
    let at = get_at c.args.stores.now.items c.args.region s (omega arith) c.index_mut.ensures.value in
    subst (λ (n : ℕ). IsDamage n (g.W.World.outside c.args.world.now).as_read c.touch_one.result) (c.requires.numbered.regions c.args.region s at)
    (c.touch_one.ensures.damage told)

pub returns-clause-cause : goal.returns-clause-cause
returns-clause-cause g c =
    let s = c.index_mut.result.now in
    let at = get_at c.args.stores.now.items c.args.region s (omega arith) c.index_mut.ensures.value in
    cause_at c.touch_one.result (s.v + 1) (length c.args.stores.now.items) _ _
    (omega (arith, c.requires.numbered.v c.args.region s at)) c.touch_one.ensures.cause

pub returns-clause-fails : goal.returns-clause-fails
returns-clause-fails g c =
    let s = c.index_mut.result.now in
    let at = get_at c.args.stores.now.items c.args.region s (omega arith) c.index_mut.ensures.value in
    on_err_weaker c.touch_one.result (λ fails. subst (λ (m : ℕ). FailsAt m c.touch_one.result) (c.requires.numbered.v c.args.region s at) fails)
    c.touch_one.ensures.fails
