use Rattle.std.proofs.Common.{◌≡◌, ℕ, ◌+◌, length, Result, Err, refl, ◌∙◌, subst, arith}
use Rattle.std.proofs.Math.ListN.{length-set}
use Rattle.std.proofs.lemmas.Option.{slice_get_within}
use Rattle.std.proofs.lemmas.Result.{err_from_is_err_and}
use Rattle.s3r_world.specs.Image.{Image}
use Rattle.s3r_world.specs.Moments.{looks_then, shape_then, falls_then}
use Rattle.s3r_journal.proofs.Elsewhere.{left_looks}
use Rattle.s3r_desk.specs.declared.fault.DeskFault.{DeskFault}
use Rattle.s3r_desk.specs.Damage.{IsDamage}
use Rattle.s3r_desk.specs.Responds.{FailsAt}
use Rattle.s3r_desk.proofs.Places.{get_at}
use Rattle.s3r_desk.proofs.Stepping.{looks_none}
use Rattle.s3r_desk.proofs.Touched.{touches_none, touches_ok, touches_not}
use Rattle.s3r_desk.proofs.Keeps.{numbered_set, tied_set, ties_none, ties_held, read_set}
use Rattle.s3r_desk.proofs.Causes.{cause_wider}
use Rattle.s3r_desk.proofs.touching.touch_all.Goals as goal

pub loop-r-init : goal.loop-r-init
loop-r-init g c = record {
  count = refl;
  numbered = c.requires.numbered;
  tied = c.requires.tied;
  read = λ q s lt. absurd (omega (arith, lt));
  looks = λ told. looks_none (g.W.World.outside c.args.world.now);
  told = λ told before keeps. touches_none before c.args.stores.now.items (g.W.World.outside c.args.world.now)
      (looks_none (g.W.World.outside c.args.world.now)) keeps;
  counts = record { most = refl; volume = λ u. omega arith; input = omega arith; output = omega arith; door = omega arith };
  goes = g.met.W.World.goes_none c.args.world.now;
  shape = record { volumes = refl; room = λ v. refl };
}

pub touch_one-requires-clause-volume : goal.touch_one-requires-clause-volume
touch_one-requires-clause-volume g c =
    let at = get_at c.loop-r.stores.items c.loop-r.r c.index_mut.result.now (omega arith) c.index_mut.ensures.value in
    omega (arith, c.loop-r.invariant.numbered.v c.loop-r.r c.index_mut.result.now at, c.loop-r.invariant.shape.volumes, c.loop-r.invariant.count)

pub touch_one-requires-clause-region : goal.touch_one-requires-clause-region
touch_one-requires-clause-region g c =
    let at = get_at c.loop-r.stores.items c.loop-r.r c.index_mut.result.now (omega arith) c.index_mut.ensures.value in
    omega (arith, c.loop-r.invariant.numbered.v c.loop-r.r c.index_mut.result.now at, c.loop-r.invariant.count)

pub touch_one-requires-clause-some : goal.touch_one-requires-clause-some
touch_one-requires-clause-some g c =
    let at = get_at c.loop-r.stores.items c.loop-r.r c.index_mut.result.now (omega arith) c.index_mut.ensures.value in
    omega (arith, c.loop-r.invariant.numbered.regions c.loop-r.r c.index_mut.result.now at, c.loop-r.invariant.count)

pub touch_one-requires-clause-tied : goal.touch_one-requires-clause-tied
touch_one-requires-clause-tied g c = λ told.
    let at = get_at c.loop-r.stores.items c.loop-r.r c.index_mut.result.now (omega arith) c.index_mut.ensures.value in
    c.loop-r.invariant.tied told c.loop-r.r c.index_mut.result.now at

pub returns-in_err-touch_one-clause-told : goal.returns-in_err-touch_one-clause-told
returns-in_err-touch_one-clause-told g c = λ told before keeps.
    let at = get_at c.loop-r.stores.items c.loop-r.r c.index_mut.result.now (omega arith) c.index_mut.ensures.value in
    let number : c.index_mut.result.now.v ≡ c.loop-r.r = c.loop-r.invariant.numbered.v c.loop-r.r c.index_mut.result.now at in
    let p = err_from_is_err_and c.from_residual.result c.from_residual.ensures.1 in
    rw (p.1, p.2) (touches_not before c.args.stores.now.items c.loop-r.stores.items c.loop-r.r c.index_mut.result.now c.touch_one.new.store
    (g.W.World.outside c.args.world.now) (g.W.World.outside c.loop-r.world) (g.W.World.outside c.touch_one.new.world)
    (omega arith) c.loop-r.invariant.count at
    (c.in_err-touch_one.ensures.told told) (c.loop-r.invariant.told told before keeps) c.loop-r.invariant.read c.in_err-touch_one.ensures.unread
    (λ some. (c.in_err-touch_one.ensures.read_before some).0)
    c.in_err-touch_one.field-0.0 (subst (λ (m : ℕ). FailsAt {A = Unit {0}} m (Err c.in_err-touch_one.field-0.0)) number c.in_err-touch_one.ensures.fails))

pub returns-in_err-touch_one-clause-tied : goal.returns-in_err-touch_one-clause-tied
returns-in_err-touch_one-clause-tied g c = λ told.
    tied_set c.loop-r.stores.items c.loop-r.r c.touch_one.new.store (g.W.World.outside c.loop-r.world) (g.W.World.outside c.touch_one.new.world) (omega arith)
    (c.loop-r.invariant.tied told)
    (ties_none c.touch_one.new.store _ c.in_err-touch_one.ensures.unread) (λ q. left_looks q _ _ (c.in_err-touch_one.ensures.told told))

pub returns-in_err-touch_one-clause-numbered : goal.returns-in_err-touch_one-clause-numbered
returns-in_err-touch_one-clause-numbered g c =
    let at = get_at c.loop-r.stores.items c.loop-r.r c.index_mut.result.now (omega arith) c.index_mut.ensures.value in
    numbered_set c.loop-r.stores.items c.loop-r.r c.index_mut.result.now c.touch_one.new.store
    (omega arith) at c.in_err-touch_one.ensures.v c.in_err-touch_one.ensures.regions c.loop-r.invariant.numbered

pub returns-in_err-touch_one-clause-cause : goal.returns-in_err-touch_one-clause-cause
returns-in_err-touch_one-clause-cause g c =
    let at = get_at c.loop-r.stores.items c.loop-r.r c.index_mut.result.now (omega arith) c.index_mut.ensures.value in
    let p = err_from_is_err_and c.from_residual.result c.from_residual.ensures.1 in
    rw (p.1, p.2) (cause_wider (Unit {0}) (Unit {0}) (c.index_mut.result.now.v + 1) (length c.args.stores.now.items) c.in_err-touch_one.field-0.0 _ _ _
    (omega (arith, c.loop-r.invariant.numbered.v c.loop-r.r c.index_mut.result.now at, c.loop-r.invariant.count))
    c.loop-r.invariant.counts c.in_err-touch_one.ensures.cause)

abbrev failed_with : DeskFault → Result (Unit {0}) DeskFault
failed_with e = Err e

pub returns-in_err-touch_one-clause-damage : goal.returns-in_err-touch_one-clause-damage
returns-in_err-touch_one-clause-damage g c = λ told.
    let at = get_at c.loop-r.stores.items c.loop-r.r c.index_mut.result.now (omega arith) c.index_mut.ensures.value in
    let p = err_from_is_err_and c.from_residual.result c.from_residual.ensures.1 in
    let regions : c.index_mut.result.now.regions ≡ length c.args.stores.now.items =
    c.loop-r.invariant.numbered.regions c.loop-r.r c.index_mut.result.now at ∙ c.loop-r.invariant.count in
    rw (p.1, p.2) (subst (λ (n : ℕ). IsDamage n (g.W.World.outside c.args.world.now).as_read (failed_with c.in_err-touch_one.field-0.0)) regions
    (subst (λ (i : Image). IsDamage c.index_mut.result.now.regions i (failed_with c.in_err-touch_one.field-0.0)) (c.loop-r.invariant.looks told).as_read
    (c.in_err-touch_one.ensures.damage told)))

pub loop-r-preserved : goal.loop-r-preserved
loop-r-preserved g c =
    let at = get_at c.loop-r.stores.items c.loop-r.r c.index_mut.result.now (omega arith) c.index_mut.ensures.value in
    let number : c.touch_one.new.store.v ≡ c.loop-r.r = c.in_ok-touch_one.ensures.v ∙ c.loop-r.invariant.numbered.v c.loop-r.r c.index_mut.result.now at in
    let regions : c.touch_one.new.store.regions ≡ length c.args.stores.now.items =
    c.in_ok-touch_one.ensures.regions ∙ c.loop-r.invariant.numbered.regions c.loop-r.r c.index_mut.result.now at ∙ c.loop-r.invariant.count in
    record {
      count = length-set c.loop-r.stores.items c.loop-r.r c.touch_one.new.store ∙ c.loop-r.invariant.count;
      numbered = numbered_set c.loop-r.stores.items c.loop-r.r c.index_mut.result.now c.touch_one.new.store
          (omega arith) at c.in_ok-touch_one.ensures.v c.in_ok-touch_one.ensures.regions c.loop-r.invariant.numbered;
      tied = λ told. tied_set c.loop-r.stores.items c.loop-r.r c.touch_one.new.store (g.W.World.outside c.loop-r.world)
          (g.W.World.outside c.touch_one.new.world) (omega arith) (c.loop-r.invariant.tied told)
          (let holds = c.in_ok-touch_one.ensures.holds told in ties_held c.touch_one.new.store _ holds.0 holds.1)
          (λ q. left_looks q _ _ (c.in_ok-touch_one.ensures.told told));
      read = read_set c.loop-r.stores.items c.loop-r.r c.touch_one.new.store 0 (omega arith) c.in_ok-touch_one.ensures.read c.loop-r.invariant.read;
      looks = λ told. looks_then _ _ _ (c.loop-r.invariant.looks told) (c.in_ok-touch_one.ensures.told told);
      told = λ told before keeps. touches_ok before c.args.stores.now.items c.loop-r.stores.items c.loop-r.r c.index_mut.result.now c.touch_one.new.store
          (g.W.World.outside c.args.world.now) (g.W.World.outside c.loop-r.world) (g.W.World.outside c.touch_one.new.world)
          (omega arith) c.loop-r.invariant.count at
          (c.in_ok-touch_one.ensures.told told) (c.loop-r.invariant.told told before keeps) number regions c.loop-r.invariant.read
          (c.in_ok-touch_one.ensures.holds told) (λ some. (c.in_ok-touch_one.ensures.read_before some).0);
      counts = falls_then _ _ _ c.loop-r.invariant.counts c.in_ok-touch_one.ensures.counts;
      goes = g.met.W.World.goes_then _ _ _ c.loop-r.invariant.goes c.in_ok-touch_one.ensures.goes;
      shape = shape_then _ _ _ c.loop-r.invariant.shape c.in_ok-touch_one.ensures.shape;
    }

pub returns-clause-read : goal.returns-clause-read
returns-clause-read g c = λ r s get. c.loop-r.invariant.read r s (omega (arith, slice_get_within c.loop-r.stores.items r s get)) get
