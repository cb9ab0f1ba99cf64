use Rattle.std.proofs.Common.{◌≡◌, ◌++◌, ℕ, List, [], ◌∷◌, length, Option, Some, None, Ok, Err, refl, sym, ◌∙◌, ap, subst, arith}
use Rattle.std.proofs.lemmas.Result.{err_from_is_err_and}
use Rattle.s3r_world.specs.Moments.{shape_then, falls_then}
use Rattle.s3r_desk.proofs.Keeps.{ties_none, tied}
use Rattle.s3r_service.specs.declared.stop.Ending.{Ending}
use Rattle.s3r_service.specs.Turns.{events_of}
use Rattle.s3r_service.specs.Serving.{IsServing}
use Rattle.s3r_service.proofs.Running.{serving_none, serving_on, served_none, served_ending, served_stop, served_behind, serves_as}
use Rattle.s3r_service.proofs.serve.serve.Goals as goal

pub returns-in_err-routes-clause-served : goal.returns-in_err-routes-clause-served
returns-in_err-routes-clause-served g c = λ told.
    let p = err_from_is_err_and c.from_residual.result c.from_residual.ensures.1 in
    rw (p.1, p.2) (served_none c.args.regions (g.W.World.shape c.args.world.now).room (g.W.World.outside c.args.world.now) (g.W.World.faults c.args.world.now))

pub returns-in_err-desk-clause-served : goal.returns-in_err-desk-clause-served
returns-in_err-desk-clause-served g c = λ told.
    let p = err_from_is_err_and c.from_residual-in_err-desk.result c.from_residual-in_err-desk.ensures.1 in
    rw (p.1, p.2) (served_none c.args.regions (g.W.World.shape c.args.world.now).room (g.W.World.outside c.args.world.now) (g.W.World.faults c.args.world.now))

pub loop-init : goal.loop-init
loop-init g c = record {
  told = λ told.
      let start = g.W.World.outside c.args.world.now in
      let room = (g.W.World.shape c.args.world.now).room in
      let faults = g.W.World.faults c.args.world.now in (
        [],
        refl,
        subst (λ (l : List ℕ). IsServing c.args.regions room [] (l ++ start.input) c.in_ok-desk.desk.stores.items start start faults faults)
            (sym c.new-buffer.ensures)
            (serving_none c.args.regions room c.in_ok-desk.desk.stores.items start faults c.in_ok-desk.ensures.fresh),
      );
  tied = λ told r s get. ties_none s (g.W.World.outside c.args.world.now) (c.in_ok-desk.ensures.fresh r s get);
  count = c.in_ok-desk.ensures.count;
  numbered = c.in_ok-desk.ensures.numbered;
  counts = record { most = refl; volume = λ u. omega arith; input = omega arith; output = omega arith; door = omega arith };
  goes = g.met.W.World.goes_none c.args.world.now;
  shape = record { volumes = refl; room = λ v. refl };
}

pub loop-preserved : goal.loop-preserved
loop-preserved g c = record {
  told = λ told.
      let was = c.loop.invariant.told told in
      let room = (g.W.World.shape c.args.world.now).room in
      let start = g.W.World.outside c.args.world.now in
      let mid = g.W.World.outside c.loop.world in
      let end = g.W.World.outside c.serve_one.new.world in
      let stream = c.loop.buffer ++ mid.input in
      let rest = c.serve_one.new.buffer ++ end.input in
      let rooms : (g.W.World.shape c.loop.world).room ≡ room = λ i v. (c.loop.invariant.shape.room v) i in
      let did = serves_as (length c.loop.desk.stores.items) c.args.regions (g.W.World.shape c.loop.world).room room (events_of was.0)
      (Ok c.in_ok-ending.field-0) (Ok None) stream rest end.input c.serve_one.new.desk.stores.items mid end (g.W.World.faults c.loop.world)
      (g.W.World.faults c.serve_one.new.world)
      c.loop.invariant.count rooms (ap (λ (o : Option Ending). Ok o) c.in_default.is) (c.in_ok-ending.ensures.told told (events_of was.0) was.2.keeps) in
      let next = serving_on c.args.regions room was.0 stream rest end.input c.loop.desk.stores.items c.serve_one.new.desk.stores.items start mid end
      (g.W.World.faults c.args.world.now) (g.W.World.faults c.loop.world) (g.W.World.faults c.serve_one.new.world) was.2 did in
      (next.0 ∷ was.0, omega (arith, was.1), next.1);
  tied = λ told.
      let was = c.loop.invariant.told told in
      let room = (g.W.World.shape c.args.world.now).room in
      let start = g.W.World.outside c.args.world.now in
      let mid = g.W.World.outside c.loop.world in
      let end = g.W.World.outside c.serve_one.new.world in
      let stream = c.loop.buffer ++ mid.input in
      let rest = c.serve_one.new.buffer ++ end.input in
      let rooms : (g.W.World.shape c.loop.world).room ≡ room = λ i v. (c.loop.invariant.shape.room v) i in
      let did = serves_as (length c.loop.desk.stores.items) c.args.regions (g.W.World.shape c.loop.world).room room (events_of was.0)
      (Ok c.in_ok-ending.field-0) (Ok None) stream rest end.input c.serve_one.new.desk.stores.items mid end (g.W.World.faults c.loop.world)
      (g.W.World.faults c.serve_one.new.world)
      c.loop.invariant.count rooms (ap (λ (o : Option Ending). Ok o) c.in_default.is) (c.in_ok-ending.ensures.told told (events_of was.0) was.2.keeps) in
      let next = serving_on c.args.regions room was.0 stream rest end.input c.loop.desk.stores.items c.serve_one.new.desk.stores.items start mid end
      (g.W.World.faults c.args.world.now) (g.W.World.faults c.loop.world) (g.W.World.faults c.serve_one.new.world) was.2 did in
      tied (events_of (next.0 ∷ was.0)) c.serve_one.new.desk.stores.items end c.in_ok-ending.ensures.numbered next.1.keeps;
  count = c.in_ok-ending.ensures.count ∙ c.loop.invariant.count;
  numbered = c.in_ok-ending.ensures.numbered;
  counts = falls_then _ _ _ c.loop.invariant.counts c.in_ok-ending.ensures.counts;
  goes = g.met.W.World.goes_then _ _ _ c.loop.invariant.goes c.in_ok-ending.ensures.goes;
  shape = shape_then _ _ _ c.loop.invariant.shape c.in_ok-ending.ensures.shape;
}

pub returns-in_err-ending-clause-served : goal.returns-in_err-ending-clause-served
returns-in_err-ending-clause-served g c = λ told.
    let was = c.loop.invariant.told told in
    let room = (g.W.World.shape c.args.world.now).room in
    let start = g.W.World.outside c.args.world.now in
    let mid = g.W.World.outside c.loop.world in
    let end = g.W.World.outside c.serve_one.new.world in
    let stream = c.loop.buffer ++ mid.input in
    let rest = c.serve_one.new.buffer ++ end.input in
    let rooms : (g.W.World.shape c.loop.world).room ≡ room = λ i v. (c.loop.invariant.shape.room v) i in
    let did = serves_as (length c.loop.desk.stores.items) c.args.regions (g.W.World.shape c.loop.world).room room (events_of was.0)
    (Err c.in_err-ending.field-0.0) (Err c.in_err-ending.field-0.0) stream rest end.input c.serve_one.new.desk.stores.items mid end
    (g.W.World.faults c.loop.world) (g.W.World.faults c.serve_one.new.world)
    c.loop.invariant.count rooms refl (c.in_err-ending.ensures.told told (events_of was.0) was.2.keeps) in
    let p = err_from_is_err_and c.from_residual-in_err-ending.result c.from_residual-in_err-ending.ensures.1 in
    rw (p.1, p.2) (served_stop c.args.regions room was.0 stream rest end.input c.loop.desk.stores.items c.serve_one.new.desk.stores.items start mid end
    (g.W.World.faults c.args.world.now) (g.W.World.faults c.loop.world) (g.W.World.faults c.serve_one.new.world) was.2 c.in_err-ending.field-0.0
    (omega (arith, was.1, c.loop-test.true)) did c.serve_one.new.buffer refl)

pub returns-in-Some-clause-served : goal.returns-in-Some-clause-served
returns-in-Some-clause-served g c = λ told.
    let was = c.loop.invariant.told told in
    let room = (g.W.World.shape c.args.world.now).room in
    let start = g.W.World.outside c.args.world.now in
    let mid = g.W.World.outside c.loop.world in
    let end = g.W.World.outside c.serve_one.new.world in
    let stream = c.loop.buffer ++ mid.input in
    let rest = c.serve_one.new.buffer ++ end.input in
    let rooms : (g.W.World.shape c.loop.world).room ≡ room = λ i v. (c.loop.invariant.shape.room v) i in
    let did = serves_as (length c.loop.desk.stores.items) c.args.regions (g.W.World.shape c.loop.world).room room (events_of was.0)
    (Ok c.in_ok-ending.field-0) (Ok (Some c.in-Some.ending)) stream rest end.input c.serve_one.new.desk.stores.items mid end
    (g.W.World.faults c.loop.world) (g.W.World.faults c.serve_one.new.world)
    c.loop.invariant.count rooms (ap (λ (o : Option Ending). Ok o) c.in-Some.is) (c.in_ok-ending.ensures.told told (events_of was.0) was.2.keeps) in
    served_ending c.args.regions room was.0 stream rest end.input c.loop.desk.stores.items c.serve_one.new.desk.stores.items start mid end
    (g.W.World.faults c.args.world.now) (g.W.World.faults c.loop.world) (g.W.World.faults c.serve_one.new.world) was.2 c.in-Some.ending
    (omega (arith, was.1, c.loop-test.true)) did c.serve_one.new.buffer refl

pub returns-clause-served : goal.returns-clause-served
returns-clause-served g c = λ told.
    let was = c.loop.invariant.told told in
    let room = (g.W.World.shape c.args.world.now).room in
    let start = g.W.World.outside c.args.world.now in
    let mid = g.W.World.outside c.loop.world in
    let end = g.W.World.outside c.ending_behind.new.world in
    let stream = c.loop.buffer ++ mid.input in
    served_behind c.args.regions room was.0 stream stream end.input c.loop.desk.stores.items c.loop.desk.stores.items start mid end
    (g.W.World.faults c.args.world.now) (g.W.World.faults c.loop.world) (g.W.World.faults c.ending_behind.new.world) was.2
    c.ending_behind.result (omega (arith, was.1, c.loop-test.false, c.loop.auto.counter-end)) refl (c.ending_behind.ensures.volumes told)
    (c.ending_behind.ensures.connections told) c.ending_behind.ensures.counts (c.ending_behind.ensures.told told)
    c.ending_behind.new.buffer (sym (c.ending_behind.ensures.kept told))
