use Rattle.std.proofs.Common.{◌≡◌, ℕ, suc, ◌+◌, List, ◌++◌, [], length, Result, Ok, Err, refl, sym, ◌∙◌, ap, subst, arith}
use Rattle.std.specs.List.{AllByRecursion}
use Rattle.std.proofs.lemmas.Result.{err_from_is_err_and}
use Rattle.s3r_world.specs.Moments.{shape_then, falls_then}
use Rattle.s3r_desk.specs.declared.worker_turn.WorkerTurn.{WorkerTurn}
use Rattle.s3r_desk.specs.Rounds.{round, rounds, summary, IsThere}
use Rattle.s3r_desk.specs.Happened.{Happened}
use Rattle.s3r_desk.specs.Worked.{MakesTurns}
use Rattle.s3r_desk.proofs.RoundLemmas.{round_there, round_few}
use Rattle.s3r_desk.proofs.MadeTurns.{round_then, all_made, ended_in, starved_first}
use Rattle.s3r_desk.proofs.working.work.Goals as goal

pub returns-in_err-turns-clause-told : goal.returns-in_err-turns-clause-told
returns-in_err-turns-clause-told g c = λ told before keeps.
    let p = err_from_is_err_and c.from_residual.result c.from_residual.ensures.1 in
    rw (p.1, p.2) (starved_first (length c.args.stores.now.items) (g.W.World.shape c.args.world.now).room before c.args.stores.now.items
    (g.W.World.outside c.args.world.now) (g.W.World.faults c.args.world.now) c.args.rounds keeps
    (record { most = refl; volume = λ u. omega arith; input = omega arith; output = omega arith; door = omega arith }))

pub make_turns-requires-clause-there : goal.make_turns-requires-clause-there
make_turns-requires-clause-there g c =
    subst (λ (l : List WorkerTurn). AllByRecursion (IsThere (length c.loop.stores.items)) l) (sym (c.as_slice.ensures.value ∙ c.loop.invariant.turns))
    (subst (λ (n : ℕ). AllByRecursion (IsThere n) (round (length c.args.stores.now.items))) (sym c.loop.invariant.count)
    (round_there (length c.args.stores.now.items)))

pub returns-in_err-summary-clause-told : goal.returns-in_err-summary-clause-told
returns-in_err-summary-clause-told g c = λ told before keeps.
    let a = c.args.stores.now.items in
    let room = (g.W.World.shape c.args.world.now).room in
    let old = g.W.World.outside c.args.world.now in
    let now = g.W.World.outside c.loop.world in
    let new = g.W.World.outside c.make_turns.new.world in
    let f = g.W.World.faults c.args.world.now in
    let h = g.W.World.faults c.make_turns.new.world in
    let e = err_from_is_err_and c.from_residual-in_err-summary.result c.from_residual-in_err-summary.ensures.1 in
    let fault = c.in_err-summary.field-0.0 in
    let p = c.loop.invariant.told told before keeps in
    let q = subst (λ (l : List WorkerTurn). Happened (MakesTurns l (length c.loop.stores.items) (g.W.World.shape c.loop.world).room now.as_read
    (p.events ++ before) c.loop.summary (Err fault) (g.W.World.faults c.loop.world) h) (p.events ++ before) c.loop.stores.items
    c.make_turns.new.stores.items now new) (c.as_slice.ensures.value ∙ c.loop.invariant.turns)
    (c.in_err-summary.ensures.told told (p.events ++ before) p.keeps) in
    rw (e.1, e.2) (ended_in room before a old f c.make_turns.new.stores.items new h c.args.rounds c.loop.counter
    (let lt = c.loop-test.true in omega (arith, lt)) fault
    (round_then room before a old (summary 0 []) c.loop.counter c.loop.summary c.loop.stores.items now f (g.W.World.faults c.loop.world) p
    (Err fault) c.make_turns.new.stores.items new h c.loop.invariant.counts c.in_err-summary.ensures.counts c.loop.invariant.count
    (g.W.World.shape c.loop.world).room (λ i v. (c.loop.invariant.shape.room v) i) q))

pub loop-preserved : goal.loop-preserved
loop-preserved g c =
    let a = c.args.stores.now.items in
    let room = (g.W.World.shape c.args.world.now).room in
    let old = g.W.World.outside c.args.world.now in
    let now = g.W.World.outside c.loop.world in
    let new = g.W.World.outside c.make_turns.new.world in
    let f = g.W.World.faults c.args.world.now in
    let h = g.W.World.faults c.make_turns.new.world in
    record {
      turns = c.loop.invariant.turns;
      few = let many = ap (λ (l : List WorkerTurn). length l) (c.as_slice.ensures.value ∙ c.loop.invariant.turns) in
          let most = round_few (length a) c.requires.few in
          let so_far = c.loop.invariant.few in
          let more = c.in_ok-summary.ensures.total in
          omega (arith, many, most, so_far, more);
      count = c.in_ok-summary.ensures.count ∙ c.loop.invariant.count;
      numbered = c.in_ok-summary.ensures.numbered;
      tied = c.in_ok-summary.ensures.tied;
      told = λ told before keeps.
          let p = c.loop.invariant.told told before keeps in
          let q = subst (λ (l : List WorkerTurn). Happened (MakesTurns l (length c.loop.stores.items) (g.W.World.shape c.loop.world).room now.as_read
          (p.events ++ before) c.loop.summary (Ok c.in_ok-summary.summary) (g.W.World.faults c.loop.world) h) (p.events ++ before) c.loop.stores.items
          c.make_turns.new.stores.items now new) (c.as_slice.ensures.value ∙ c.loop.invariant.turns)
          (c.in_ok-summary.ensures.told told (p.events ++ before) p.keeps) in
          subst (λ (i : ℕ). Happened (MakesTurns (rounds i (length a)) (length a) room old.as_read before (summary 0 []) (Ok c.in_ok-summary.summary) f h)
          before a c.make_turns.new.stores.items old new) (one_more c.loop.counter)
          (round_then room before a old (summary 0 []) c.loop.counter c.loop.summary c.loop.stores.items now f (g.W.World.faults c.loop.world) p
          (Ok c.in_ok-summary.summary) c.make_turns.new.stores.items new h c.loop.invariant.counts c.in_ok-summary.ensures.counts c.loop.invariant.count
          (g.W.World.shape c.loop.world).room (λ i v. (c.loop.invariant.shape.room v) i) q);
      counts = falls_then _ _ _ c.loop.invariant.counts c.in_ok-summary.ensures.counts;
      goes = g.met.W.World.goes_then _ _ _ c.loop.invariant.goes c.in_ok-summary.ensures.goes;
      shape = shape_then _ _ _ c.loop.invariant.shape c.in_ok-summary.ensures.shape;
    }
  where
    one_more : (i : ℕ) → suc i ≡ i + 1
    one_more i = omega arith

pub returns-clause-told : goal.returns-clause-told
returns-clause-told g c = λ told before keeps.
    let a = c.args.stores.now.items in
    let room = (g.W.World.shape c.args.world.now).room in
    let old = g.W.World.outside c.args.world.now in
    let f = g.W.World.faults c.args.world.now in
    let all : c.loop.counter ≡ c.args.rounds = omega (arith, c.loop-test.false, c.loop.auto.counter-end) in
    rw c.from.ensures (all_made room before a old f c.loop.stores.items (g.W.World.outside c.loop.world) (g.W.World.faults c.loop.world) c.args.rounds
    c.loop.summary
    (subst (λ (i : ℕ). Happened (MakesTurns (rounds i (length a)) (length a) room old.as_read before (summary 0 []) (Ok c.loop.summary) f
    (g.W.World.faults c.loop.world)) before a c.loop.stores.items old (g.W.World.outside c.loop.world)) all
    (c.loop.invariant.told told before keeps)))
