use Rattle.std.proofs.Common.{◌-◌, List, ◌++◌, length, take, drop, Err, refl, subst, arith}
use Rattle.s3r_desk.specs.declared.worker_turn.WorkerTurn.{WorkerTurn}
use Rattle.s3r_desk.specs.declared.work_summary.WorkSummary.{WorkSummary}
use Rattle.s3r_desk.specs.Happened.{Happened}
use Rattle.s3r_desk.specs.Worked.{MakesTurns}
use Rattle.s3r_desk.proofs.MadeTurns.{first_is, none_in, fault_made, turn_then}
use Rattle.s3r_desk.proofs.working.+make_turns.Goals as goal

pub returns-in-empty-clause-told : goal.returns-in-empty-clause-told
returns-in-empty-clause-told g n c = λ told before keeps.
    none_in (g.W.World.shape c.args.world.now).room before c.args.stores.now.items (g.W.World.outside c.args.world.now) c.args.summary
    (g.W.World.faults c.args.world.now) c.args.turns.now c.in-empty.len_below keeps
    (record { most = refl; volume = λ u. omega arith; input = omega arith; output = omega arith; door = omega arith })

pub returns-in-Ok-clause-told : goal.returns-in-Ok-clause-told
returns-in-Ok-clause-told g n c = λ told before keeps.
    let a = c.args.stores.now.items in
    let room = (g.W.World.shape c.args.world.now).room in
    let old = g.W.World.outside c.args.world.now in
    let mid = g.W.World.outside c.make_turn.new.world in
    let new = g.W.World.outside c.make_turns.new.world in
    let f = g.W.World.faults c.args.world.now in
    let h = g.W.World.faults c.make_turns.new.world in
    let p = c.in-Ok.ensures.told told before keeps in
    let q = c.make_turns.ensures.told told (p.events ++ before) p.keeps in
    subst (λ (l : List WorkerTurn). Happened (MakesTurns l (length a) room old.as_read before c.args.summary c.make_turns.result f h) before a
    c.make_turns.new.stores.items old new)
    (first_is c.args.turns.now _ _ _ c.in-len1-up.len_at_least refl refl)
    (turn_then room before a old c.args.summary f _ _ c.make_turn.new.stores.items mid (g.W.World.faults c.make_turn.new.world) c.in-Ok.outcome p
    c.make_turns.result c.make_turns.new.stores.items new h c.in-Ok.ensures.counts c.make_turns.ensures.counts c.in-Ok.ensures.count
    (g.W.World.shape c.make_turn.new.world).room (λ i v. (c.in-Ok.ensures.shape.room v) i)
    (subst (λ (s : WorkSummary). Happened (MakesTurns (take (length c.args.turns.now - 1) (drop 1 c.args.turns.now)) (length c.make_turn.new.stores.items)
    (g.W.World.shape c.make_turn.new.world).room mid.as_read (p.events ++ before) s c.make_turns.result (g.W.World.faults c.make_turn.new.world) h)
    (p.events ++ before) c.make_turn.new.stores.items c.make_turns.new.stores.items mid new) c.noted.ensures.noted q))

pub returns-in-Err-clause-told : goal.returns-in-Err-clause-told
returns-in-Err-clause-told g n c = λ told before keeps.
    let a = c.args.stores.now.items in
    let room = (g.W.World.shape c.args.world.now).room in
    let old = g.W.World.outside c.args.world.now in
    let f = g.W.World.faults c.args.world.now in
    let h = g.W.World.faults c.make_turn.new.world in
    subst (λ (l : List WorkerTurn). Happened (MakesTurns l (length a) room old.as_read before c.args.summary (Err c.in-Err.fault) f h) before a
    c.make_turn.new.stores.items old (g.W.World.outside c.make_turn.new.world))
    (first_is c.args.turns.now _ _ _ c.in-len1-up.len_at_least refl refl)
    (fault_made room before a old c.args.summary f _ _ c.make_turn.new.stores.items (g.W.World.outside c.make_turn.new.world) h c.in-Err.fault
    (c.in-Err.ensures.told told before keeps) (c.in-Err.ensures.damage told))
