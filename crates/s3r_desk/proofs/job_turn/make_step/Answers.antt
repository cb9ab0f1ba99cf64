use Rattle.std.proofs.Common.{Ok, Err, length, subst, arith}
use Rattle.s3r_record.specs.declared.command.Command.{Command}
use Rattle.s3r_batches.specs.Turns.{command_of}
use Rattle.s3r_desk.specs.Events.{history_at}
use Rattle.s3r_desk.specs.Happened.{Happened, IsCommit}
use Rattle.s3r_desk.proofs.Places.{get_at}
use Rattle.s3r_desk.proofs.JobTurning.{read_now, accepted_at, came_is, step_ok, step_err}
use Rattle.s3r_desk.proofs.job_turn.make_step.Goals as goal

pub came_to-requires-clause-read : goal.came_to-requires-clause-read
came_to-requires-clause-read g c =
    read_now c.args.stores.now.items c.commit_own.new.stores.items c.args.region c.command_of.result c.requires.region c.in-Ok.ensures.goes_on
    c.index.result.now (get_at c.commit_own.new.stores.items c.args.region c.index.result.now
    (let same = c.in-Ok.ensures.count in let lt = c.requires.region in omega (arith, same, lt)) c.index.ensures)

pub returns-in-Ok-clause-told : goal.returns-in-Ok-clause-told
returns-in-Ok-clause-told g c = λ told before keeps.
    let a = c.args.stores.now.items in
    let b = c.commit_own.new.stores.items in
    let r = c.args.region in
    let room = (g.W.World.shape c.args.world.now).room in
    let old = g.W.World.outside c.args.world.now in
    let new = g.W.World.outside c.commit_own.new.world in
    let p = subst (λ (k : Command). Happened (IsCommit {A = Unit {0}} room before r k (Ok tt)) before a b old new) c.command_of.ensures
    (c.in-Ok.ensures.told told before keeps) in
    let accepted = accepted_at before a old keeps c.requires.numbered r (command_of c.args.step) c.requires.region c.requires.read c.requires.accepted in
    step_ok (length a) room r before a b old new c.args.step accepted c.came_to.result p
    (came_is before p.events b new p.keeps c.in-Ok.ensures.numbered r
    (read_now a b r c.command_of.result c.requires.region c.in-Ok.ensures.goes_on) c.index.result.now
    (get_at b r c.index.result.now (let same = c.in-Ok.ensures.count in let lt = c.requires.region in omega (arith, same, lt)) c.index.ensures)
    (command_of c.args.step) (history_at before r) p.such.1 c.came_to.result c.args.step c.came_to.ensures)

pub returns-in-Err-clause-told : goal.returns-in-Err-clause-told
returns-in-Err-clause-told g c = λ told before keeps.
    let a = c.args.stores.now.items in
    let b = c.commit_own.new.stores.items in
    let r = c.args.region in
    let room = (g.W.World.shape c.args.world.now).room in
    let old = g.W.World.outside c.args.world.now in
    let new = g.W.World.outside c.commit_own.new.world in
    let accepted = accepted_at before a old keeps c.requires.numbered r (command_of c.args.step) c.requires.region c.requires.read c.requires.accepted in
    step_err (length a) room r before a b old new c.args.step accepted c.in-Err.fault
    (subst (λ (k : Command). Happened (IsCommit {A = Unit {0}} room before r k (Err c.in-Err.fault)) before a b old new) c.command_of.ensures
    (c.in-Err.ensures.told told before keeps))
