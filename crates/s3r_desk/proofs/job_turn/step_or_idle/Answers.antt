use Rattle.std.proofs.Common.{length, Some, None}
use Rattle.s3r_desk.proofs.Places.{get_at}
use Rattle.s3r_desk.proofs.JobTurning.{next_is, idle, step_made}
use Rattle.s3r_desk.proofs.job_turn.step_or_idle.Goals as goal

pub returns-in-Some-clause-told : goal.returns-in-Some-clause-told
returns-in-Some-clause-told g c = λ told before keeps.
    let a = c.args.stores.now.items in
    let r = c.args.region in
    let old = g.W.World.outside c.args.world.now in
    step_made (length a) (g.W.World.shape c.args.world.now).room r before a old c.in-Some.step c.make_step.result c.make_step.new.stores.items
    (g.W.World.outside c.make_step.new.world)
    (next_is before a old keeps c.requires.numbered r c.requires.read c.index.result.now (get_at a r c.index.result.now c.requires.region c.index.ensures)
    (Some c.in-Some.step) c.in-Some.ensures.step)
    (c.make_step.ensures.told told before keeps)

pub returns-in-None-clause-told : goal.returns-in-None-clause-told
returns-in-None-clause-told g c = λ told before keeps.
    let a = c.args.stores.now.items in
    let r = c.args.region in
    let old = g.W.World.outside c.args.world.now in
    idle (length a) (g.W.World.shape c.args.world.now).room r before a old keeps
    (next_is before a old keeps c.requires.numbered r c.requires.read c.index.result.now (get_at a r c.index.result.now c.requires.region c.index.ensures)
    None c.in-None.ensures.step)
