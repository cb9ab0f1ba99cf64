use Rattle.std.proofs.Common.{length, Ok, Err}
use Rattle.s3r_desk.proofs.MadeTurns.{copy_made, jobs_made}
use Rattle.s3r_desk.proofs.working.make_turn.Goals as goal

pub returns-in-Ok-clause-told : goal.returns-in-Ok-clause-told
returns-in-Ok-clause-told g c = λ told before keeps. rw c.in-Copy.is (
    copy_made (length c.args.stores.now.items) (g.W.World.shape c.args.world.now).room before c.args.stores.now.items c.copy_turn.new.stores.items
    (g.W.World.outside c.args.world.now) (g.W.World.outside c.copy_turn.new.world) (g.W.World.faults c.args.world.now)
    (g.W.World.faults c.copy_turn.new.world) c.in-Copy.from c.in-Copy.to (Ok c.in-Ok.outcome) (c.in-Ok.ensures.told told before keeps))

pub returns-in-Err-clause-told : goal.returns-in-Err-clause-told
returns-in-Err-clause-told g c = λ told before keeps. rw c.in-Copy.is (
    copy_made (length c.args.stores.now.items) (g.W.World.shape c.args.world.now).room before c.args.stores.now.items c.copy_turn.new.stores.items
    (g.W.World.outside c.args.world.now) (g.W.World.outside c.copy_turn.new.world) (g.W.World.faults c.args.world.now)
    (g.W.World.faults c.copy_turn.new.world) c.in-Copy.from c.in-Copy.to (Err c.in-Err.fault) (c.in-Err.ensures.told told before keeps))

pub returns-in-Ok-job_turn-clause-told : goal.returns-in-Ok-job_turn-clause-told
returns-in-Ok-job_turn-clause-told g c = λ told before keeps. rw c.in-Jobs.is (
    jobs_made (length c.args.stores.now.items) (g.W.World.shape c.args.world.now).room before c.args.stores.now.items c.job_turn.new.stores.items
    (g.W.World.outside c.args.world.now) (g.W.World.outside c.job_turn.new.world) (g.W.World.faults c.args.world.now)
    (g.W.World.faults c.job_turn.new.world) c.in-Jobs.region (Ok c.in-Ok-job_turn.outcome) (c.in-Ok-job_turn.ensures.told told before keeps))

pub returns-in-Err-job_turn-clause-told : goal.returns-in-Err-job_turn-clause-told
returns-in-Err-job_turn-clause-told g c = λ told before keeps. rw c.in-Jobs.is (
    jobs_made (length c.args.stores.now.items) (g.W.World.shape c.args.world.now).room before c.args.stores.now.items c.job_turn.new.stores.items
    (g.W.World.outside c.args.world.now) (g.W.World.outside c.job_turn.new.world) (g.W.World.faults c.args.world.now)
    (g.W.World.faults c.job_turn.new.world) c.in-Jobs.region (Err c.in-Err-job_turn.fault) (c.in-Err-job_turn.ensures.told told before keeps))
