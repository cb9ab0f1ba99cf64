use Rattle.s3r_desk.proofs.CopyDelivery.{tried_ok, tried_err}
use Rattle.s3r_desk.proofs.copying.note_attempt.Goals as goal

pub returns-in-Ok-clause-told : goal.returns-in-Ok-clause-told
returns-in-Ok-clause-told g c = λ told before keeps.
    tried_ok (g.W.World.shape c.args.world.now).room c.args.from c.args.to c.args.number before c.args.stores.now.items c.commit_own.new.stores.items
    (g.W.World.outside c.args.world.now) (g.W.World.outside c.commit_own.new.world) c.args.attempts c.tried.result c.tried.ensures
    (c.in-Ok.ensures.told told before keeps)

pub returns-in-Err-clause-told : goal.returns-in-Err-clause-told
returns-in-Err-clause-told g c = λ told before keeps.
    tried_err (g.W.World.shape c.args.world.now).room c.args.from c.args.to c.args.number before c.args.stores.now.items c.commit_own.new.stores.items
    (g.W.World.outside c.args.world.now) (g.W.World.outside c.commit_own.new.world) c.args.attempts c.in-Err.fault (c.in-Err.ensures.told told before keeps)
