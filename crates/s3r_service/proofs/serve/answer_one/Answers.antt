use Rattle.std.proofs.Common.{length}
use Rattle.s3r_service.specs.Turns.{answer_to}
use Rattle.s3r_service.proofs.Telling.{answers_one}
use Rattle.s3r_service.proofs.serve.answer_one.Goals as goal

pub returns-clause-told : goal.returns-clause-told
returns-clause-told g c = λ told before keeps.
    let did = c.reply_to-reply.ensures.told told before keeps in
    answers_one (length c.args.desk.now.stores.items) (g.W.World.shape c.args.world.now).room before c.args.raw.now c.reply_to-reply.result
    c.reply_to-reply.new.desk.stores.items
    (g.W.World.outside c.args.world.now) (g.W.World.outside c.reply_to-reply.new.world) (g.W.World.outside c.say.new.world)
    (g.W.World.faults c.args.world.now) (g.W.World.faults c.reply_to-reply.new.world) (g.W.World.faults c.say.new.world)
    c.say.ensures.counts did c.say.result (c.say.ensures.told told (answer_to c.args.raw.now did.outcome) did.reply)
