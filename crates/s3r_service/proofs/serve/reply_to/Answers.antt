use Rattle.std.proofs.Common.{◌≡◌, Bool, IfOk, subst}
use Rattle.s3r_api.specs.Texts.{answer_text, problem_text}
use Rattle.s3r_service.proofs.Telling.{replies_step, replies_problem}
use Rattle.s3r_service.proofs.serve.reply_to.Goals as goal

pub returns-in-Ok-clause-told : goal.returns-in-Ok-clause-told
returns-in-Ok-clause-told g c = λ told before keeps.
    let reply = subst (λ (head : Bool). IfOk c.answer_bytes.result (λ text. text.items ≡ answer_text c.respond-answer.result head c.args.raw.now.last))
    c.is_head.ensures c.answer_bytes.ensures in
    replies_step before (g.W.World.shape c.args.world.now).room c.args.raw.now c.answer_bytes.result c.args.desk.now.stores.items
    c.respond-answer.new.self.stores.items (g.W.World.outside c.args.world.now) (g.W.World.outside c.respond-answer.new.world)
    (g.W.World.faults c.args.world.now) (g.W.World.faults c.respond-answer.new.world)
    c.respond-answer.ensures.counts c.in-Ok.request c.respond-answer.result c.in-Ok.ensures.exact
    (c.respond-answer.ensures.told told before keeps) reply

pub returns-in-Err-clause-told : goal.returns-in-Err-clause-told
returns-in-Err-clause-told g c = λ told before keeps.
    let reply = subst (λ (head : Bool). IfOk c.problem_bytes.result (λ text. text.items ≡ problem_text c.in-Err.problem head c.args.raw.now.last))
    c.is_head-in-Err.ensures c.problem_bytes.ensures in
    replies_problem before (g.W.World.shape c.args.world.now).room c.args.raw.now c.problem_bytes.result c.args.desk.now.stores.items
    (g.W.World.outside c.args.world.now) (g.W.World.faults c.args.world.now) c.in-Err.problem c.in-Err.ensures.exact keeps reply
