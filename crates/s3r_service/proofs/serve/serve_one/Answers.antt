use Rattle.std.proofs.Common.{◌≡◌, ◌≤◌, ◌++◌, ℕ, false, true, List, length, Option, Some, IfSome, Ok, Err, refl, inl, sym, ◌∙◌, ap, subst, arith}
use Rattle.std.proofs.lemmas.Result.{err_from_is_err_and}
use Rattle.s3r_world.specs.Moments.{falls_then}
use Rattle.s3r_journal.proofs.Elsewhere.{left_keeps}
use Rattle.s3r_desk.proofs.Keeps.{keeps_left, tied_left}
use Rattle.s3r_http.specs.declared.message.HttpFault.{HttpFault}
use Rattle.s3r_http.specs.declared.message.RawRequest.{RawRequest}
use Rattle.s3r_http.specs.Request.{ReadsSome}
use Rattle.s3r_api.specs.Texts.{problem_text}
use Rattle.s3r_service.specs.declared.stop.Stop.{Stop}
use Rattle.s3r_service.specs.declared.stop.Ending.TheVariants.{Over, Refused}
use Rattle.s3r_service.specs.Turns.{request_came}
use Rattle.s3r_service.proofs.Telling.{serves_turn, serves_none, serves_closing, ends_answered, ends_cut, refused_by, ends_refused, ends_refusal_cut, ends_unread}
use Rattle.s3r_service.proofs.serve.serve_one.Goals as goal

pub answer_one-requires-clause-tied : goal.answer_one-requires-clause-tied
answer_one-requires-clause-tied g c = λ told.
    tied_left c.args.desk.now.stores.items (g.W.World.outside c.args.world.now) (g.W.World.outside c.read_request.new.world)
    (λ q. left_keeps q _ _ (c.read_request.ensures.volumes told)) (c.requires.tied told)

pub answer_one-requires-clause-small : goal.answer_one-requires-clause-small
answer_one-requires-clause-small g c = subst (λ (o : Option RawRequest). IfSome o (λ asked. length asked.body ≤ 4194304))
    c.in-Ok-Some.field-0-is c.in-Ok-Some.ensures.small

pub returns-in_err-answer_one-in-Ok-Some-clause-told : goal.returns-in_err-answer_one-in-Ok-Some-clause-told
returns-in_err-answer_one-in-Ok-Some-clause-told g c = λ told before keeps.
    let start = g.W.World.outside c.args.world.now in
    let mid = g.W.World.outside c.read_request.new.world in
    let end = g.W.World.outside c.answer_one.new.world in
    let stores = c.args.desk.now.stores.items in
    let reads = c.read_request.ensures.volumes told in
    let read = subst (λ (o : Option RawRequest). ReadsSome o (c.args.buffer.now ++ start.input) (c.read_request.new.buffer ++ mid.input))
    c.in-Ok-Some.field-0-is (c.in-Ok-Some.ensures.told told) in
    let rooms : (g.W.World.shape c.read_request.new.world).room ≡ (g.W.World.shape c.args.world.now).room = λ i v. (c.read_request.ensures.shape.room v) i in
    let did = c.in_err-answer_one-in-Ok-Some.ensures.told told before (keeps_left before stores start mid (λ q. left_keeps q start mid reads) keeps) in
    let p = err_from_is_err_and c.from_residual.result c.from_residual.ensures.1 in
    rw (p.1, p.2) (serves_turn (length stores) (g.W.World.shape c.args.world.now).room (g.W.World.shape c.read_request.new.world).room before c.in-Ok-Some.raw
    (c.args.buffer.now ++ start.input) read.0 c.read_request.new.buffer (Err c.in_err-answer_one-in-Ok-Some.field-0.0) c.answer_one.new.desk.stores.items
    start mid end (g.W.World.faults c.args.world.now) (g.W.World.faults c.read_request.new.world)
    (g.W.World.faults c.answer_one.new.world) rooms c.read_request.ensures.counts reads (c.read_request.ensures.connections told) read.1 read.2 did
    (Err c.in_err-answer_one-in-Ok-Some.field-0.0) (ends_cut c.in_err-answer_one-in-Ok-Some.field-0.0 c.in_err-answer_one-in-Ok-Some.ensures.stop
    (record {
      occasion = request_came c.in-Ok-Some.raw read.0 did.outcome;
      step = did.step;
      sent = did.sent;
      before =
          g.W.World.faults c.read_request.new.world;
      after = g.W.World.faults c.answer_one.new.world;
    }) (λ e. did.unsaid (ap (λ (x : Stop). Err x) e))
    (c.read_request.new.buffer ++ end.input) end.input))

pub returns-in_ok-answer_one-in-Ok-Some-clause-told : goal.returns-in_ok-answer_one-in-Ok-Some-clause-told
returns-in_ok-answer_one-in-Ok-Some-clause-told g c = λ told before keeps.
    let start = g.W.World.outside c.args.world.now in
    let mid = g.W.World.outside c.read_request.new.world in
    let end = g.W.World.outside c.answer_one.new.world in
    let stores = c.args.desk.now.stores.items in
    let reads = c.read_request.ensures.volumes told in
    let read = subst (λ (o : Option RawRequest). ReadsSome o (c.args.buffer.now ++ start.input) (c.read_request.new.buffer ++ mid.input))
    c.in-Ok-Some.field-0-is (c.in-Ok-Some.ensures.told told) in
    let rooms : (g.W.World.shape c.read_request.new.world).room ≡ (g.W.World.shape c.args.world.now).room = λ i v. (c.read_request.ensures.shape.room v) i in
    let did = c.in_ok-answer_one-in-Ok-Some.ensures.told told before (keeps_left before stores start mid (λ q. left_keeps q start mid reads) keeps) in
    serves_turn (length stores) (g.W.World.shape c.args.world.now).room (g.W.World.shape c.read_request.new.world).room before c.in-Ok-Some.raw
    (c.args.buffer.now ++ start.input) read.0 c.read_request.new.buffer (Ok tt) c.answer_one.new.desk.stores.items
    start mid end (g.W.World.faults c.args.world.now) (g.W.World.faults c.read_request.new.world)
    (g.W.World.faults c.answer_one.new.world) rooms c.read_request.ensures.counts reads (c.read_request.ensures.connections told) read.1 read.2 did
    (Ok c.ending_after.result) (ends_answered (record {
      occasion = request_came c.in-Ok-Some.raw read.0 did.outcome;
      step = did.step;
      sent =
          did.sent;
      before = g.W.World.faults c.read_request.new.world;
      after = g.W.World.faults c.answer_one.new.world;
    }) did.more
    (c.read_request.new.buffer ++ end.input) end.input did.front did.whole c.in-Ok-Some.raw.last refl c.ending_after.result c.ending_after.ensures)

pub returns-in-Ok-None-clause-told : goal.returns-in-Ok-None-clause-told
returns-in-Ok-None-clause-told g c = λ told before keeps.
    let start = g.W.World.outside c.args.world.now in
    let mid = g.W.World.outside c.read_request.new.world in
    let stores = c.args.desk.now.stores.items in
    let read = subst (λ (o : Option RawRequest). ReadsSome o (c.args.buffer.now ++ start.input) (c.read_request.new.buffer ++ mid.input))
    c.in-Ok-None.field-0-is (c.in-Ok-None.ensures.told told) in
    serves_none (length stores) (g.W.World.shape c.args.world.now).room before (c.args.buffer.now ++ start.input)
    (c.read_request.new.buffer ++ mid.input) mid.input stores start mid mid (g.W.World.faults c.args.world.now) (g.W.World.faults c.read_request.new.world)
    c.read_request.ensures.counts (c.read_request.ensures.volumes told) (c.read_request.ensures.connections told) (read.0 ∙ sym read.1) keeps (Ok (Some Over))
    (λ count lt. (refl, inl (omega (arith, lt), refl, read.1)))

pub returns-in-None-clause-told : goal.returns-in-None-clause-told
returns-in-None-clause-told g c = λ told before keeps.
    let start = g.W.World.outside c.args.world.now in
    let mid = g.W.World.outside c.read_request.new.world in
    let stores = c.args.desk.now.stores.items in
    serves_none (length stores) (g.W.World.shape c.args.world.now).room before (c.args.buffer.now ++ start.input)
    (c.read_request.new.buffer ++ mid.input) mid.input stores start mid mid (g.W.World.faults c.args.world.now) (g.W.World.faults c.read_request.new.world)
    c.read_request.ensures.counts (c.read_request.ensures.volumes told) (c.read_request.ensures.connections told) (sym (c.in-Err.ensures.kept told)) keeps
    (Err c.stop_of.result)
    (ends_unread c.in-Err.fault c.stop_of.result c.read_request.new.buffer mid.input (sym c.framing_problem.ensures ∙ c.in-None.is) c.stop_of.ensures
    (λ e. c.in-Err.ensures.incomplete told (ap (λ (x : HttpFault). Err x) e)))

pub returns-in_err-say-in-Some-clause-told : goal.returns-in_err-say-in-Some-clause-told
returns-in_err-say-in-Some-clause-told g c = λ told before keeps.
    let start = g.W.World.outside c.args.world.now in
    let mid = g.W.World.outside c.read_request.new.world in
    let end = g.W.World.outside c.say.new.world in
    let stores = c.args.desk.now.stores.items in
    let says = c.in_err-say-in-Some.ensures.told told (problem_text c.in-Some.problem false true) c.problem_bytes.ensures in
    let same : c.args.buffer.now ++ start.input ≡ c.read_request.new.buffer ++ end.input =
    sym (c.in-Err.ensures.kept told) ∙ ap (λ (l : List ℕ). c.read_request.new.buffer ++ l) (sym says.input.input) in
    let refused = refused_by c.in-Err.fault c.in-Some.problem (c.args.buffer.now ++ start.input) (c.read_request.new.buffer ++ end.input)
    (Err c.in_err-say-in-Some.field-0.0) mid end (sym c.framing_problem.ensures ∙ c.in-Some.is) (c.in-Err.ensures.cause told)
    (c.in-Err.ensures.refused told) same says in
    let p = err_from_is_err_and c.from_residual-in_err-say-in-Some.result c.from_residual-in_err-say-in-Some.ensures.1 in
    rw (p.1, p.2) (serves_closing (length stores) (g.W.World.shape c.args.world.now).room before (c.args.buffer.now ++ start.input)
    (c.read_request.new.buffer ++ end.input) end.input stores start mid end (g.W.World.faults c.args.world.now) (g.W.World.faults c.say.new.world)
    (falls_then _ _ _ c.read_request.ensures.counts c.say.ensures.counts) (c.read_request.ensures.volumes told)
    (c.read_request.ensures.connections told) same keeps (Err c.in_err-say-in-Some.field-0.0) (problem_text c.in-Some.problem false true)
    (Err c.in_err-say-in-Some.field-0.0) says
    (ends_refusal_cut c.in_err-say-in-Some.field-0.0 c.in_err-say-in-Some.ensures.stop (problem_text c.in-Some.problem false true)
    (c.read_request.new.buffer ++ end.input) end.input mid end says refused))

pub returns-in_ok-say-in-Some-clause-told : goal.returns-in_ok-say-in-Some-clause-told
returns-in_ok-say-in-Some-clause-told g c = λ told before keeps.
    let start = g.W.World.outside c.args.world.now in
    let mid = g.W.World.outside c.read_request.new.world in
    let end = g.W.World.outside c.say.new.world in
    let stores = c.args.desk.now.stores.items in
    let says = c.in_ok-say-in-Some.ensures.told told (problem_text c.in-Some.problem false true) c.problem_bytes.ensures in
    let same : c.args.buffer.now ++ start.input ≡ c.read_request.new.buffer ++ end.input =
    sym (c.in-Err.ensures.kept told) ∙ ap (λ (l : List ℕ). c.read_request.new.buffer ++ l) (sym says.input.input) in
    serves_closing (length stores) (g.W.World.shape c.args.world.now).room before (c.args.buffer.now ++ start.input)
    (c.read_request.new.buffer ++ end.input) end.input stores start mid end (g.W.World.faults c.args.world.now) (g.W.World.faults c.say.new.world)
    (falls_then _ _ _ c.read_request.ensures.counts c.say.ensures.counts) (c.read_request.ensures.volumes told)
    (c.read_request.ensures.connections told) same keeps (Ok (Some Refused)) (problem_text c.in-Some.problem false true) (Ok tt) says
    (ends_refused c.in-Err.fault c.in-Some.problem (c.args.buffer.now ++ start.input) (c.read_request.new.buffer ++ end.input) end.input mid end
    (sym c.framing_problem.ensures ∙ c.in-Some.is) (c.in-Err.ensures.cause told) (c.in-Err.ensures.refused told) same says)
