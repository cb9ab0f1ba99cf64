use Rattle.std.proofs.Common.{◌+◌, ℕ, sym, subst, arith, length-drop}
use Rattle.std.proofs.lemmas.List.{take_all}
use Rattle.s3r_world.specs.Moments.{shape_then, falls_then}
use Rattle.s3r_service.specs.Sends.{Sends}
use Rattle.s3r_service.proofs.Fronts.{sends_more}
use Rattle.s3r_service.proofs.sending.emit_all.Goals as goal

pub returns-in_err-sent-clause-told : goal.returns-in_err-sent-clause-told
returns-in_err-sent-clause-told g c = λ told.
    let put = c.emit.ensures.told told in
    let sent = c.loop-sent.sent in (
      sent + put.count,
      omega (arith, put.within, c.loop-sent.invariant.within, length-drop sent c.args.bytes.now),
      sends_more c.args.bytes.now _ sent _ _ _ _ (take_all _ _ (omega (arith, length-drop sent c.args.bytes.now))) (c.loop-sent.invariant.told told) put,
    )

pub loop-sent-preserved : goal.loop-sent-preserved
loop-sent-preserved g c = record {
  within = omega (arith, c.in_ok-sent.ensures.within, c.loop-sent.invariant.within, length-drop c.loop-sent.sent c.args.bytes.now);
  told = λ told.
      let put = c.in_ok-sent.ensures.told told in
      subst (λ (n : ℕ). Sends c.args.bytes.now (c.loop-sent.sent + n) (g.W.World.outside c.args.world.now) (g.W.World.outside c.emit.new.self)) (sym put.ok)
      (sends_more c.args.bytes.now _ c.loop-sent.sent _ _ _ _ (take_all _ _ (omega (arith, length-drop c.loop-sent.sent c.args.bytes.now)))
      (c.loop-sent.invariant.told told) put);
  counts = falls_then _ _ _ c.loop-sent.invariant.counts c.emit.ensures.cause.counts;
  goes = g.met.W.World.goes_then _ _ _ c.loop-sent.invariant.goes c.emit.ensures.goes;
  shape = shape_then _ _ _ c.loop-sent.invariant.shape c.emit.ensures.shape;
}
