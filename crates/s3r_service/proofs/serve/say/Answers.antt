use Rattle.std.proofs.Common.{◌≡◌, ℕ, List, length, Result, IfOk, ◌∙◌, subst, Vec}
use Rattle.std.specs.declared.alloc.Global.{Global}
use Rattle.std.specs.declared.alloc.AllocError.{AllocError}
use Rattle.std.proofs.Math.Seq.{drop-length}
use Rattle.std.proofs.lemmas.Result.{err_from_is_err_and}
use Rattle.s3r_service.specs.Sends.{Sends}
use Rattle.s3r_service.proofs.Telling.{says_front, says_all}
use Rattle.s3r_service.proofs.serve.say.Goals as goal

pub returns-in_err-emit_all-clause-told : goal.returns-in_err-emit_all-clause-told
returns-in_err-emit_all-clause-told g c = λ told text is.
    let same : c.in_ok-text.text.items ≡ text = subst (λ (r : Result (Vec ℕ Global) AllocError). IfOk r (λ bytes. bytes.items ≡ text)) c.in_ok-text.was is in
    let put = c.in_err-emit_all.ensures.told told in
    let sends : Sends text put.0 (g.W.World.outside c.args.world.now) (g.W.World.outside c.emit_all.new.world) =
    subst (λ (l : List ℕ). Sends l put.0 (g.W.World.outside c.args.world.now) (g.W.World.outside c.emit_all.new.world)) (c.deref.ensures.value ∙ same) put.2 in
    let p = err_from_is_err_and c.from_residual-in_err-emit_all.result c.from_residual-in_err-emit_all.ensures.1 in
    rw (p.1, p.2) (says_front text put.0 (g.W.World.outside c.args.world.now) (g.W.World.outside c.emit_all.new.world) sends)

pub returns-clause-told : goal.returns-clause-told
returns-clause-told g c = λ told text is.
    let same : c.in_ok-text.text.items ≡ text = subst (λ (r : Result (Vec ℕ Global) AllocError). IfOk r (λ bytes. bytes.items ≡ text)) c.in_ok-text.was is in
    let sends : Sends text (length text) (g.W.World.outside c.args.world.now) (g.W.World.outside c.emit_all.new.world) =
    subst (λ (l : List ℕ). Sends l (length l) (g.W.World.outside c.args.world.now) (g.W.World.outside c.emit_all.new.world)) (c.deref.ensures.value ∙ same)
    (c.in_ok-emit_all.ensures.ok told) in
    says_all text (length text) (g.W.World.outside c.args.world.now) (g.W.World.outside c.emit_all.new.world) sends (drop-length text)
