use Rattle.std.proofs.Common.{◌≡◌, ◌∷◌, ◌++◌, [], replicate, sym, ap, ◌∙◌, arith}
use Rattle.std.proofs.lemmas.Grind.{replicate_next}
use Rattle.s3r_queue.proofs.outbox.Outbox.new.Goals as goal

pub loop-preserved : goal.loop-preserved
loop-preserved g c =
    c.in_ok-push.ensures.items
    ∙ ap (λ qs. qs ++ c.new.result ∷ []) c.loop.invariant
    ∙ ap (λ q. replicate c.loop.counter [] ++ q ∷ []) c.new.ensures
    ∙ sym (replicate_next c.loop.counter [])

pub returns : goal.returns
returns g c =
    let all : c.loop.counter ≡ c.args.regions = omega arith in
    c.loop.invariant ∙ ap (λ n. replicate n []) all
