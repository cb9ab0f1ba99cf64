use Rattle.std.proofs.Common.{subst, sym}
use Rattle.std.proofs.lemmas.Result.{err_from_is_err_and}
use Rattle.s3r_journal.specs.Volume.{spelling_of}
use Rattle.s3r_store.proofs.Composed.{not_written, is_written}
use Rattle.s3r_store.proofs.writing.write.Goals as goal

pub returns-in_err-end-clause-told : goal.returns-in_err-end-clause-told
returns-in_err-end-clause-told g c = λ told.
    let p = err_from_is_err_and c.from_residual.result c.from_residual.ensures.1 in
    rw p.1 (not_written c.args.v (spelling_of c.args.frame.now) (g.W.World.outside c.args.world.now) (g.W.World.outside c.opened.new.world) c.args.end
    (c.in_err-end.ensures.made told)
    (λ is P now. subst (λ w. P (g.W.World.outside w)) (sym (c.in_err-end.ensures.there is)) now))

pub returns-clause-told : goal.returns-clause-told
returns-clause-told g c = λ told.
    is_written c.args.v (spelling_of c.args.frame.now) (g.W.World.outside c.args.world.now) (g.W.World.outside c.opened.new.world)
    (g.W.World.outside c.append.new.world) _ c.args.end c.in_ok-end.end c.in_ok-end.ensures.end (c.in_ok-end.ensures.made told)
    (λ is P now. subst (λ w. P (g.W.World.outside w)) (c.in_ok-end.ensures.there is) now) (c.append.ensures.told told)
