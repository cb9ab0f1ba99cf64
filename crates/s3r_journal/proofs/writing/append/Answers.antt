use Rattle.std.proofs.lemmas.Result.{err_from_is_err_and}
use Rattle.s3r_journal.specs.Volume.{spelling_of}
use Rattle.s3r_journal.proofs.Gated.{appends_nothing, appends_not, appends}
use Rattle.s3r_journal.proofs.writing.append.Goals as goal

pub returns-in_err-write_through-clause-told : goal.returns-in_err-write_through-clause-told
returns-in_err-write_through-clause-told g c = λ told.
    let p = err_from_is_err_and c.from_residual.result c.from_residual.ensures.1 in
    rw p.1 (appends_not c.args.v c.args.end (spelling_of c.args.frame.now) c.args.frame.now c.requires.frame.whole _ _
    (c.in_err-write_through.ensures.told told))

pub returns-in_err-write_through-2-clause-told : goal.returns-in_err-write_through-2-clause-told
returns-in_err-write_through-2-clause-told g c = λ told.
    let p = err_from_is_err_and c.from_residual-in_err-write_through-2.result c.from_residual-in_err-write_through-2.ensures.1 in
    rw p.1 (appends c.args.v c.args.end (spelling_of c.args.frame.now) c.args.frame.now c.requires.frame.whole _ _ _ _ c.requires.frame.short
    (c.requires.ready told) (c.in_ok-write_through.ensures.told told) (c.in_err-write_through-2.ensures.told told))

pub returns-clause-told : goal.returns-clause-told
returns-clause-told g c = λ told.
    appends c.args.v c.args.end (spelling_of c.args.frame.now) c.args.frame.now c.requires.frame.whole _ _ _ _ c.requires.frame.short (c.requires.ready told)
    (c.in_ok-write_through.ensures.told told) (c.in_ok-write_through-2.ensures.told told)

pub returns-then-full-clause-told : goal.returns-then-full-clause-told
returns-then-full-clause-told g c = λ told. appends_nothing c.args.v c.args.end (spelling_of c.args.frame.now) _
