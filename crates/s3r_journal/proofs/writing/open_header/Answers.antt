use Rattle.std.proofs.lemmas.Result.{err_from_is_err_and}
use Rattle.s3r_journal.proofs.Headers.{open_not, open_both}
use Rattle.s3r_journal.proofs.writing.open_header.Goals as goal

pub returns-in_err-write_through-clause-told : goal.returns-in_err-write_through-clause-told
returns-in_err-write_through-clause-told g c = λ told.
    let p = err_from_is_err_and c.from_residual.result c.from_residual.ensures.1 in
    rw p.1 (open_not c.args.region c.args.v _ _ (c.in_err-write_through.ensures.told told))

pub returns-clause-told : goal.returns-clause-told
returns-clause-told g c = λ told.
    open_both c.args.region c.args.v _ _ _ _ (c.requires.ready told) (c.in_ok-write_through.ensures.told told) (c.write_through-2.ensures.told told)
