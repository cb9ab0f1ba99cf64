use Rattle.std.proofs.lemmas.Result.{err_from_is_err_and}
use Rattle.s3r_journal.proofs.Headers.{create_not, create_both}
use Rattle.s3r_journal.proofs.writing.create.Goals as goal

pub returns-in_err-close_header-clause-told : goal.returns-in_err-close_header-clause-told
returns-in_err-close_header-clause-told g c = λ told.
    let p = err_from_is_err_and c.from_residual.result c.from_residual.ensures.1 in
    rw p.1 (create_not c.args.region c.args.v _ _ (c.in_err-close_header.ensures.told told))

pub returns-clause-told : goal.returns-clause-told
returns-clause-told g c = λ told.
    create_both c.args.region c.args.v _ _ _ _ (c.in_ok-close_header.ensures.told told) (c.open_header.ensures.told told)
