use Rattle.std.proofs.lemmas.Result.{err_from_is_err_and}
use Rattle.s3r_journal.proofs.Tells.{failed_scans}
use Rattle.s3r_journal.proofs.scanning.scan.Goals as goal

pub returns-in_err-window-clause-told : goal.returns-in_err-window-clause-told
returns-in_err-window-clause-told g c = λ told.
    let p = err_from_is_err_and c.from_residual.result c.from_residual.ensures.1 in
    rw (p.1, p.2)
    (failed_scans c.args.v _ _ c.args.region c.args.from _ _ (c.in_err-window.ensures.told told) c.in_err-window.field-0.0 c.in_err-window.ensures.fault)
