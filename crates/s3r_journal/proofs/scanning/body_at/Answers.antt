use Rattle.std.proofs.lemmas.Result.{err_from_is_err_and}
use Rattle.s3r_journal.proofs.Tells.{failed_body}
use Rattle.s3r_journal.proofs.scanning.body_at.Goals as goal

pub returns-in_err-reach-clause-body : goal.returns-in_err-reach-clause-body
returns-in_err-reach-clause-body g c = λ told.
    let p = err_from_is_err_and c.from_residual.result c.from_residual.ensures.1 in
    rw (p.1, p.2) (failed_body c.args.v _ _ c.args.at c.args.length _ c.in_err-reach.field-0.0 c.in_err-reach.ensures.fault)
