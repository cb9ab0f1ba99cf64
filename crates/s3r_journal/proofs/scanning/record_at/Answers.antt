use Rattle.std.proofs.Common.{ℕ, List, drop, sym, subst}
use Rattle.std.proofs.lemmas.Result.{err_from_is_err_and}
use Rattle.s3r_world.specs.Image.{Image}
use Rattle.s3r_journal.specs.Pieces.{IsThere}
use Rattle.s3r_journal.specs.Windows.{Covers}
use Rattle.s3r_journal.proofs.Tells.{failed_there, there_of}
use Rattle.s3r_journal.proofs.scanning.record_at.Goals as goal

pub returns-in_err-reach-clause-found : goal.returns-in_err-reach-clause-found
returns-in_err-reach-clause-found g c = λ told.
    let p = err_from_is_err_and c.from_residual.result c.from_residual.ensures.1 in
    rw (p.1, p.2) (failed_there c.args.v _ _ c.args.at _ c.in_err-reach.field-0.0 c.in_err-reach.ensures.fault)

pub returns-in-Open-clause-found : goal.returns-in-Open-clause-found
returns-in-Open-clause-found g c = λ told.
    let rest = drop c.args.at ((g.W.World.outside c.reach.new.world).as_read.volume c.args.v) in
    let covers = subst (λ (l : List ℕ). Covers 5 l rest) (sym c.bytes_from.ensures.front) (c.in_ok-reach.ensures.covers told) in
    subst (λ (i : Image). IsThere c.args.at (drop c.args.at (i.volume c.args.v)) c.body_at.result) (c.in_ok-reach.ensures.told told).as_read
    (there_of c.args.at c.in-Open.length rest c.body_at.result (rw c.in-Open.is at (c.head_in.ensures rest covers)) (c.body_at.ensures.body told))
