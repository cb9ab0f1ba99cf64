use Rattle.std.proofs.Common.{ℕ, List, sym, subst}
use Rattle.std.proofs.lemmas.Result.{err_from_is_err_and}
use Rattle.s3r_journal.specs.Windows.{Covers}
use Rattle.s3r_journal.proofs.Tells.{failed_scans, scans_empty, scans_later, scans_right}
use Rattle.s3r_journal.proofs.scanning.scan_in.Goals as goal

pub returns-then-from-ne-START-clause-told : goal.returns-then-from-ne-START-clause-told
returns-then-from-ne-START-clause-told g c = λ told.
    scans_later c.args.v c.args.region c.record_at.new.window _ _ (c.record_at.ensures.told told) (c.record_at.ensures.shows told)
    c.args.from c.record_at.result c.if-from-ne-START.true (c.record_at.ensures.found told)

pub returns-in_err-reach-clause-told : goal.returns-in_err-reach-clause-told
returns-in_err-reach-clause-told g c = λ told.
    let p = err_from_is_err_and c.from_residual.result c.from_residual.ensures.1 in
    rw (p.1, p.2)
    (failed_scans c.args.v _ _ c.args.region c.args.from _ _ (c.in_err-reach.ensures.told told) c.in_err-reach.field-0.0 c.in_err-reach.ensures.fault)

pub returns-in-Missing-clause-told : goal.returns-in-Missing-clause-told
returns-in-Missing-clause-told g c = λ told.
    let bytes = (g.W.World.outside c.reach.new.world).as_read.volume c.args.v in
    let covers = subst (λ (l : List ℕ). Covers 16 l bytes) (sym c.bytes_from.ensures.front) (c.in_ok-reach.ensures.covers told) in
    scans_empty c.args.v c.args.region c.reach.new.self _ _ (c.in_ok-reach.ensures.told told) (c.in_ok-reach.ensures.shows told)
    c.args.from c.if-from-ne-START.false (rw c.in-Missing.is at (c.header_in.ensures bytes covers))

pub returns-in-Right-clause-told : goal.returns-in-Right-clause-told
returns-in-Right-clause-told g c = λ told.
    let bytes = (g.W.World.outside c.reach.new.world).as_read.volume c.args.v in
    let covers = subst (λ (l : List ℕ). Covers 16 l bytes) (sym c.bytes_from.ensures.front) (c.in_ok-reach.ensures.covers told) in
    scans_right c.args.v c.args.region c.args.from c.record_at-in-Right.new.window _ _ _ (c.in_ok-reach.ensures.told told)
    (c.record_at-in-Right.ensures.told told) (c.record_at-in-Right.ensures.shows told) c.if-from-ne-START.false
    (rw c.in-Right.is at (c.header_in.ensures bytes covers)) c.record_at-in-Right.result (c.record_at-in-Right.ensures.found told)
