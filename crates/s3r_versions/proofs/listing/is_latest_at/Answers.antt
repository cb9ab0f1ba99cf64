use Rattle.std.proofs.Common.{sym, ◌∙◌, eq-eqb}
use Rattle.s3r_versions.proofs.Behind.{latest-first, latest-next}
use Rattle.s3r_versions.proofs.listing.is_latest_at.Goals as goal

pub returns-then-place-eq0 : goal.returns-then-place-eq0
returns-then-place-eq0 g c =
    λ x. eq-eqb c.args.place 0 c.if-place-eq0.true ∙ sym (latest-first c.args.rows.now c.args.place c.requires.listed c.requires.inside c.if-place-eq0.true x)

pub returns-else-place-eq0 : goal.returns-else-place-eq0
returns-else-place-eq0 g c =
    λ x. c.ne.ensures ∙ latest-next c.args.rows.now c.args.place c.requires.listed c.requires.inside c.if-place-eq0.false _ _ x
