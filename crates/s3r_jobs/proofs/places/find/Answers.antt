use Rattle.std.proofs.Common.{◌<◌, ◌∙◌, ℕ, Some, length, map, get_or, sym, ap, arith}
use Rattle.s3r_jobs.specs.Any.{facts}
use Rattle.s3r_jobs.specs.Jobs.{place_of}
use Rattle.s3r_jobs.proofs.PlaceLemmas.{find-at, find-none}
use Rattle.s3r_jobs.proofs.places.find.Goals as goal

pub returns-then-place-jobs : goal.returns-then-place-jobs
returns-then-place-jobs c =
    sym (find-none c.args.id c.args.jobs.now (sym c.place_of-place.ensures.place ∙ c.if-place-jobs.true))

pub returns : goal.returns
returns c =
    let place = c.place_of-place.ensures.place in
    let within : place_of c.args.id (map facts c.args.jobs.now) < length c.args.jobs.now = omega (arith, place) in
    ap Some (ap facts (c.index-jobs-place.is ∙ ap (λ (k : ℕ). get_or c.args.jobs.now k c.index-jobs-place.result) place))
    ∙ sym (find-at c.args.id c.args.jobs.now c.index-jobs-place.result within)
