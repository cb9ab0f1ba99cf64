use Rattle.std.proofs.Common.{◌+◌, ◌∙◌, ap, Some, List, ℕ, Option}
use Rattle.std.proofs.lemmas.List.{take_rest}
use Rattle.s3r_routes.specs.Target.{cut_at}
use Rattle.s3r_routes.proofs.target.cut.Goals as goal

pub returns-in-Some : goal.returns-in-Some
returns-in-Some c =
    let bytes = c.args.bytes.now in
    let place = c.in-Some.place in
    let kept = take_rest bytes (place + 1) in
    ap (λ (rest : List ℕ). ((cut_at (Some place) bytes).0, Some rest)) kept ∙ ap (λ (at : Option ℕ). cut_at at bytes) c.in-Some.ensures.at

pub returns-in-None : goal.returns-in-None
returns-in-None c = ap (λ (at : Option ℕ). cut_at at c.args.bytes.now) c.in-None.ensures.at
