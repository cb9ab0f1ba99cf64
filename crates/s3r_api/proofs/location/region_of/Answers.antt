use Rattle.std.proofs.Common.{ap, sym, ◌∙◌, Ok}
use Rattle.s3r_api.specs.Location.{region_of_text}
use Rattle.s3r_api.proofs.Locations.{refused, read_as}
use Rattle.s3r_api.proofs.location.region_of.Goals as goal

pub returns-in_default : goal.returns-in_default
returns-in_default c =
    refused c.args.body.now (sym c.if-is_empty.ensures) (c.in-Err.ensures.err (λ memory. c.in_default.not-Memory (c.classify.ensures.memory.1 memory)))

pub returns-in-Some : goal.returns-in-Some
returns-in-Some c =
    let read = read_as c.args.body.now _ (sym c.if-is_empty.ensures) c.in-Ok.ensures.ok in
    read ∙ ap region_of_text (sym c.in-Some.ensures) ∙ ap Ok (sym c.region_named.ensures)
