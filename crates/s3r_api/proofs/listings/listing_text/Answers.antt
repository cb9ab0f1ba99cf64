use Rattle.std.proofs.Common.{ap, ◌∙◌}
use Rattle.std.proofs.lemmas.Result.{IfOk-weaker}
use Rattle.serde_json.specs.Written.{compact_text, has_float}
use Rattle.s3r_api.proofs.NoFloats.{no_float}
use Rattle.s3r_api.proofs.listings.listing_text.Goals as goal

pub returns : goal.returns
returns c =
    let value = c.in_ok-listing_value.ensures in
    let whole = ap has_float value ∙ no_float c.args.listing.now c.args.statuses.now in
    IfOk-weaker c.to_string.result _ _ (λ text is. is whole ∙ ap compact_text value) c.to_string.ensures.text
