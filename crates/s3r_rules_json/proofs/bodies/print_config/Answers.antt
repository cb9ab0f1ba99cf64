use Rattle.std.proofs.Common.{Some, ap, ◌∙◌, arith}
use Rattle.std.proofs.lemmas.Result.{IfOk-weaker}
use Rattle.serde_json.specs.Data.{depth}
use Rattle.serde_json.specs.Written.{compact_text, has_float}
use Rattle.s3r_rules_json.specs.Printing.{config_data}
use Rattle.s3r_rules_json.proofs.Printed.{no_float, flat, text_back}
use Rattle.s3r_rules_json.proofs.bodies.print_config.Goals as goal

pub returns-clause-text : goal.returns-clause-text
returns-clause-text c =
    let value = c.in_ok-config_value.ensures ∙ ap config_data c.as_slice.ensures.listed in
    IfOk-weaker c.to_string.result _ _ (λ s h. h (ap has_float value ∙ no_float c.args.config.now) ∙ ap compact_text value) c.to_string.ensures.text

pub returns-clause-reads : goal.returns-clause-reads
returns-clause-reads c =
    let value = c.in_ok-config_value.ensures ∙ ap config_data c.as_slice.ensures.listed in
    let levels = ap depth value in
    let few = flat c.args.config.now in
    IfOk-weaker c.to_string.result _ _ (λ s h. text_back c.args.config.now s c.as_slice.ensures.lawful (h (omega arith) ∙ ap Some value))
    c.to_string.ensures.reads_back
