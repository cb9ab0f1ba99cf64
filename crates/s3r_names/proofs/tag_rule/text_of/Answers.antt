use Rattle.std.proofs.Common.{sym, ap, ◌∙◌}
use Rattle.std.specs.Prelude.{is_some}
use Rattle.s3r_names.proofs.TagTexts.{then_told, text_told, no_text_told}
use Rattle.s3r_names.proofs.tag_rule.text_of.Goals as goal

pub returns-in-Ok-clause-named : goal.returns-in-Ok-clause-named
returns-in-Ok-clause-named c =
    ap is_some c.then_some.ensures
    ∙ then_told c.is_within.result c.in-Ok.text
    ∙ c.is_within.ensures
    ∙ text_told c.args.bytes.now c.args.least c.args.most c.char_count.result c.in-Ok.text.now c.in-Ok.ensures.cases.1 c.in-Ok.ensures.cases.0
    c.char_count.ensures

pub returns-in-Err-clause-named : goal.returns-in-Err-clause-named
returns-in-Err-clause-named c = sym (no_text_told c.args.bytes.now c.args.least c.args.most c.in-Err.ensures.cases.0)
