use Rattle.std.proofs.Common.{refl, ◌∙◌}
use Rattle.s3r_names.proofs.TagTexts.{text_told}
use Rattle.s3r_jobs.proofs.rules.is_token.Goals as goal

pub returns : goal.returns
returns c =
    c.has_token_length.ensures ∙ text_told c.args.text.now 1 64 c.char_count.result c.args.text.now c.utf8.text refl c.char_count.ensures
