use Rattle.std.proofs.lemmas.Str.{is_utf8-from_IsUtf8}
use Rattle.s3r_record.proofs.rule_texts.is_text.Goals as goal

pub returns-clause-utf8 : goal.returns-clause-utf8
returns-clause-utf8 c = is_utf8-from_IsUtf8 c.args.word.now c.utf8.word
