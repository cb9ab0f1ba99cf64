use Rattle.std.proofs.Common.{arith}
use Rattle.std.proofs.lemmas.Str.{is_utf8-from_IsUtf8}
use Rattle.s3r_record.proofs.RuleLaws.{id_text}
use Rattle.s3r_record.proofs.rule_writing.write_rule_id.Goals as goal

pub write_str-requires : goal.write_str-requires
write_str-requires c = omega (arith, id_text c.args.word.now c.requires (is_utf8-from_IsUtf8 c.args.word.now c.utf8.word))
