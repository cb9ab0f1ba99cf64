use Rattle.std.proofs.Common.{Result, Ok, Err, OnOk}
use Rattle.std.proofs.lemmas.Str.{is_utf8-from_IsUtf8}
use Rattle.s3r_record.proofs.rule_writing.write_str.Goals as goal

on_ok : {T E : Type 0} {P : Type 0} (r : Result T E) → P → OnOk r P
on_ok (Ok x) p = p
on_ok (Err e) p = tt

pub returns-clause-utf8 : goal.returns-clause-utf8
returns-clause-utf8 c = on_ok c.write_text.result (is_utf8-from_IsUtf8 c.args.word.now c.utf8.word)
