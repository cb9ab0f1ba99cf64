use Rattle.std.proofs.Common.{Result, Ok, Err, OnOk, length}
use Rattle.std.specs.Str.{is_utf8}
use Rattle.std.specs.Prelude.{nat_le}
use Rattle.std.proofs.lemmas.Bool.{and_from, le-leb}
use Rattle.std.proofs.lemmas.Str.{is_utf8-from_IsUtf8}
use Rattle.s3r_record.proofs.job_encoding.write_prefix.Goals as goal

on_ok : {T E : Type 0} {P : Type 0} (r : Result T E) → P → OnOk r P
on_ok (Ok x) p = p
on_ok (Err e) p = tt

pub returns-clause-fits : goal.returns-clause-fits
returns-clause-fits c =
    on_ok c.write_text.result (and_from (is_utf8 c.args.prefix.now) (nat_le (length c.args.prefix.now) c.args.most)
    (is_utf8-from_IsUtf8 c.args.prefix.now c.utf8.prefix) (le-leb (length c.args.prefix.now) c.args.most c.requires.short))
