use Rattle.std.proofs.Common.{arith}
use Rattle.s3r_names.proofs.TagTexts.{text-length}
use Rattle.s3r_record.proofs.job_encoding.write_front.Goals as goal

pub write_text-requires : goal.write_text-requires
write_text-requires c = rw c.as_bytes.ensures (omega (arith, text-length c.args.spec.now.token 1 64 c.requires))
