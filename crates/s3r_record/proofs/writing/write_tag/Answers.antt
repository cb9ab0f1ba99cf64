use Rattle.std.proofs.Common.{arith}
use Rattle.s3r_names.proofs.TagTexts.{tag_is}
use Rattle.s3r_record.proofs.writing.write_tag.Goals as goal

pub write_text-requires : goal.write_text-requires
write_text-requires c = rw c.as_bytes.ensures (omega (arith, (tag_is c.args.tag.now c.requires).key))

pub write_text-requires-2 : goal.write_text-requires-2
write_text-requires-2 c = rw c.as_bytes-2.ensures (omega (arith, (tag_is c.args.tag.now c.requires).value))
