use Rattle.std.proofs.Common.{arith, length-append}
use Rattle.s3r_record.proofs.Lengths.{spelling_short}
use Rattle.s3r_record.proofs.encoding.encode.Goals as goal

pub write_length-requires-clause-short : goal.write_length-requires-clause-short
write_length-requires-clause-short c =
    let zeros = c.in_ok-extend_from_slice.ensures.items in
    let spelled = c.in_ok-write_command.ensures.spelled in
    rw (c.deref_mut.ensures.value, c.in_ok-push.ensures.items, spelled, zeros, c.in_ok-out.ensures.items)
    (simp length-append (omega (arith, spelling_short c.args.command.now c.in_ok-write_command.ensures.fits)))
