use Rattle.std.proofs.Common.{◌≢◌, ◌-◌, ◌≤◌, ◌∙◌, length, arith, get_or-set_other, length-set}
use Rattle.s3r_names.specs.Version.{hex_digits}
use Rattle.s3r_names.proofs.HexDigits.{two_and_others, digit_written, digits_written}
use Rattle.s3r_names.proofs.version.VersionId.print.Goals as goal

pub loop-done-preserved : goal.loop-done-preserved
loop-done-preserved c =
    let behind_region : 0 ≢ 17 - c.loop-done.done = omega arith in
    let behind_dash : 1 ≢ 17 - c.loop-done.done = omega arith in
    record {
      len = simp length-set c.loop-done.invariant.len;
      region = rw get_or-set_other c.loop-done.invariant.region;
      dash = rw get_or-set_other c.loop-done.invariant.dash;
      digits = digit_written c.loop-done.into c.loop-done.done c.loop-done.left c.hex_digit.result c.loop-done-test.true c.loop-done.invariant.len
          c.hex_digit.ensures ∙ c.loop-done.invariant.digits;
    }

pub returns : goal.returns
returns c =
    let long : 2 ≤ length c.loop-done.into = omega arith in
    two_and_others c.loop-done.into (hex_digits 16 c.args.self.now.index) _ _ long c.loop-done.invariant.region c.loop-done.invariant.dash
    (digits_written c.loop-done.into c.loop-done.done c.loop-done.left (hex_digits 16 c.args.self.now.index) (omega arith)
    (omega arith) c.loop-done.invariant.digits)
