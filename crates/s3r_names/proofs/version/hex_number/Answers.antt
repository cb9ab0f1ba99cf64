use Rattle.std.proofs.Common.{◌≡◌, ◌<◌, ◌≤◌, ℕ, length, get_or, Some, refl, sym, ap, ◌∙◌, arith}
use Rattle.s3r_names.specs.Version.{hex_digits, hex_value}
use Rattle.s3r_names.proofs.HexDigits.{length-hex_digits, fits_more, digit_of_value, byte_read, byte_refused, byte_spelled, byte_below, read_whole, all_read}
use Rattle.s3r_names.proofs.version.hex_number.Goals as goal

pub returns-then-digits-ne16-clause-only : goal.returns-then-digits-ne16-clause-only
returns-then-digits-ne16-clause-only c n lt e = absurd (omega (arith, ap length e, length-hex_digits 16 n))

pub loop-byte-init : goal.loop-byte-init
unfolding hex_digits
loop-byte-init c = record { below = omega arith; spelled = refl; reads = refl }

pub overflow_mul-number : goal.overflow_mul-number
overflow_mul-number c =
    let early : c.loop-byte.byte-index < 16 = omega arith in
    omega (arith, fits_more c.loop-byte.byte-index c.loop-byte.number early c.loop-byte.invariant.below)

pub returns-in_err-hex_value-clause-only : goal.returns-in_err-hex_value-clause-only
returns-in_err-hex_value-clause-only c n lt e =
    c.from_residual.ensures
    ∙ sym (byte_refused c.args.digits.now c.loop-byte.byte-index c.loop-byte.number c.loop-byte-test.true c.in_err-hex_value.ensures)
    ∙ c.loop-byte.invariant.reads
    ∙ read_whole c.args.digits.now n lt e

pub overflow_add-number : goal.overflow_add-number
overflow_add-number c =
    let early : c.loop-byte.byte-index < 16 = omega arith in
    omega (
      arith,
      fits_more c.loop-byte.byte-index c.loop-byte.number early c.loop-byte.invariant.below,
      (digit_of_value (get_or c.args.digits.now c.loop-byte.byte-index 0) c.in_ok-hex_value.field-0 (sym c.in_ok-hex_value.ensures)).0,
      c.from.ensures,
    )

pub loop-byte-preserved : goal.loop-byte-preserved
loop-byte-preserved c =
    let value : Some c.from.result ≡ hex_value (get_or c.args.digits.now c.loop-byte.byte-index 0) =
    ap (λ (v : ℕ). Some v) c.from.ensures ∙ c.in_ok-hex_value.ensures in
    record {
      below = byte_below c.args.digits.now c.loop-byte.byte-index c.loop-byte.number c.from.result value c.loop-byte.invariant.below;
      spelled = byte_spelled c.args.digits.now c.loop-byte.byte-index c.loop-byte.number c.from.result c.loop-byte-test.true value
          c.loop-byte.invariant.spelled;
      reads = sym (byte_read c.args.digits.now c.loop-byte.byte-index c.loop-byte.number c.from.result c.loop-byte-test.true value)
          ∙ c.loop-byte.invariant.reads;
    }

pub returns-clause-only : goal.returns-clause-only
returns-clause-only c n lt e =
    let past : length c.args.digits.now ≤ c.loop-byte.byte-index = omega arith in
    sym (all_read c.args.digits.now c.loop-byte.byte-index c.loop-byte.number past) ∙ c.loop-byte.invariant.reads ∙ read_whole c.args.digits.now n lt e
