use Rattle.std.proofs.Common.{take, drop, ap, arith, take-append-drop}
use Rattle.s3r_http.specs.Lines.{number_of}
use Rattle.s3r_http.proofs.Numbers.{number_grows}
use Rattle.s3r_http.proofs.lengths.number_within.Goals as goal

pub returns-then-number-gt-BODY_LIMIT-clause-above : goal.returns-then-number-gt-BODY_LIMIT-clause-above
returns-then-number-gt-BODY_LIMIT-clause-above c =
    let i = c.loop-digit.digit-index in
    let digits = c.args.digits.now in
    omega (
      arith,
      c.loop-digit.invariant,
      number_grows (take i digits) (drop i digits),
      ap number_of (take-append-drop i digits),
      c.if-number-gt-BODY_LIMIT.true,
    )
