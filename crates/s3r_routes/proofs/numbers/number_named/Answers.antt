use Rattle.std.proofs.Common.{sym, ap, ◌∙◌}
use Rattle.s3r_routes.specs.Numbers.{is_decimal}
use Rattle.s3r_routes.proofs.Decimals.{none_fits}
use Rattle.s3r_routes.proofs.numbers.number_named.Goals as goal

pub returns-in-Err : goal.returns-in-Err
returns-in-Err c =
    let decimal = ap is_decimal (sym c.as_bytes.ensures.value) ∙ sym c.if-not-is_decimal.ensures in
    sym (none_fits c.args.most c.args.text.now decimal c.ranges.most.fits c.in-Err.ensures.value.0)
