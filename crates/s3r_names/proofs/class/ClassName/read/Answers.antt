use Rattle.std.proofs.Common.{◌≡◌, true, sym}
use Rattle.s3r_names.proofs.ClassNames.{class-utf8}
use Rattle.s3r_names.specs.Class.{is_class_name}
use Rattle.s3r_names.proofs.class.ClassName.read.Goals as goal

pub unreachable-requires : goal.unreachable-requires
unreachable-requires c =
    let named : is_class_name c.args.bytes.now ≡ true = sym c.if-not-is_class_name.ensures in
    c.in-Err.ensures.cases.0 (class-utf8 c.args.bytes.now named)
