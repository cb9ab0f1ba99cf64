use Rattle.std.proofs.Common.{sym, subst}
use Rattle.std.specs.Str.{IsUtf8}
use Rattle.s3r_api.proofs.IdTexts.{version_text-utf8}
use Rattle.s3r_api.proofs.ids.spelled.Goals as goal

pub unreachable-requires : goal.unreachable-requires
unreachable-requires c = c.in-Err.ensures.cases.0 (subst IsUtf8 (sym c.print.ensures) (version_text-utf8 c.args.id c.requires))
