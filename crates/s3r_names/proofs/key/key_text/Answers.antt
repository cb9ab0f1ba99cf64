use Rattle.std.proofs.Common.{◌<◌, ◌≤◌, ◌∙◌, length, arith}
use Rattle.s3r_names.proofs.Keys.{key_told, not_empty}
use Rattle.s3r_names.proofs.key.key_text.Goals as goal

pub returns-clause-named : goal.returns-clause-named
returns-clause-named c =
    let above : 0 < length c.args.bytes.now = not_empty (length c.args.bytes.now) c.if-is_empty.ensures in
    let below : length c.args.bytes.now ≤ 1024 = omega arith in
    c.ok.ensures.variant ∙ key_told _ _ c.args.bytes.now c.from_utf8.result above below c.from_utf8.ensures.cases
