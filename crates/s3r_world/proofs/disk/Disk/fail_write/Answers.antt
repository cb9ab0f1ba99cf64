use Rattle.std.proofs.Common.{◌≡◌, rules}
use Rattle.s3r_world.proofs.Bytes.{reverse_push}
use Rattle.s3r_world.proofs.disk.Disk.fail_write.Goals as goal

pub returns-clause-ok : goal.returns-clause-ok
returns-clause-ok c =
    let same : c.in_ok-copy.copy.items ≡ c.args.bytes.now = search rules in
    (c.in_ok-copy.copy, same, reverse_push _ _ _ c.in_ok-push.ensures.items)
