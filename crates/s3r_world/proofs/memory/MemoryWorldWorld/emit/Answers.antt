use Rattle.std.proofs.Common.{ap, reverse}
use Rattle.s3r_world.proofs.Calls.{emits_done, emits_none}
use Rattle.s3r_world.proofs.memory.MemoryWorldWorld.emit.Goals as goal

pub returns-in-Ok-clause-told : goal.returns-in-Ok-clause-told
returns-in-Ok-clause-told c =
    let ok = c.in-Ok.ensures.ok in
    emits_done _ _ _ _ ok.0 _ ok.2 ok.1

pub returns-in-Err-clause-told : goal.returns-in-Err-clause-told
returns-in-Err-clause-told c = emits_none _ _ _ _ _ _ (ap reverse c.in-Err.ensures.err)
