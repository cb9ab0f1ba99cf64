use Rattle.std.proofs.Common.{ap, reverse}
use Rattle.s3r_world.proofs.Calls.{syncs_none}
use Rattle.s3r_world.proofs.memory.MemoryWorldWorld.sync.Goals as goal

pub returns-in-Err-clause-told : goal.returns-in-Err-clause-told
returns-in-Err-clause-told c = syncs_none _ _ _ _ _ (ap reverse c.in-Err.ensures.err)
