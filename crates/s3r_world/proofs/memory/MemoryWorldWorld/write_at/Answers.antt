use Rattle.std.proofs.Common.{ap, reverse}
use Rattle.std.proofs.lemmas.Result.{on_err_weaker}
use Rattle.s3r_world.proofs.Calls.{writes_done, writes_none, writes_planned}
use Rattle.s3r_world.proofs.memory.MemoryWorldWorld.write_at.Goals as goal

pub returns-then-fails-clause-told : goal.returns-then-fails-clause-told
returns-then-fails-clause-told c = writes_planned _ _ _ _ c.fail_write.result _ _ _ c.fail_write.ensures.ok
    (on_err_weaker c.fail_write.result (ap reverse) c.fail_write.ensures.err)

pub returns-in-Ok-clause-told : goal.returns-in-Ok-clause-told
returns-in-Ok-clause-told c =
    let ok = c.in-Ok.ensures.ok in
    writes_done _ _ _ _ _ _ ok.0 _ ok.2 ok.1 c.requires.place

pub returns-in-Err-clause-told : goal.returns-in-Err-clause-told
returns-in-Err-clause-told c = writes_none _ _ _ _ _ _ _ (ap reverse c.in-Err.ensures.err)
