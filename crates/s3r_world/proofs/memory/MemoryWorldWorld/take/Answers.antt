use Rattle.std.proofs.Common.{ap, map, ℕ, Vec}
use Rattle.std.specs.declared.alloc.Global.{Global}
use Rattle.s3r_world.proofs.Calls.{takes}
use Rattle.s3r_world.proofs.memory.MemoryWorldWorld.take.Goals as goal

pub returns-clause-told : goal.returns-clause-told
returns-clause-told c =
    takes _ _ _ _ _ _ _ c.take.result c.take.ensures.left c.take.ensures.bytes c.take.ensures.after c.take.ensures.over
    (ap (λ (v : Vec (Vec ℕ Global) Global). map (λ (x : Vec ℕ Global). x.items) v.items) c.take.ensures.connections)
