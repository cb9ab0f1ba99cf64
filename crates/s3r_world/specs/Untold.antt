-- A world that tells nothing.
use Rattle.std.specs.Prelude.{false, IsTrue, []}
use Rattle.s3r_world.specs.Outside.{Outside}
use Rattle.s3r_world.specs.Events.{blank}

-- no image is told
abbrev pub untold : Outside
untold = record { as_read = blank; images = λ _. ⊥; moment = 0; since = λ _ _. ⊥; input = []; connections = [] }

pub not_told : {A : Type 0} → IsTrue false → A
not_told f = cc
