-- Reading on in the input.
use Rattle.std.specs.Prelude.{◌≡◌, ℕ, List, ◌++◌}
use Rattle.s3r_world.specs.Outside.{Outside, KeepsVolumes}

-- Bytes went from the input to the unread ones, and nothing else has changed.
pub record ReadsOn (before after : List ℕ) (old new : Outside) : Type 0 where
  pub stream : after ++ new.input ≡ before ++ old.input
  pub connections : new.connections ≡ old.connections
  pub volumes : KeepsVolumes old new
