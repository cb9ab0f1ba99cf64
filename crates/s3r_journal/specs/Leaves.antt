-- What leaves a volume alone.
use Rattle.std.specs.Prelude.{◌≡◌, ℕ}
use Rattle.s3r_world.specs.Image.{Image}
use Rattle.s3r_world.specs.Outside.{Outside}

-- a read of volume u gives what it gave, and each image has of it what an image had
pub record Leaves (u : ℕ) (old new : Outside) : Type 0 where
  pub as_read : new.as_read.volume u ≡ old.as_read.volume u
  pub images : (c : Image) → new.images c → (d : Image) × old.images d × (c.volume u ≡ d.volume u)
