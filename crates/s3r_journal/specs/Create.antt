-- What the making of a header does to a world.
use Rattle.std.specs.Prelude.{◌⊎◌, ℕ, Bool, List, []}
use Rattle.s3r_world.specs.Outside.{Outside}
use Rattle.s3r_journal.specs.Volume.{StandsTo, IsEmptyVolume}
use Rattle.s3r_journal.specs.Step.{Changed}

-- what was empty has a header of format 1, and no record
abbrev pub Creates : ℕ → List ℕ → List ℕ → Type 0
Creates region old new = IsEmptyVolume old → StandsTo region 1 [] 16 new

-- or is still empty
abbrev pub MayCreate : ℕ → List ℕ → List ℕ → Type 0
MayCreate region old new = IsEmptyVolume old → IsEmptyVolume new ⊎ StandsTo region 1 [] 16 new

-- The header of a region was written to volume v, or that is in doubt.
abbrev pub Created : ℕ → ℕ → Bool → Outside → Outside → Type 0
Created v region ok old new = Changed v 16 (MayCreate region) (Creates region) ok old new
