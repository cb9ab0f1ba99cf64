-- What an append does to a world.
use Rattle.std.specs.Prelude.{◌⊎◌, ℕ, ◌+◌, Bool, List, [], ◌∷◌, ◌++◌, length}
use Rattle.s3r_world.specs.Outside.{Outside}
use Rattle.s3r_journal.specs.Volume.{StandsTo}
use Rattle.s3r_journal.specs.Step.{Changed}

-- what stood for a history with this end stands for it with the command, in the same format
abbrev pub Appends : ℕ → List ℕ → List ℕ → List ℕ → Type 0
Appends end s old new =
    (region format : ℕ) (h : List (List ℕ)) → StandsTo region format h end old → StandsTo region format (h ++ s ∷ []) (end + length s + 5) new

-- or still without it
abbrev pub MayAppend : ℕ → List ℕ → List ℕ → List ℕ → Type 0
MayAppend end s old new =
    (region format : ℕ) (h : List (List ℕ)) → StandsTo region format h end old →
    StandsTo region format h end new ⊎ StandsTo region format (h ++ s ∷ []) (end + length s + 5) new

-- A command was appended to volume v, or is in doubt.
abbrev pub Appended : ℕ → ℕ → List ℕ → Bool → Outside → Outside → Type 0
Appended v end s ok old new = Changed v (end + length s + 5) (MayAppend end s) (Appends end s) ok old new
