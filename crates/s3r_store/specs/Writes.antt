-- What a write of a command's frame does to a volume that ends at a place, or is empty.
use Rattle.std.specs.Prelude.{◌⊎◌, ℕ, ◌+◌, Bool, List, [], ◌∷◌, length, Option, Some, None, unwrap_or}
use Rattle.s3r_world.specs.Outside.{Outside}
use Rattle.s3r_journal.specs.Volume.{StandsTo, IsEmptyVolume}
use Rattle.s3r_journal.specs.Step.{Changed}
use Rattle.s3r_journal.specs.Append.{Appends, MayAppend}

-- what was empty has a header of format 1 and the record
abbrev pub Begins : ℕ → List ℕ → List ℕ → List ℕ → Type 0
Begins v s old new = IsEmptyVolume old → StandsTo v 1 (s ∷ []) (16 + length s + 5) new

-- or has the header alone, or is empty still
abbrev pub MayBegin : ℕ → List ℕ → List ℕ → List ℕ → Type 0
MayBegin v s old new = IsEmptyVolume old → IsEmptyVolume new ⊎ (StandsTo v 1 [] 16 new ⊎ StandsTo v 1 (s ∷ []) (16 + length s + 5) new)

abbrev pub DoesWrite : ℕ → Option ℕ → List ℕ → List ℕ → List ℕ → Type 0
DoesWrite v None s = Begins v s
DoesWrite v (Some end) s = Appends end s

abbrev pub MayWrite : ℕ → Option ℕ → List ℕ → List ℕ → List ℕ → Type 0
MayWrite v None s = MayBegin v s
MayWrite v (Some end) s = MayAppend end s

-- The record of this spelling was put behind the end, or that is in doubt.
abbrev pub Written : ℕ → Option ℕ → List ℕ → Bool → Outside → Outside → Type 0
Written v end s ok old new = Changed v (unwrap_or end 16 + length s + 5) (MayWrite v end s) (DoesWrite v end s) ok old new
