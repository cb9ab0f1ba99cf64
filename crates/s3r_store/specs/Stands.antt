-- What the bytes of a region's volume stand for.
use Rattle.std.specs.Prelude.{◌≡◌, ℕ, true, false, List, [], ◌∷◌, ◌++◌}
use Rattle.s3r_record.specs.Spelling.{spelling, IsCommand}
use Rattle.s3r_record.specs.declared.command.Command.{Command}
use Rattle.s3r_journal.specs.Volume.{Stands, is_empty_volume, format_of}
use Rattle.s3r_journal.specs.Scan.{Finding, no_header, damaged_at, end_at, one_record, finding, IsReadTo}
use Rattle.s3r_history.specs.Words.{History}
use Rattle.s3r_history.specs.Accepts.{refusal, IsLawful}
use Rattle.std.specs.Prelude.{None}

-- the spellings of a history's commands, the first first
abbrev pub spelled : History → List (List ℕ)
spelled [] = []
spelled (c ∷ h) = spelled h ++ spelling c ∷ []

-- the bytes stand for this history, which is lawful; n is the number of regions
pub record StandsFor (n region : ℕ) (h : History) (bytes : List ℕ) : Type 0 where
  pub stands : Stands region (spelled h) bytes
  pub lawful : IsLawful n region h

-- A volume with an open header keeps it with its format, and an empty one gets a header of format 1 alone.
pub record KeepsFormat (old new : List ℕ) : Type 0 where
  pub keeps : is_empty_volume old ≡ false → (is_empty_volume new ≡ false) × (format_of new ≡ format_of old)
  pub makes : is_empty_volume old ≡ true → is_empty_volume new ≡ false → format_of new ≡ 1

-- what is found at a place behind a history is damaged, at this offset, or is no command that the history accepts
abbrev pub IsWrong : (n region : ℕ) → History → ℕ → ℕ → Finding → Type 0
IsWrong n region h at offset no_header = ⊥
IsWrong n region h at offset (damaged_at place) = offset ≡ place
IsWrong n region h at offset (end_at gate) = ⊥
IsWrong n region h at offset (one_record s next) = (offset ≡ at) × ((c : Command) → IsCommand c → s ≡ spelling c → refusal n region h c ≡ None → ⊥)

-- The volume is read up to a place as a lawful history, and is wrong there.
pub record DamagedAt (n region offset : ℕ) (bytes : List ℕ) : Type 0 where
  pub h : History
  pub at : ℕ
  pub lawful : IsLawful n region h
  pub read : IsReadTo region (spelled h) at bytes
  pub wrong : IsWrong n region h at offset (finding region at bytes)
