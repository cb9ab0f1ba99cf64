-- What is true of all that a lawful history prescribed.
use Rattle.std.specs.Prelude.{◌≡◌, ◌<◌, ◌≤◌, ◌^◌, ℕ, Some, length, slice_get}
use Rattle.s3r_record.specs.Spelling.{EffectMeetsLimits}
use Rattle.s3r_history.specs.Words.{History}
use Rattle.s3r_history.specs.Past.{Carried}
use Rattle.s3r_history.specs.Deeds.{deeds}
use Rattle.s3r_history.specs.Placed.{prescribed}
use Rattle.s3r_history.specs.Accepts.{IsLawful}

-- what was prescribed to any region meets the limits of a record
abbrev pub SentIsShort : Type 0
SentIsShort = (n r : ℕ) (h : History) → r ≤ 7 → length h < 2 ^ 64 → IsLawful n r h → (d i : ℕ) (e : Carried)
    → slice_get (prescribed (deeds r h) d) i ≡ Some e → EffectMeetsLimits e
