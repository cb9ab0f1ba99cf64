-- The format of bytes that stand for a history, and that they are no empty volume.
use Rattle.std.proofs.Common.{◌≡◌, ℕ, true, false, List}
use Rattle.s3r_journal.specs.Volume.{StandsTo, IsEmptyVolume, is_empty_volume, format_of}
use Rattle.s3r_journal.proofs.Finds.{vacant, not_vacant}
use Rattle.s3r_journal.proofs.Fronts.{front_long, front_open, front_format, front_of}

module _ (region format e : ℕ) (h : List (List ℕ)) (bytes : List ℕ) (stands : StandsTo region format h e bytes) where
  pub stands_format : format_of bytes ≡ format
  stands_format = front_format region e h bytes (front_of region format e h bytes stands)

  pub stands_filled : is_empty_volume bytes ≡ false
  stands_filled =
      let front = front_of region format e h bytes stands in
      not_vacant region bytes (front_long region e h bytes front) (front_open region e h bytes front)

pub empty_vacant : (bytes : List ℕ) → IsEmptyVolume bytes → is_empty_volume bytes ≡ true
empty_vacant bytes empty = vacant 0 bytes empty
