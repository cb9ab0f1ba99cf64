-- What the first bytes of a volume tell of its header.
use Rattle.std.proofs.Common.{◌≡◌, ℕ, ◌≤◌, true, false}
use Rattle.std.proofs.Common.{List, length, take, drop, get_or, sym, ◌∙◌, arith}
use Rattle.std.proofs.lemmas.Bool.{false≢true}
use Rattle.std.proofs.lemmas.Slice.Eq.{bytes_eq-Decides}
use Rattle.std.specs.Str.{bytes_eq}
use Rattle.s3r_journal.specs.declared.scanning.Header.TheVariants.{Wrong, Right}
use Rattle.s3r_journal.specs.Volume.{label}
use Rattle.s3r_journal.specs.Pieces.{IsHeader}
use Rattle.s3r_journal.specs.Windows.{Covers}
use Rattle.s3r_journal.proofs.Windows.{front_long, front_get, front_part}

module _ (region : ℕ) (front bytes : List ℕ) (covers : Covers 16 front bytes) where
  module _ (long : 16 ≤ length front) where
    first_is : get_or front 0 0 ≡ get_or bytes 0 0
    first_is = front_get front bytes covers.begins 0 (omega (arith, long))

    label_is : take 14 (drop 1 front) ≡ take 14 (drop 1 bytes)
    label_is = front_part front bytes covers.begins 1 14 (omega (arith, long))

    all_long : 16 ≤ length bytes
    all_long = omega (arith, long, front_long front bytes covers.begins)

    pub header_right : get_or front 0 0 ≡ 1 → true ≡ bytes_eq (take 14 (drop 1 front)) (label region) → IsHeader region bytes Right
    header_right is_open right = (all_long, sym first_is ∙ is_open, sym label_is ∙ (bytes_eq-Decides (take 14 (drop 1 front)) (label region)).0 (sym right))

    pub header_wrong : get_or front 0 0 ≡ 1 → false ≡ bytes_eq (take 14 (drop 1 front)) (label region) → IsHeader region bytes Wrong
    header_wrong is_open wrong = (
      all_long,
      sym first_is ∙ is_open,
      λ right. false≢true (wrong ∙ (bytes_eq-Decides (take 14 (drop 1 front)) (label region)).1 (label_is ∙ right)),
    )
