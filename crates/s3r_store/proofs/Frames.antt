-- The frame of a command, as the record's crate makes it.
use Rattle.std.proofs.Common.{◌≡◌, ℕ, ◌+◌, ◌≤◌, List, [], ◌∷◌, ◌++◌, length, take, refl, sym, ◌∙◌, ap, subst, arith, length-append}
use Rattle.std.proofs.lemmas.List.{take_at}
use Rattle.s3r_journal.specs.Volume.{frame_of, spelling_of, IsFrame}

-- the length of a frame
pub frame_length : (s frame : List ℕ) → frame ≡ frame_of s → length frame ≡ length s + 5
frame_length s frame is = ap length is ∙ omega (arith, length-append s (0 ∷ []))

pub frame_is : (s frame : List ℕ) → frame ≡ frame_of s → spelling_of frame ≡ s
frame_is s frame is =
    ap spelling_of is ∙ ap (λ (n : ℕ). take n (s ++ 0 ∷ [])) (omega (arith, length-append s (0 ∷ []))) ∙ take_at s (0 ∷ []) (length s) refl

pub is_frame : (s frame : List ℕ) → frame ≡ frame_of s → length s ≤ 16777216 → IsFrame frame
is_frame s frame is le =
    let same = frame_is s frame is in
    record { short = subst (λ (l : List ℕ). length l ≤ 16777216) (sym same) le; whole = is ∙ ap frame_of (sym same) }
