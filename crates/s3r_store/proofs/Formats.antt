-- The format of a volume's header, over one change and over several.
use Rattle.std.proofs.Common.{◌≡◌, ℕ, Bool, true, false, List, refl, ⊎_elim, sym, ◌∙◌}
use Rattle.std.proofs.lemmas.Bool.{cases_Bool, false≢true}
use Rattle.s3r_journal.specs.Volume.{StandsTo, IsEmptyVolume, is_empty_volume}
use Rattle.s3r_journal.proofs.Formats.{stands_format, stands_filled, empty_vacant}
use Rattle.s3r_store.specs.Stands.{KeepsFormat}

-- no bool is both
either_way : {A : Type 0} (b : Bool) → b ≡ true → b ≡ false → A
either_way b is isnt = absurd (false≢true (sym isnt ∙ is))

-- no change
pub format_none : (a : List ℕ) → KeepsFormat a a
format_none a = record { keeps = λ filled. (filled, refl); makes = λ empty filled. either_way (is_empty_volume a) empty filled }

-- one change after another
pub format_then : (a b d : List ℕ) → KeepsFormat a b → KeepsFormat b d → KeepsFormat a d
format_then a b d first second = record {
  keeps = λ filled. let one = first.keeps filled in let two = second.keeps one.0 in (two.0, two.1 ∙ one.1);
  makes = λ empty filled. ⊎_elim
      (λ still. second.makes still filled)
      (λ made. (second.keeps made).1 ∙ first.makes empty made)
      (cases_Bool (is_empty_volume b));
}

module _ (a b : List ℕ) (empty : IsEmptyVolume a) where
  -- it is still empty
  pub format_empty : IsEmptyVolume b → KeepsFormat a b
  format_empty still = record {
    keeps = λ filled. either_way (is_empty_volume a) (empty_vacant a empty) filled;
    makes = λ was filled. either_way (is_empty_volume b) (empty_vacant b still) filled;
  }

-- it has a header now
pub format_made : (v e : ℕ) (h : List (List ℕ)) (a b : List ℕ) → IsEmptyVolume a → StandsTo v 1 h e b → KeepsFormat a b
format_made v e h a b empty stands = record {
  keeps = λ filled. either_way (is_empty_volume a) (empty_vacant a empty) filled;
  makes = λ was filled. stands_format v 1 e h b stands;
}

-- it keeps the header that it had
pub format_kept : (v format e f : ℕ) (h k : List (List ℕ)) (a b : List ℕ) → StandsTo v format h e a → StandsTo v format k f b → KeepsFormat a b
format_kept v format e f h k a b was stands = record {
  keeps = λ filled. (stands_filled v format f k b stands, stands_format v format f k b stands ∙ sym (stands_format v format e h a was));
  makes = λ empty filled. either_way (is_empty_volume a) empty (stands_filled v format e h a was);
}
