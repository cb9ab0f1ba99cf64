-- What is found at a place, by what stands there.
use Rattle.std.proofs.Common.{◌≡◌, ◌≢◌, ◌⊎◌, ℕ, ◌+◌, ◌<◌, ◌≤◌, ◌^◌, Bool, true, false, cond, not, nat_le, nat_lt, ◌&&◌, ◌==◌}
use Rattle.std.proofs.Common.{List, ◌∷◌, ◌++◌, length, take, drop, get_or, refl, inl, inr, sym, ◌∙◌, ap, arith, length-append}
use Rattle.std.proofs.lemmas.Bool.{cases_Bool, le-leb, lt-leb, lt-ltb, le-ltb, ne_eqb, eq-eqb, and_from, and_left, and_right, cond-true, cond-false, or_left, or_right, or_from, not_from_true, not_from_false, false_from_ne_true, leb-true, and_parts, false≢true}
use Rattle.std.proofs.lemmas.List.{take_at}
use Rattle.std.proofs.lemmas.Nat.{from_be_bytes-to_be_bytes_4}
use Rattle.std.proofs.lemmas.Slice.Eq.{bytes_eq-Decides}
use Rattle.std.specs.Int.{to_be_bytes, from_be_bytes, w32}
use Rattle.std.specs.Str.{bytes_eq}
use Rattle.s3r_journal.specs.Volume.{label, IsEmptyVolume, is_empty_volume}
use Rattle.s3r_journal.specs.Scan.{Finding, no_header, damaged_at, end_at, one_record, record_of, found_in, first_in, finding}

module _ (at n : ℕ) (behind : List ℕ) where
  abbrev fits : Bool
  fits = nat_le n 16777216 && nat_le (4 + n) (length behind)

  abbrev whole : Finding
  whole = one_record (take n (drop 4 behind)) (at + 5 + n)

  pub record_whole : n ≤ 16777216 → 4 + n ≤ length behind → record_of at n behind ≡ whole
  record_whole short long = cond-true fits whole (damaged_at at) (and_from (nat_le n 16777216) (nat_le (4 + n) (length behind)) (le-leb n 16777216 short)
      (le-leb (4 + n) (length behind) long))

  pub record_long : 16777216 < n → record_of at n behind ≡ damaged_at at
  record_long long = cond-false fits whole (damaged_at at) (and_left (nat_le n 16777216) (nat_le (4 + n) (length behind)) (lt-leb n 16777216 long))

  pub record_cut : length behind < 4 + n → record_of at n behind ≡ damaged_at at
  record_cut cut = cond-false fits whole (damaged_at at) (and_right (nat_le n 16777216) (nat_le (4 + n) (length behind)) (lt-leb (4 + n) (length behind) cut))

  -- a record that is whole, or damage
  pub record_tells : ((n ≤ 16777216) × (4 + n ≤ length behind) × (record_of at n behind ≡ whole)) ⊎ (record_of at n behind ≡ damaged_at at)
  record_tells = elim (cases_Bool fits) [
    | inl fit ↦
        let both = and_parts (nat_le n 16777216) (nat_le (4 + n) (length behind)) fit in
        inl (leb-true n 16777216 both.0, leb-true (4 + n) (length behind) both.1, cond-true fits whole (damaged_at at) fit)
    | inr not_fit ↦ inr (cond-false fits whole (damaged_at at) not_fit)
  ]

module _ (at : ℕ) where
  pub found_closed : (gate : ℕ) (behind : List ℕ) → gate ≢ 1 → found_in at (gate ∷ behind) ≡ end_at at
  found_closed gate behind closed = cond-false (gate == 1) (record_of at (from_be_bytes w32 (take 4 behind)) behind) (end_at at) (ne_eqb gate 1 closed)

  pub found_open : (n : ℕ) (behind : List ℕ) → n < 2 ^ 32 → found_in at (1 ∷ to_be_bytes w32 n ++ behind) ≡ record_of at n (to_be_bytes w32 n ++ behind)
  found_open n behind small = ap (λ (m : ℕ). record_of at m (to_be_bytes w32 n ++ behind)) (from_be_bytes-to_be_bytes_4 n small)

  pub found_cut : (behind : List ℕ) → length behind < 4 → found_in at (1 ∷ behind) ≡ damaged_at at
  found_cut behind cut = record_cut at (from_be_bytes w32 (take 4 behind)) behind (omega (arith, cut))

  pub found_record : (s behind : List ℕ) → length s ≤ 16777216 → found_in at (1 ∷ to_be_bytes w32 (length s) ++ s ++ behind) ≡ one_record s (at + 5 + length s)
  found_record s behind short =
      let n = length s in
      let long : 4 + n ≤ length (to_be_bytes w32 n ++ (s ++ behind)) = omega (arith, length-append s behind) in
      found_open n (s ++ behind) (omega (arith, short)) ∙ record_whole at n (to_be_bytes w32 n ++ (s ++ behind)) short long
      ∙ ap (λ (l : List ℕ). one_record l (at + 5 + n)) (take_at s behind n refl)

-- ---- the header

module _ (region : ℕ) (bytes : List ℕ) where
  abbrev pub by_label : Finding
  by_label = cond (bytes_eq (take 14 (drop 1 bytes)) (label region)) (found_in 16 (drop 16 bytes)) (damaged_at 1)

  pub cases_label : (take 14 (drop 1 bytes) ≡ label region) ⊎ (take 14 (drop 1 bytes) ≢ label region)
  cases_label =
      let tells = bytes_eq-Decides (take 14 (drop 1 bytes)) (label region) in
      elim (cases_Bool (bytes_eq (take 14 (drop 1 bytes)) (label region))) [
        | inl same ↦ inl (tells.0 same)
        | inr other ↦ inr (λ is. false≢true (sym other ∙ tells.1 is))
      ]

  pub vacant : IsEmptyVolume bytes → is_empty_volume bytes ≡ true
  vacant (inl short) = or_left (nat_lt (length bytes) 16) (not (get_or bytes 0 0 == 1)) (lt-ltb (length bytes) 16 short)
  vacant (inr closed) =
      or_right (nat_lt (length bytes) 16) (not (get_or bytes 0 0 == 1)) (not_from_false (get_or bytes 0 0 == 1) (ne_eqb (get_or bytes 0 0) 1 closed))

  pub first_empty : IsEmptyVolume bytes → first_in region bytes ≡ no_header
  first_empty empty = cond-true (is_empty_volume bytes) no_header by_label (vacant empty)

  module _ (long : 16 ≤ length bytes) (is_open : get_or bytes 0 0 ≡ 1) where
    pub not_empty : IsEmptyVolume bytes → ⊥
    not_empty (inl short) = omega (arith, short, long)
    not_empty (inr closed) = closed is_open

    pub not_vacant : is_empty_volume bytes ≡ false
    not_vacant = or_from (nat_lt (length bytes) 16) (not (get_or bytes 0 0 == 1)) (le-ltb (length bytes) 16 long)
        (not_from_true (get_or bytes 0 0 == 1) (eq-eqb (get_or bytes 0 0) 1 is_open))

    pub first_right : take 14 (drop 1 bytes) ≡ label region → first_in region bytes ≡ found_in 16 (drop 16 bytes)
    first_right right =
        cond-false (is_empty_volume bytes) no_header by_label not_vacant
        ∙ cond-true (bytes_eq (take 14 (drop 1 bytes)) (label region)) (found_in 16 (drop 16 bytes)) (damaged_at 1)
        ((bytes_eq-Decides (take 14 (drop 1 bytes)) (label region)).1 right)

    pub first_wrong : take 14 (drop 1 bytes) ≢ label region → first_in region bytes ≡ damaged_at 1
    first_wrong wrong =
        cond-false (is_empty_volume bytes) no_header by_label not_vacant
        ∙ cond-false (bytes_eq (take 14 (drop 1 bytes)) (label region)) (found_in 16 (drop 16 bytes)) (damaged_at 1)
        (false_from_ne_true (bytes_eq (take 14 (drop 1 bytes)) (label region))
        (λ same. wrong ((bytes_eq-Decides (take 14 (drop 1 bytes)) (label region)).0 same)))

module _ (region from : ℕ) (bytes : List ℕ) where
  pub finds_first : from ≡ 16 → finding region from bytes ≡ first_in region bytes
  finds_first is = cond-true (from == 16) (first_in region bytes) (found_in from (drop from bytes)) (eq-eqb from 16 is)

  pub finds_later : from ≢ 16 → finding region from bytes ≡ found_in from (drop from bytes)
  finds_later ne = cond-false (from == 16) (first_in region bytes) (found_in from (drop from bytes)) (ne_eqb from 16 ne)
