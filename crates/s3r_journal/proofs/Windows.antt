-- Fronts of bytes, and what a window has of a volume.
use Rattle.std.proofs.Common.{◌≡◌, ◌⊎◌, ℕ, ◌+◌, ◌-◌, ◌<◌, ◌≤◌, List, length, take, drop, get_or, vec_len, inl, inr, ⊎_elim, sym, ◌∙◌, ap, arith, length-drop}
use Rattle.std.proofs.lemmas.Bool.{cases_lt}
use Rattle.std.proofs.lemmas.List.{take_all, drop_all, drop-take, drop-drop, take-take, length-take, length-take-le, get_or-take}
use Rattle.s3r_world.specs.Outside.{Outside}
use Rattle.s3r_journal.specs.declared.window.Window.{Window}
use Rattle.s3r_journal.specs.Windows.{IsFront, Covers, Shows, Has, front_at}

-- ---- fronts

module _ (m : ℕ) (front rest : List ℕ) (is : front ≡ take m rest) where
  front_all : length rest ≤ m → front ≡ rest
  front_all le = is ∙ take_all m rest le

  front_length : m ≤ length rest → length front ≡ m
  front_length le = ap length is ∙ length-take-le m rest le

  -- what was taken is a front
  pub front_taken : IsFront front rest
  front_taken = elim (cases_lt m (length rest)) [
    | inl lt ↦ is ∙ ap (λ (n : ℕ). take n rest) (sym (front_length (omega (arith, lt))))
    | inr le ↦ let all = front_all le in all ∙ sym (take_all (length front) rest (omega (arith, ap length all)))
  ]

  pub covers_taken : (count : ℕ) → (length rest ≤ m) ⊎ (count ≤ m) → Covers count front rest
  covers_taken count (inl all) = record { begins = front_taken; enough = inr (front_all all) }
  covers_taken count (inr within) = record {
    begins = front_taken;
    enough = elim (cases_lt m (length rest)) [
      | inl lt ↦ inl (omega (arith, within, front_length (omega (arith, lt))))
      | inr le ↦ inr (front_all le)
    ];
  }

-- a part of what was taken
pub drop_taken : (k n : ℕ) (xs : List ℕ) → drop k (take n xs) ≡ take (n - k) (drop k xs)
drop_taken k n xs = elim (cases_lt n k) [
  | inl lt ↦
      drop_all k (take n xs) (omega (arith, lt, length-take n xs))
      ∙ ap (λ (m : ℕ). take m (drop k xs)) (let none : 0 ≡ n - k = omega (arith, lt) in none)
  | inr le ↦ ap (λ (m : ℕ). drop k (take m xs)) (let parts : n ≡ k + (n - k) = omega (arith, le) in parts) ∙ drop-take k (n - k) xs
]

module _ (front rest : List ℕ) (is : IsFront front rest) where
  pub front_long : length front ≤ length rest
  front_long = omega (arith, ap length is, length-take (length front) rest)

  pub front_get : (i : ℕ) → i < length front → get_or front i 0 ≡ get_or rest i 0
  front_get i lt = ap (λ (l : List ℕ). get_or l i 0) is ∙ get_or-take (length front) rest i 0 lt

  -- so many bytes from a place on
  pub front_part : (k n : ℕ) → k + n ≤ length front → take n (drop k front) ≡ take n (drop k rest)
  front_part k n le =
      ap (λ (l : List ℕ). take n (drop k l)) is ∙ ap (take n) (drop_taken k (length front) rest)
      ∙ take-take n (length front - k) (drop k rest) (omega (arith, le))

-- a front of fewer bytes than were asked for is all
pub covers_short : (count : ℕ) (front rest : List ℕ) → Covers count front rest → length front < count → front ≡ rest
covers_short count front rest covers short = ⊎_elim (λ enough. absurd (omega (arith, enough, short))) (λ all. all) covers.enough

-- ---- a window

-- what it has is read
pub covers_here : (v at count : ℕ) (window : Window) (w : Outside) → Shows v window w → Has at count window →
    Covers count (front_at window at) (drop at (w.as_read.volume v))
covers_here v at count window w shows has =
    let b = w.as_read.volume v in
    let n = length window.bytes.items in
    let k = at - window.at in
    let place : window.at + k ≡ at = omega (arith, has.0) in
    let long : vec_len window.bytes ≡ n = omega (arith, window.bytes.ok.0) in
    covers_taken (n - k) (front_at window at) (drop at b)
    (ap (drop k) shows.bytes ∙ drop_taken k n (drop window.at b) ∙ ap (take (n - k)) (drop-drop k window.at b ∙ ap (λ (p : ℕ). drop p b) place))
    count
    (⊎_elim
    (λ past. inl (omega (arith, past, shows.size, length-drop at b)))
    (λ more. ⊎_elim
    (λ last. inl (omega (arith, last, long, has.0, shows.size, length-drop at b)))
    (λ fits. inr (omega (arith, fits, long, has.0)))
    more)
    has.1)
