-- How tags are put in order.
use Rattle.std.proofs.Common.{◌≡◌, ℕ, zero, suc, ◌+◌, ◌≤◌, List, [], ◌∷◌, ◌++◌, length, take, drop, refl, ap, ◌∙◌, arith, length-drop}
use Rattle.std.proofs.lemmas.List.{append-nil, take_all, drop_all}
use borrow.Rule.Slice.PartMut.{put_mid}
use Rattle.s3r_names.specs.Tags.{in_key_order, first_moved}
use Rattle.s3r_names.specs.declared.tags.Tag.{Tag}

moved_in : (xs : List Tag) (i : ℕ) → suc i ≤ length xs → first_moved (drop i (take (suc i) xs ++ in_key_order (drop (suc i) xs))) ≡ in_key_order (drop i xs)
moved_in [] i h = absurd (omega arith)
moved_in (x ∷ xs) zero h = refl
moved_in (x ∷ xs) (suc i) h = moved_in xs i (omega arith)

kept : (xs rest : List Tag) (i : ℕ) → suc i ≤ length xs → take i (take (suc i) xs ++ rest) ≡ take i xs
kept [] rest i h = absurd (omega arith)
kept (x ∷ xs) rest zero h = refl
kept (x ∷ xs) rest (suc i) h = ap (λ ys. x ∷ ys) (kept xs rest i (omega arith))

-- the tags from the i-th on are in order once the i-th is moved
pub moved_more : (xs now moved : List Tag) (start i k : ℕ) → start ≡ suc i → start ≤ length xs → length now ≤ i + k
    → now ≡ take start xs ++ in_key_order (drop start xs) → moved ≡ first_moved (take k (drop i now))
    → put_mid i k now moved ≡ take i xs ++ in_key_order (drop i xs)
moved_more xs now moved start i k e within fits is moves =
    let short : length (drop i now) ≤ k = omega (arith, length-drop i now) in
    let is_next : now ≡ take (suc i) xs ++ in_key_order (drop (suc i) xs) = is ∙ ap (λ (n : ℕ). take n xs ++ in_key_order (drop n xs)) e in
    let within_next : suc i ≤ length xs = omega arith in
    let front : take i now ≡ take i xs = ap (take i) is_next ∙ kept xs (in_key_order (drop (suc i) xs)) i within_next in
    let rest : moved ≡ in_key_order (drop i xs) = moves ∙ ap first_moved (take_all k (drop i now) short ∙ ap (drop i) is_next) ∙ moved_in xs i within_next in
    let past : drop k (drop i now) ≡ [] = drop_all k (drop i now) short in
    rw (front, rest, past, append-nil (in_key_order (drop i xs))) refl
