-- The last item of a list by its place.
use Rattle.std.proofs.Common.{◌≡◌, ◌-◌, List, [], ◌∷◌, length, Some, None, refl, arith}
use Rattle.std.specs.List.{last_or, slice_get}

behind : {A : Type 0} (x : A) (xs : List A) → slice_get (x ∷ xs) (length xs) ≡ last_or (Some x) xs
behind x [] = refl
behind x (y ∷ ys) = behind y ys

pub last_item : {A : Type 0} (xs : List A) → slice_get xs (length xs - 1) ≡ last_or None xs
last_item [] = refl
last_item (x ∷ xs) = let place : length (x ∷ xs) - 1 ≡ length xs = omega arith in rw place (behind x xs)
