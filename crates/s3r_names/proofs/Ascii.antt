-- Bytes that pass a test that only ASCII passes are text.
use Rattle.std.proofs.Common.{◌≡◌, ℕ, ◌<◌, suc, zero, Bool, true, List, [], ◌∷◌, arith}
use Rattle.std.specs.List.{list_all}
use Rattle.std.specs.Str.{IsAscii}
use Rattle.std.proofs.lemmas.Bool.{and_parts}

pub ascii_from_all : (test : ℕ → Bool) → ((byte : ℕ) → test byte ≡ true → byte < 128) → (bytes : List ℕ) → list_all test bytes ≡ true → IsAscii bytes
ascii_from_all test ascii [] h i = omega arith
ascii_from_all test ascii (b ∷ bs) h zero = ascii b (and_parts (test b) (list_all test bs) h).0
ascii_from_all test ascii (b ∷ bs) h (suc i) = ascii_from_all test ascii bs (and_parts (test b) (list_all test bs) h).1 i
