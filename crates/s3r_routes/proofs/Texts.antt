-- The pairs of a query as texts.
use Rattle.std.proofs.Common.{◌≡◌, ℕ, Bool, true, false, if◌then◌else◌, ◌&&◌, List, [], ◌∷◌, ◌++◌, filter, refl, ap, ◌∙◌, Result, Ok, Err}
use Rattle.std.specs.List.{list_all}
use Rattle.std.specs.Str.{IsUtf8, is_utf8}
use Rattle.std.proofs.lemmas.Str.{IsUtf8-from_is_utf8, is_utf8-from_IsUtf8}
use Rattle.s3r_routes.specs.declared.fault.RouteFault.{RouteFault}
use Rattle.s3r_routes.specs.declared.fault.RouteFault.TheVariants.{InvalidQuery}
use Rattle.s3r_routes.specs.Query.{Pair, is_text_pair, counts, words_of, text, in_front, words_in}

pub text_is : (bytes : List ℕ) → IsUtf8 bytes → text bytes ≡ Ok bytes
text_is bytes utf8 = rw (is_utf8-from_IsUtf8 bytes utf8) refl

not_utf8 : (bytes : List ℕ) (b : Bool) → is_utf8 bytes ≡ b → (IsUtf8 bytes → ⊥) → b ≡ false
not_utf8 bytes true e h = absurd (h (IsUtf8-from_is_utf8 bytes e))
not_utf8 bytes false e h = refl

pub text_is_not : (bytes : List ℕ) → (IsUtf8 bytes → ⊥) → text bytes ≡ Err InvalidQuery
text_is_not bytes h = rw (not_utf8 bytes (is_utf8 bytes) refl h) refl

-- what was read, and then what the rest gives
abbrev pub after : List Pair → Result (List Pair) RouteFault → Result (List Pair) RouteFault
after done (Err fault) = Err fault
after done (Ok pairs) = Ok (done ++ pairs)

step : (pair : Pair) (pairs : List Pair) (name value rest : Bool) →
    in_front (if name then Ok pair.0 else Err InvalidQuery) (if value then Ok pair.1 else Err InvalidQuery)
    (if rest then Ok (filter counts pairs) else Err InvalidQuery)
    ≡ (if (name && value) && rest then Ok (filter counts (pair ∷ pairs)) else Err InvalidQuery)
step pair pairs false value rest = refl
step pair pairs true false rest = refl
step pair pairs true true false = refl
step pair pairs true true true = refl

pub words_are : (pairs : List Pair) → words_in pairs ≡ words_of pairs
words_are [] = refl
words_are (pair ∷ pairs) =
    ap (in_front (text pair.0) (text pair.1)) (words_are pairs) ∙ step pair pairs (is_utf8 pair.0) (is_utf8 pair.1) (list_all is_text_pair pairs)
