-- The words of a target's query.
use Rattle.std.specs.Prelude.{ℕ, Bool, not, ◌&&◌, if◌then◌else◌, List, [], ◌∷◌, filter, find, Option, option_map, Result, Ok, Err, codes}
use Rattle.std.specs.List.{list_all, list_any}
use Rattle.std.specs.Str.{bytes_eq, is_utf8}
use Rattle.form_urlencoded.specs.Form as form
use Rattle.s3r_routes.specs.declared.fault.RouteFault.{RouteFault}
use Rattle.s3r_routes.specs.declared.fault.RouteFault.TheVariants.{InvalidQuery}
use Rattle.s3r_routes.specs.declared.words.Word.{Word}
use Rattle.s3r_routes.specs.Target.{query_of}
use Rattle.s3r_routes.specs.Words.{word_text}

-- a word and its value
abbrev pub Pair : Type 0
Pair = List ℕ × List ℕ

abbrev pub is_text_pair : Pair → Bool
is_text_pair pair = is_utf8 pair.0 && is_utf8 pair.1

-- the word isn't one that every row passes over
abbrev pub counts : Pair → Bool
counts pair = not (bytes_eq pair.0 (codes "x-id"))

-- the words of these pairs, each of which has to be text
abbrev pub words_of : List Pair → Result (List Pair) RouteFault
words_of pairs = if list_all is_text_pair pairs then Ok (filter counts pairs) else Err InvalidQuery

-- the words of a target
unfoldable pub read : List ℕ → Result (List Pair) RouteFault
read target = words_of (form.parse (query_of target))

abbrev pub is_word : Word → Pair → Bool
is_word word pair = bytes_eq pair.0 (word_text word)

-- the value of the first such word
abbrev pub value : Word → List Pair → Option (List ℕ)
value word query = option_map (λ (pair : Pair). pair.1) (find (is_word word) query)

abbrev pub has : Word → List Pair → Bool
has word query = list_any (is_word word) query

-- ---- pair by pair

abbrev pub text : List ℕ → Result (List ℕ) RouteFault
text bytes = if is_utf8 bytes then Ok bytes else Err InvalidQuery

abbrev pub with_word : Pair → List Pair → List Pair
with_word pair pairs = if counts pair then pair ∷ pairs else pairs

abbrev pub in_front : Result (List ℕ) RouteFault → Result (List ℕ) RouteFault → Result (List Pair) RouteFault → Result (List Pair) RouteFault
in_front (Err fault) value pairs = Err fault
in_front (Ok name) (Err fault) pairs = Err fault
in_front (Ok name) (Ok value) (Err fault) = Err fault
in_front (Ok name) (Ok value) (Ok pairs) = Ok (with_word (name, value) pairs)

abbrev pub words_in : List Pair → Result (List Pair) RouteFault
words_in [] = Ok []
words_in (pair ∷ pairs) = in_front (text pair.0) (text pair.1) (words_in pairs)
