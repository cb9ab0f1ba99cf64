-- Which row of the request table a path, its words and its method fit.
use Rattle.std.specs.Prelude.{ℕ, Bool, true, false, ◌&&◌, ◌||◌, List, [], ◌∷◌, find, map, codes}
use Rattle.std.specs.Prelude.{Option, Some, None, option_map, Result, Ok, Err}
use Rattle.std.specs.List.{list_all, list_any}
use Rattle.std.specs.Str.{bytes_eq}
use Rattle.s3r_routes.specs.declared.fault.RouteFault.{RouteFault}
use Rattle.s3r_routes.specs.declared.fault.RouteFault.TheVariants.{WrongMethod, UnknownQuery}
use Rattle.s3r_routes.specs.declared.words.Word.{Word}
use Rattle.s3r_routes.specs.declared.words.Word.TheVariants as word
use Rattle.s3r_routes.specs.declared.rows.Row.{Row}
use Rattle.s3r_routes.specs.declared.rows.Route.{Route}
use Rattle.s3r_routes.specs.declared.rows.Verb.{Verb}
use Rattle.s3r_routes.specs.declared.rows.Verb.TheVariants as verb
use Rattle.s3r_routes.specs.declared.rows.Others.{Others}
use Rattle.s3r_routes.specs.declared.rows.Others.TheVariants as others
use Rattle.s3r_routes.specs.Target.{Target}
use Rattle.s3r_routes.specs.Words.{word_text}
use Rattle.s3r_routes.specs.Query.{Pair}
use Rattle.s3r_routes.specs.Table.{TableRow, row, rows_at}

abbrev pub is_one_of : List (List ℕ) → List ℕ → Bool
is_one_of words name = list_any (bytes_eq name) words

-- the row has this word
abbrev pub is_word_of : TableRow → List ℕ → Bool
is_word_of row name = is_one_of row.needs name || is_one_of row.takes name

abbrev pub is_there : List Pair → List ℕ → Bool
is_there query word = list_any (λ (pair : Pair). bytes_eq pair.0 word) query

-- the row's obligatory words are there
abbrev pub is_met : List Pair → TableRow → Bool
is_met query row = list_all (is_there query) row.needs

-- each word is one of the row's, and its obligatory ones are there
abbrev pub fits : List Pair → TableRow → Bool
fits query row = list_all (λ (pair : Pair). is_word_of row pair.0) query && is_met query row

abbrev pub is_by : List ℕ → TableRow → Bool
is_by method row = bytes_eq row.method method

abbrev pub route_by : List TableRow → List ℕ → List Pair → Option Route
route_by rows method query = option_map (λ (row : TableRow). row.asks) (find (λ row. fits query row && is_by method row) rows)

abbrev pub fits_any : List TableRow → List Pair → Bool
fits_any rows query = list_any (fits query) rows

abbrev pub or_refused : Option Route → Bool → Result Route RouteFault
or_refused (Some route) any = Ok route
or_refused None true = Err WrongMethod
or_refused None false = Err UnknownQuery

-- what is asked at a place by a method and these words
abbrev pub route_of : Target → List ℕ → List Pair → Result Route RouteFault
route_of place method query = or_refused (route_by (rows_at place) method query) (fits_any (rows_at place) query)

-- ---- the code's rows as rows of the table

abbrev pub verb_text : Verb → List ℕ
verb_text verb.Get = codes "GET"
verb_text verb.Head = codes "HEAD"
verb_text verb.Put = codes "PUT"
verb_text verb.Post = codes "POST"
verb_text verb.Delete = codes "DELETE"

abbrev pub words_of : Others → List Word
words_of others.Nothing = []
words_of others.Version = word.VersionId ∷ []
words_of others.Page = word.Prefix ∷ word.KeyMarker ∷ word.VersionIdMarker ∷ word.MaxKeys ∷ []
words_of others.Priority = word.Priority ∷ []
words_of others.Status = word.RequestedJobStatus ∷ []
words_of others.Pair = word.From ∷ word.To ∷ []
words_of others.Region = word.Region ∷ []
words_of others.Rounds = word.Rounds ∷ []

abbrev pub text_of : Option Word → List (List ℕ)
text_of None = []
text_of (Some w) = word_text w ∷ []

abbrev pub seen_row : Row → TableRow
seen_row r = row (verb_text r.verb) (text_of r.need) (map word_text (words_of r.others)) r.route

-- the name is this word's
abbrev pub is_spelled : List ℕ → Word → Bool
is_spelled name w = bytes_eq name (word_text w)

abbrev pub fits_row : List Pair → Row → Bool
fits_row query r = fits query (seen_row r)

abbrev pub is_row_by : List ℕ → Row → Bool
is_row_by method r = is_by method (seen_row r)

abbrev pub route_in : List Row → List ℕ → List Pair → Option Route
route_in rows method query = option_map (λ (r : Row). r.route) (find (λ r. fits_row query r && is_row_by method r) rows)
