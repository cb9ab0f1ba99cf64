-- What the program's words mean.
use Rattle.std.specs.Prelude.{◌≡◌, ℕ, ◌-◌, ◌&&◌, nat_lt, if◌then◌else◌, List, [], ◌∷◌, Option, Some, None, IsSomeAnd, codes, string_bytes}
use Rattle.std.specs.Option.{option_map}
use Rattle.std.specs.Str.{bytes_eq}
use Rattle.s3r_service.specs.declared.words.Words.{Words}
use Rattle.s3r_service.specs.declared.words.Place.{Place}

-- the folder, how many regions there are, and the port that is listened on, where one is
pub record PlaceMeant : Type 0 where
  pub folder : List ℕ
  pub regions : ℕ
  pub port : Option ℕ

-- what is to be done there
pub data Task : Type 0 where
  -- the requests of the input are served
  serving : Task

pub record Meaning : Type 0 where
  pub place : PlaceMeant
  pub task : Task

-- one digit from 1 to 8
abbrev pub regions_in : List ℕ → Option ℕ
regions_in (digit ∷ []) = if nat_lt 48 digit && nat_lt digit 57 then Some (digit - 48) else None
regions_in _ = None

abbrev pub words_in : List (List ℕ) → Option Meaning
words_in (folder ∷ regions ∷ task ∷ []) = if bytes_eq task (codes "do")
    then option_map (λ n. record { place = record { folder = folder; regions = n; port = None }; task = serving }) (regions_in regions) else None
words_in _ = None

abbrev pub words_seen : Words → Meaning
words_seen words = record { place = record { folder = words.folder.now; regions = words.regions; port = None }; task = serving }

abbrev pub place_seen : Place → PlaceMeant
place_seen place = record { folder = string_bytes place.folder; regions = place.regions; port = place.port }

-- They are words of the program, over so many volumes.
abbrev pub AreMeant : List (List ℕ) → ℕ → Type 0
AreMeant words volumes = IsSomeAnd (words_in words) (λ meaning. meaning.place.regions ≡ volumes)

-- the place that the words name
abbrev pub place_in : List (List ℕ) → Option PlaceMeant
place_in words = option_map (λ (meaning : Meaning). meaning.place) (words_in words)
