-- What happens to the regions and to the output.
use Rattle.std.specs.Prelude.{◌≡◌, ◌⊎◌, ℕ, ◌==◌, List, [], ◌∷◌, Option, Some, None, unwrap_or, if◌then◌else◌}
use Rattle.s3r_record.specs.declared.command.Command.{Command}
use Rattle.s3r_history.specs.Words.{History}

pub data Event : Type 0 where
  -- a region's history is this one: its volume was read so, or a commit of its newest command was made sure
  found : (region : ℕ) (h : History) → Event
  -- a commit to a region began, and is in doubt until the region's history is found again
  began : (region : ℕ) (c : Command) → Event
  -- an answer of these bytes was put out
  answered : (text : List ℕ) → Event

-- events, the newest first
abbrev pub Events : Type 0
Events = List Event

-- the history of a region that was found and to which no commit has begun since
abbrev pub known : Events → ℕ → Option History
known [] r = None
known (found s h ∷ events) r = if s == r then Some h else known events r
known (began s c ∷ events) r = if s == r then None else known events r
known (answered text ∷ events) r = known events r

-- the histories that are known
abbrev pub history_at : Events → ℕ → History
history_at events r = unwrap_or (known events r) []

-- A region that had a history may have this one after the events: the same with each command of which a commit began, or
-- without it, and just what was found each time.
abbrev pub Leads : Events → ℕ → History → History → Type 0
Leads [] r h k = k ≡ h
Leads (found s g ∷ events) r h k = Leads events r h k × (s ≡ r → k ≡ g)
Leads (began s c ∷ events) r h k = Leads events r h k ⊎ ((s ≡ r) × (g : History) × Leads events r h g × (k ≡ c ∷ g))
Leads (answered text ∷ events) r h k = Leads events r h k
