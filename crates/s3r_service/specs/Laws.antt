-- What one run leaves to the next.
use Rattle.std.specs.Prelude.{◌≡◌, ◌⊎◌, ℕ, ◌<◌, List, [], ◌∷◌, ◌++◌, Option, IfSome}
use Rattle.s3r_world.specs.Image.{Image}
use Rattle.s3r_store.specs.Stands.{StandsFor}
use Rattle.s3r_history.specs.Words.{History}
use Rattle.s3r_desk.specs.Events.{answered, Events, Leads}
use Rattle.s3r_desk.specs.Progress.{IsLeft}
use Rattle.s3r_desk.specs.Careful.{AreCareful}
use Rattle.s3r_service.specs.Passing.{Brings}
use Rattle.s3r_service.specs.Turns.{Turn, IsRight, AreTurns, events_of, events_in}
use Rattle.s3r_service.specs.Served.{IsSoundImage}

-- volumes with no bytes stand for lawful histories that agree
abbrev pub FreshIsSound : Type 0
FreshIsSound = (n : ℕ) (c : Image) → ((r : ℕ) → r < n → c.volume r ≡ []) → IsSoundImage n c

-- and what careful events bring does too, where their start does,
abbrev pub SoundStays : Type 0
SoundStays = (n : ℕ) (events : Events) (start c : Image) → AreCareful n [] events → Brings n events start c → IsSoundImage n start
    → IsSoundImage n c

-- a run ended with nothing more, or with an answer's front
abbrev pub IsClosing : Events → Type 0
IsClosing closing = (closing ≡ []) ⊎ ((sent : List ℕ) × (closing ≡ answered sent ∷ []))

-- as those of a run are.
abbrev pub RunsAreCareful : Type 0
RunsAreCareful = (n : ℕ) (room : ℕ → ℕ) (start : Image) (turns : List Turn) (final : Option Turn) (closing : Events) → AreTurns n room start turns
    → IfSome final (IsRight n room start (events_of turns)) → IsClosing closing → AreCareful n [] ((closing ++ events_in final) ++ events_of turns)

-- runs, the newest first, each by the events that had come to pass when it ended or was cut off
abbrev pub Runs : Type 0
Runs = List Events

-- the events of all runs
abbrev pub joined : Runs → Events
joined [] = []
joined (events ∷ earlier) = events ++ joined earlier

-- each run starts from what the one before it left
abbrev pub AreInTurn : ℕ → Runs → Image → Image → Type 0
AreInTurn n [] start c = c ≡ start
AreInTurn n (events ∷ earlier) start c = (left : Image) × AreInTurn n earlier start left × Brings n events left c

-- runs in turn bring what one run of all their events brings
abbrev pub RunsCompose : Type 0
RunsCompose = (n : ℕ) (runs : Runs) (start c : Image) → AreInTurn n runs start c → Brings n (joined runs) start c

-- Where a region has no commit of this run before it yet, what is found of it is a history to which the events of the
-- runs before this one lead.
abbrev pub NextFinds : Type 0
NextFinds =
    (n : ℕ) (runs : Runs) (start left : Image) → AreInTurn n runs start left →
    (events : Events) (seen : Image) → Brings n events left seen →
    (r : ℕ) → r < n → IsLeft events r → (h k : History) → StandsFor n r h (start.volume r) → StandsFor n r k (seen.volume r) →
    Leads (joined runs) r h k
