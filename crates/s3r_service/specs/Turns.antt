-- Turns, and what each came to.
use Rattle.std.specs.Prelude.{◌≡◌, ℕ, ◌+◌, Bool, false, List, [], ◌∷◌, ◌++◌, Option, Some, None, Result, Ok, Err}
use Rattle.s3r_world.specs.Image.{Image}
use Rattle.s3r_world.specs.declared.world.Side.TheVariants as side
use Rattle.s3r_world.specs.Outside.{Counts, NoneFalls, Rises}
use Rattle.s3r_desk.specs.declared.fault.DeskFault.{DeskFault}
use Rattle.s3r_desk.specs.declared.request.Request.{Request}
use Rattle.s3r_desk.specs.declared.request.Answer.{Answer}
use Rattle.s3r_desk.specs.Events.{Events, answered}
use Rattle.s3r_desk.specs.Copying as copying
use Rattle.s3r_desk.specs.Copying.{attempts_about}
use Rattle.s3r_desk.specs.Responds.{IsTurn}
use Rattle.s3r_http.specs.declared.message.RawRequest.{RawRequest}
use Rattle.s3r_http.specs.Request.{SpellsRequest}
use Rattle.s3r_api.specs.declared.problem.Problem.{Problem}
use Rattle.s3r_api.specs.Problems.{Fails}
use Rattle.s3r_api.specs.Request.{request_of, is_head}
use Rattle.s3r_api.specs.Texts.{answer_text, problem_text}
use Rattle.s3r_service.specs.Passing.{Brings}

-- what the desk said, or why it wasn't asked
abbrev pub Outcome : Type 0
Outcome = Result (Result Answer DeskFault) Problem

-- why a turn was made
pub data Occasion : Type 0 where
  -- a request of this text came, and had this outcome
  request_came : (raw : RawRequest) (text : List ℕ) (outcome : Outcome) → Occasion

-- Its occasion, what happened to the regions, what was put out of its reply, and the counts of faults at its start and its
-- end.
pub record Turn : Type 0 where
  pub occasion : Occasion
  pub step : Events
  pub sent : List ℕ
  pub before : Counts
  pub after : Counts

abbrev pub answer_to : RawRequest → Outcome → List ℕ
answer_to raw (Ok result) = answer_text result (is_head raw) raw.last
answer_to raw (Err problem) = problem_text problem (is_head raw) raw.last

-- The request asks for this, and the desk made its step, with the volumes as they are seen; or it asks for nothing.
abbrev pub IsStepOf : ℕ → (ℕ → ℕ) → Events → Image → Result Request Problem → Outcome → Events → Type 0
IsStepOf n room before seen asked (Ok result) step =
    (request : Request) × (asked ≡ Ok request) × IsTurn n room seen before request result step
IsStepOf n room before seen asked (Err problem) step = Fails problem asked × (step ≡ [])

-- the outcome is a fault of this volume
abbrev pub fails_at : ℕ → Outcome → ℕ
fails_at v (Ok result) = copying.fails_at v result
fails_at v (Err problem) = 0

-- each attempt about a volume that was noted, and its fault where that is the outcome, was counted
abbrev pub IsCounted : Outcome → Events → Counts → Counts → Type 0
IsCounted outcome step before after = (v : ℕ) → Rises (attempts_about v step + fails_at v outcome) (side.Volume v) before after

-- ---- what an occasion has

-- the bytes that were taken for it
abbrev pub text_of : Occasion → List ℕ
text_of (request_came raw text outcome) = text

-- the bytes that are to be put out
abbrev pub reply_of : Occasion → List ℕ
reply_of (request_came raw text outcome) = answer_to raw outcome

-- no other follows it
abbrev pub is_last : Occasion → Bool
is_last (request_came raw text outcome) = raw.last

-- it came to this step, with the volumes as they are seen
abbrev pub ComesTo : ℕ → (ℕ → ℕ) → Events → Image → Occasion → Events → Type 0
ComesTo n room before seen (request_came raw text outcome) step = SpellsRequest raw text × IsStepOf n room before seen (request_of raw) outcome step

-- the faults that it tells, and those that its step notes, were counted
abbrev pub AreItsFaults : Occasion → Events → Counts → Counts → Type 0
AreItsFaults (request_came raw text outcome) step before after = IsCounted outcome step before after

-- The turn is that of its occasion, behind these events.
pub record IsAnswered (n : ℕ) (room : ℕ → ℕ) (before : Events) (seen : Image) (t : Turn) : Type 0 where
  pub comes : ComesTo n room before seen t.occasion t.step
  pub more : List ℕ
  pub front : reply_of t.occasion ≡ t.sent ++ more
  pub counted : AreItsFaults t.occasion t.step t.before t.after
  pub counts : NoneFalls t.before t.after

-- So it is, the volumes being what the events have brought since the start.
pub record IsRight (n : ℕ) (room : ℕ → ℕ) (start : Image) (before : Events) (t : Turn) : Type 0 where
  pub seen : Image
  pub since : Brings n before start seen
  pub answered : IsAnswered n room before seen t

-- the whole reply is out, and another turn may follow
abbrev pub GoesOn : Turn → Type 0
GoesOn t = (t.sent ≡ reply_of t.occasion) × (is_last t.occasion ≡ false)

-- ---- turns, the newest first

abbrev pub events_of : List Turn → Events
events_of [] = []
events_of (t ∷ earlier) = answered t.sent ∷ (t.step ++ events_of earlier)

abbrev pub input_of : List Turn → List ℕ
input_of [] = []
input_of (t ∷ earlier) = input_of earlier ++ text_of t.occasion

-- each is right, and goes on
abbrev pub AreTurns : ℕ → (ℕ → ℕ) → Image → List Turn → Type 0
AreTurns n room start [] = Unit {0}
AreTurns n room start (t ∷ earlier) = IsRight n room start (events_of earlier) t × GoesOn t × AreTurns n room start earlier

-- each begins behind the end of the one before it, from these counts to these
abbrev pub AreCounted : Counts → List Turn → Counts → Type 0
AreCounted start [] now = NoneFalls start now
AreCounted start (t ∷ earlier) now = AreCounted start earlier t.before × NoneFalls t.after now

-- the occasion's is
abbrev pub fails_in : ℕ → Occasion → ℕ
fails_in v (request_came raw text outcome) = fails_at v outcome

-- how many of them are, or are noted as attempts
abbrev pub failures : ℕ → List Turn → ℕ
failures v [] = 0
failures v (t ∷ earlier) = failures v earlier + (attempts_about v t.step + fails_in v t.occasion)

-- ---- one turn or none

abbrev pub events_in : Option Turn → Events
events_in None = []
events_in (Some t) = answered t.sent ∷ t.step

abbrev pub text_in : Option Turn → List ℕ
text_in None = []
text_in (Some t) = text_of t.occasion

-- it comes behind these
abbrev pub turns_with : Option Turn → List Turn → List Turn
turns_with None turns = turns
turns_with (Some t) turns = t ∷ turns
