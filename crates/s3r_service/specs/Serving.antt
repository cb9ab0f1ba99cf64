-- What each part of a run has done.
use Rattle.std.specs.Prelude.{◌≡◌, ℕ, ◌<◌, List, [], ◌∷◌, ◌++◌, Option, Some, None, IfSome, IfOk, Result, Ok, Err, OnOk, Vec}
use Rattle.std.specs.declared.alloc.Global.{Global}
use Rattle.std.specs.declared.alloc.AllocError.{AllocError}
use Rattle.s3r_world.specs.Outside.{Outside, Counts, NoneFalls, KeepsInput}
use Rattle.s3r_journal.specs.Leaves.{Leaves}
use Rattle.s3r_store.specs.declared.store.Store.{Store}
use Rattle.s3r_desk.specs.Events.{Events, answered}
use Rattle.s3r_desk.specs.Keeping.{Keeps}
use Rattle.s3r_http.specs.declared.message.RawRequest.{RawRequest}
use Rattle.s3r_api.specs.Request.{request_of}
use Rattle.s3r_service.specs.declared.stop.Ending.{Ending}
use Rattle.s3r_service.specs.declared.stop.Stop.{Stop}
use Rattle.s3r_service.specs.declared.stop.Stop.TheVariants as stop
use Rattle.s3r_service.specs.Passing.{Passes}
use Rattle.s3r_service.specs.Turns.{Outcome, Turn, answer_to, IsCounted, IsStepOf, IsAnswered, GoesOn, events_of, input_of, AreTurns, AreCounted, events_in, text_in, turns_with}
use Rattle.s3r_service.specs.Served.{IsEnd}

-- A front of these bytes was put out, and no volume has changed.
pub record Says (text : List ℕ) (result : Result (Unit {0}) Stop) (old new : Outside) : Type 0 where
  pub sent : List ℕ
  pub more : List ℕ
  pub front : text ≡ sent ++ more
  pub whole : OnOk result (more ≡ [])
  pub unsaid : (result ≡ Err stop.OutOfMemory) → sent ≡ []
  pub passes : (n : ℕ) → Passes n (answered sent ∷ []) old new
  pub left : (q : ℕ) → Leaves q old new
  pub input : KeepsInput old new

-- A request's step was made, and the text of its answer is there.
pub record Replies (n : ℕ) (room : ℕ → ℕ) (before : Events) (raw : RawRequest) (result : Result (Vec ℕ Global) AllocError) (stores : List Store)
    (old new : Outside) (a b : Counts) : Type 0 where
  pub outcome : Outcome
  pub step : Events
  pub is : IsStepOf n room before old.as_read (request_of raw) outcome step
  pub reply : IfOk result (λ text. text.items ≡ answer_to raw outcome)
  pub passes : Passes n step old new
  pub keeps : Keeps (step ++ before) stores new
  pub input : KeepsInput old new
  pub counted : IsCounted outcome step a b
  pub counts : NoneFalls a b

-- A request's step was made, and a front of its answer put out.
pub record AnswersOne (n : ℕ) (room : ℕ → ℕ) (before : Events) (raw : RawRequest) (result : Result (Unit {0}) Stop) (stores : List Store) (old new : Outside)
    (a b : Counts) : Type 0 where
  pub outcome : Outcome
  pub step : Events
  pub sent : List ℕ
  pub more : List ℕ
  pub is : IsStepOf n room before old.as_read (request_of raw) outcome step
  pub front : answer_to raw outcome ≡ sent ++ more
  pub whole : OnOk result (more ≡ [])
  pub unsaid : result ≡ Err stop.OutOfMemory → sent ≡ []
  pub passes : Passes n (answered sent ∷ step) old new
  pub keeps : Keeps (answered sent ∷ (step ++ before)) stores new
  pub input : KeepsInput old new
  pub counted : IsCounted outcome step a b
  pub counts : NoneFalls a b

-- one request went on, or the run ends behind any number of others
abbrev pub EndsOne : Result (Option Ending) Stop → Option Turn → Events → List ℕ → List ℕ → Type 0
EndsOne (Ok None) turn closing rest left = (closing ≡ []) × (t : Turn) × (turn ≡ Some t) × GoesOn t
EndsOne (Ok (Some ending)) turn closing rest left = (count : ℕ) → count < 65536 → IsEnd (Ok ending) count turn closing rest left
EndsOne (Err stop) turn closing rest left = (count : ℕ) → count < 65536 → IsEnd (Err stop) count turn closing rest left

-- One request was taken from the stream and answered, or there was none.
pub record Serves (n : ℕ) (room : ℕ → ℕ) (before : Events) (result : Result (Option Ending) Stop) (stream rest left : List ℕ) (stores : List Store)
    (old new : Outside) (a b : Counts) : Type 0 where
  pub turn : Option Turn
  pub closing : Events
  pub right : IfSome turn (IsAnswered n room before old.as_read)
  pub text : stream ≡ text_in turn ++ rest
  pub passes : Passes n (closing ++ events_in turn) old new
  pub keeps : Keeps ((closing ++ events_in turn) ++ before) stores new
  pub ends : EndsOne result turn closing rest left
  pub counted : AreCounted a (turns_with turn []) b
  pub connections : new.connections ≡ old.connections

-- These requests were taken and answered, with these bytes to come.
pub record IsServing (n : ℕ) (room : ℕ → ℕ) (turns : List Turn) (stream : List ℕ) (stores : List Store) (start now : Outside) (a b : Counts) : Type 0 where
  pub right : AreTurns n room start.as_read turns
  pub parts : start.input ≡ input_of turns ++ stream
  pub passes : Passes n (events_of turns) start now
  pub keeps : Keeps (events_of turns) stores now
  pub counted : AreCounted a turns b
  pub connections : now.connections ≡ start.connections

-- Whether there is a byte behind the last request that is served.
abbrev pub Limits : Result Ending Stop → List ℕ → List ℕ → Type 0
Limits result rest left = IsEnd result 65536 None [] rest left
