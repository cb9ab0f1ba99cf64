-- What a run has done, by how it ended.
use Rattle.std.specs.Prelude.{◌≡◌, ◌≢◌, ◌⊎◌, ◌==◌, ℕ, ◌<◌, ◌≤◌, true, false, List, [], ◌∷◌, ◌++◌, length, Option, Some, None, IfSome, IsSome, IsSomeAnd, Result, Ok, Err, IsTrue}
use Rattle.std.specs.List.{list_any}
use Rattle.s3r_world.specs.Image.{Image}
use Rattle.s3r_world.specs.declared.world.Side.TheVariants as side
use Rattle.s3r_world.specs.Outside.{Outside, Elapses, Counts, Rises}
use Rattle.s3r_store.specs.Stands.{StandsFor}
use Rattle.s3r_desk.specs.Events.{Events, answered}
use Rattle.s3r_desk.specs.Steps.{Histories}
use Rattle.s3r_desk.specs.Careful.{AreAgreed}
use Rattle.s3r_http.specs.declared.message.HttpFault.{HttpFault}
use Rattle.s3r_http.specs.declared.message.HttpFault.TheVariants as http
use Rattle.s3r_http.specs.declared.message.RawRequest.{RawRequest}
use Rattle.s3r_http.specs.Request.{SpellsRequest, BeginsNone}
use Rattle.s3r_http.specs.Refusals.{IsCause}
use Rattle.s3r_api.specs.declared.problem.Problem.{Problem}
use Rattle.s3r_api.specs.Problems.{problem_of}
use Rattle.s3r_api.specs.Texts.{problem_text}
use Rattle.s3r_service.specs.declared.stop.Ending.{Ending}
use Rattle.s3r_service.specs.declared.stop.Ending.TheVariants.{Over, Refused, Limit}
use Rattle.s3r_service.specs.declared.stop.Stop.{Stop}
use Rattle.s3r_service.specs.declared.stop.Stop.TheVariants.{Input, Output, OutOfMemory}
use Rattle.s3r_service.specs.Passing.{Passes}
use Rattle.s3r_service.specs.Words.{Task, serving, Meaning}
use Rattle.s3r_service.specs.Turns.{Turn, reply_of, is_last, IsRight, events_of, input_of, AreTurns, AreCounted, failures, events_in, text_in, turns_with}

abbrev pub status_of_ending : Ending → ℕ
status_of_ending Over = 0
status_of_ending Refused = 1
status_of_ending Limit = 10

abbrev pub status_of_stop : Stop → ℕ
status_of_stop Input = 3
status_of_stop Output = 4
status_of_stop OutOfMemory = 6

abbrev pub status_of : Result Ending Stop → ℕ
status_of (Ok ending) = status_of_ending ending
status_of (Err stop) = status_of_stop stop

-- a fault of the input or the output ends the work only where it was counted
abbrev pub HasCause : Stop → Counts → Counts → Type 0
HasCause Input old new = Rises 1 side.Input old new
HasCause Output old new = Rises 1 side.Output old new
HasCause OutOfMemory old new = Unit {0}

-- how a fault of reading a request that has no answer ends the work
abbrev pub stop_of : HttpFault → Stop
stop_of http.Input = Input
stop_of fault = OutOfMemory

-- No request stands at the front of the rest, for this cause, and so much of the answer to it is out.
pub record IsRefused (rest : List ℕ) (closing : Events) : Type 0 where
  pub fault : HttpFault
  pub problem : Problem
  pub named : problem_of fault ≡ Some problem
  pub cause : IsCause fault rest
  pub none : BeginsNone rest
  pub sent : List ℕ
  pub more : List ℕ
  pub front : problem_text problem false true ≡ sent ++ more
  pub closing_is : closing ≡ answered sent ∷ []

-- the bytes are no whole request yet
abbrev pub IsIncomplete : List ℕ → Type 0
IsIncomplete taken = (raw : RawRequest) (text more : List ℕ) → SpellsRequest raw text → taken ≡ text ++ more → ⊥

-- there are no more bytes, or the final request said that it is the last one
abbrev pub IsOver : ℕ → Option Turn → List ℕ → Type 0
IsOver count final rest = ((count ≤ 65536) × (final ≡ None) × (rest ≡ []))
    ⊎ ((count < 65536) × (t : Turn) × (final ≡ Some t) × (t.sent ≡ reply_of t.occasion) × (is_last t.occasion ≡ true))

-- Nothing is out of the last answer: that to the final request, or the one to a front that is refused.
abbrev pub IsUnsaid : ℕ → Option Turn → Events → List ℕ → Type 0
IsUnsaid count None closing rest = ((count ≤ 65536) × (closing ≡ [])) ⊎ ((count < 65536) × (r : IsRefused rest closing) × (r.sent ≡ []))
IsUnsaid count (Some t) closing rest = (count < 65536) × (closing ≡ []) × (t.sent ≡ [])

-- How it ended behind so many requests that went on, by its status: with what request, with what more put out, with
-- what rest of the input, and with what left that wasn't taken.
abbrev pub IsEnd : Result Ending Stop → ℕ → Option Turn → Events → List ℕ → List ℕ → Type 0
IsEnd (Ok Over) count final closing rest left = (closing ≡ []) × IsOver count final rest
IsEnd (Ok Refused) count final closing rest left = (count < 65536) × (final ≡ None) × (r : IsRefused rest closing) × (r.more ≡ [])
IsEnd (Ok Limit) count final closing rest left = (count ≡ 65536) × (final ≡ None) × (closing ≡ []) × (rest ≢ [])
IsEnd (Err Input) count final closing rest left = (count ≤ 65536) × (final ≡ None) × (closing ≡ [])
    × (count < 65536 → (taken : List ℕ) × (rest ≡ taken ++ left) × IsIncomplete taken)
IsEnd (Err Output) count final closing rest left = (count < 65536) × ((IsSome final × (closing ≡ [])) ⊎ ((final ≡ None) × IsRefused rest closing))
IsEnd (Err OutOfMemory) count final closing rest left = IsUnsaid count final closing rest

-- The requests of a stream of bytes were answered in turn, up to its end; so much of it was not taken.
pub record Conversation (n : ℕ) (room : ℕ → ℕ) (result : Result Ending Stop) (stream left : List ℕ) (old new : Outside) (before after : Counts) : Type 0 where
  -- the requests that went on, the newest first, and the one behind them that didn't
  pub turns : List Turn
  pub final : Option Turn
  pub closing : Events
  pub rest : List ℕ
  pub are_right : AreTurns n room old.as_read turns
  pub is_right : IfSome final (IsRight n room old.as_read (events_of turns))
  pub parts : stream ≡ input_of turns ++ (text_in final ++ rest)
  pub passes : Passes n ((closing ++ events_in final) ++ events_of turns) old new
  -- what was taken of the rest, and what wasn't
  pub taken : List ℕ
  pub rest_is : rest ≡ taken ++ left
  pub ends : IsEnd result (length turns) final closing rest left
  pub counted : AreCounted before (turns_with final turns) after
  -- an answer that a volume failed has its fault, each its own
  pub faults : (v : ℕ) → Rises (failures v (turns_with final turns)) (side.Volume v) before after

-- The input was served, and no connection was taken.
pub record Served (n : ℕ) (room : ℕ → ℕ) (result : Result Ending Stop) (old new : Outside) (before after : Counts) : Type 0 where
  pub conversation : Conversation n room result old.input new.input old new before after
  pub connections : new.connections ≡ old.connections

-- Each volume below n stands for a lawful history, and what each region received of another is what that one prescribed: in order,
-- each once, up to its first pending task.
pub record IsSoundImage (n : ℕ) (c : Image) : Type 0 where
  pub at : Histories
  pub stands : (r : ℕ) → r < n → StandsFor n r (at r) (c.volume r)
  pub agree : AreAgreed n at

-- so it is in each image, and in what is read
pub record IsSound (n : ℕ) (w : Outside) : Type 0 where
  pub images : (c : Image) → w.images c → IsSoundImage n c
  pub as_read : IsSoundImage n w.as_read

-- so it stays, at each moment
pub record StaysSound (n : ℕ) (old new : Outside) : Type 0 where
  pub time : Elapses old new (IsSoundImage n)
  pub now : IsSound n new

-- what a run of a task has done, by the status that it ended with
abbrev pub Ran : Task → ℕ → ℕ → (ℕ → ℕ) → Outside → Outside → Counts → Counts → Type 0
Ran serving status n room old new before after = (result : Result Ending Stop) × (status ≡ status_of result) × Served n room result old new before after

-- a status that a task ends with
abbrev pub EndsWith : Task → ℕ → Type 0
EndsWith serving status = IsTrue (list_any (λ s. s == status) (0 ∷ 1 ∷ 3 ∷ 4 ∷ 6 ∷ 10 ∷ []))

-- the words aren't the program's, or their task ends with this status
abbrev pub IsStatus : Option Meaning → ℕ → Type 0
IsStatus meaning status = (status ≡ 2) ⊎ IsSomeAnd meaning (λ m. EndsWith m.task status)
