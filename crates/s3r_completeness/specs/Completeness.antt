-- What a run comes to in which no call on a volume failed.
use Rattle.std.specs.Prelude.{◌≡◌, ℕ, Bool, true, false, List, Option, IfSome, Result, Ok, Err}
use Rattle.std.specs.List.{AllByRecursion}
use Rattle.s3r_world.specs.declared.world.Side.TheVariants as side
use Rattle.s3r_world.specs.Image.{Image}
use Rattle.s3r_world.specs.Outside.{Counts, Rises}
use Rattle.s3r_desk.specs.declared.fault.DeskFault.{DeskFault}
use Rattle.s3r_desk.specs.declared.fault.DeskFault.TheVariants as faults
use Rattle.s3r_desk.specs.declared.request.Answer.{Answer}
use Rattle.s3r_desk.specs.Copying.{attempts_about}
use Rattle.s3r_service.specs.Turns.{Outcome, Occasion, request_came, Turn, IsRight, AreTurns, events_of, failures, turns_with}
use Rattle.s3r_service.specs.Served.{IsSoundImage}

-- no call on a volume failed: its count hasn't risen, and doesn't stand at a number at which it stays
abbrev pub NoneFailed : Counts → Counts → Type 0
NoneFailed old new = (v : ℕ) → Rises 1 (side.Volume v) old new → ⊥

-- The desk answered what the machine answers; or a volume had no room, or there was no memory. It told of no volume's fault, of no
-- damage and of no disagreement.
abbrev pub is_faultless : Result Answer DeskFault → Bool
is_faultless (Ok answer) = true
is_faultless (Err (faults.Volume v)) = false
is_faultless (Err (faults.Full v)) = true
is_faultless (Err (faults.Damaged v offset)) = false
is_faultless (Err (faults.Disagree from to sent last settled received)) = false
is_faultless (Err faults.OutOfMemory) = true

-- so it is of an outcome, also where the desk wasn't asked
abbrev pub has_no_fault : Outcome → Bool
has_no_fault (Ok result) = is_faultless result
has_no_fault (Err problem) = true

abbrev pub comes_without_fault : Occasion → Bool
comes_without_fault (request_came raw text outcome) = has_no_fault outcome

-- A turn has no fault, and notes no attempt, so no turn of the copier was missed.
pub record IsUndisturbed (t : Turn) : Type 0 where
  pub faultless : comes_without_fault t.occasion ≡ true
  pub untried : (v : ℕ) → attempts_about v t.step ≡ 0

-- What `Conversation` says of a run's turns: each is right, the final one too, and their faults and attempts were counted, volume by
-- volume. Where it starts from a sound image, as volumes with no bytes are and as each run leaves them, and no call on a volume fails in
-- it, no turn of it is disturbed.
abbrev pub SoundRunsAnswerNoFault : Type 0
SoundRunsAnswerNoFault = (n : ℕ) (room : ℕ → ℕ) (start : Image) (turns : List Turn) (final : Option Turn) (before after : Counts)
    → AreTurns n room start turns → IfSome final (IsRight n room start (events_of turns))
    → ((v : ℕ) → Rises (failures v (turns_with final turns)) (side.Volume v) before after)
    → IsSoundImage n start → NoneFailed before after → AllByRecursion IsUndisturbed (turns_with final turns)
