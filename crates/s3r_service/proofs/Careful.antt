-- What a run does is careful.
use Rattle.std.proofs.Common.{ℕ, List, [], ◌∷◌, ◌++◌, length, Option, Some, None, IfSome, Result, Ok, Err, sym, subst, inl, inr, ⊎_elim}
use Rattle.std.proofs.lemmas.List.{append-nil}
use Rattle.s3r_world.specs.Image.{Image}
use Rattle.s3r_world.specs.Outside.{Outside, Counts}
use Rattle.s3r_desk.specs.Events.{Events}
use Rattle.s3r_desk.specs.Careful.{AreCareful}
use Rattle.s3r_desk.specs.declared.request.Request.{Request}
use Rattle.s3r_desk.proofs.Careful.{careful_then}
use Rattle.s3r_desk.proofs.TurnsCareful as turns
use Rattle.s3r_api.specs.declared.problem.Problem.{Problem}
use Rattle.s3r_api.specs.Request.{request_of}
use Rattle.s3r_service.specs.declared.stop.Ending.{Ending}
use Rattle.s3r_service.specs.declared.stop.Ending.TheVariants.{Over, Refused, Limit}
use Rattle.s3r_service.specs.declared.stop.Stop.{Stop}
use Rattle.s3r_service.specs.declared.stop.Stop.TheVariants.{Input, Output, OutOfMemory}
use Rattle.s3r_service.specs.Turns.{Outcome, Occasion, request_came, Turn, IsStepOf, ComesTo, IsRight, AreTurns, events_of, events_in}
use Rattle.s3r_service.specs.Served.{IsRefused, IsUnsaid, IsEnd, Conversation}
use Rattle.s3r_service.specs.Laws.{IsClosing, RunsAreCareful}

step_careful : (n : ℕ) (room : ℕ → ℕ) (before : Events) (seen : Image) (asked : Result Request Problem) (outcome : Outcome) (step : Events)
    → IsStepOf n room before seen asked outcome step → AreCareful n before step
step_careful n room before seen asked (Ok result) step is = turns.turns_careful n room seen before is.0 result step is.2
step_careful n room before seen asked (Err problem) step is = subst (λ (l : Events). AreCareful n before l) (sym is.1) tt

occasion_careful : (n : ℕ) (room : ℕ → ℕ) (before : Events) (seen : Image) (o : Occasion) (step : Events) → ComesTo n room before seen o step
    → AreCareful n before step
occasion_careful n room before seen (request_came raw text outcome) step comes = step_careful n room before seen (request_of raw) outcome step comes.1

right_careful : (n : ℕ) (room : ℕ → ℕ) (start : Image) (before : Events) (t : Turn) → IsRight n room start before t → AreCareful n (before ++ []) t.step
right_careful n room start before t right =
    subst (λ (l : Events). AreCareful n l t.step) (sym (append-nil before))
    (occasion_careful n room before right.seen t.occasion t.step right.answered.comes)

turns_careful : (n : ℕ) (room : ℕ → ℕ) (start : Image) (turns : List Turn) → AreTurns n room start turns → AreCareful n [] (events_of turns)
turns_careful n room start [] all = tt
turns_careful n room start (t ∷ earlier) all =
    careful_then n [] (events_of earlier) t.step (turns_careful n room start earlier all.2) (right_careful n room start (events_of earlier) t all.0)

final_careful : (n : ℕ) (room : ℕ → ℕ) (start : Image) (before : Events) (final : Option Turn) → IfSome final (IsRight n room start before)
    → AreCareful n (before ++ []) (events_in final)
final_careful n room start before None right = tt
final_careful n room start before (Some t) right = right_careful n room start before t right

refused_closes : (rest : List ℕ) (closing : Events) → IsRefused rest closing → IsClosing closing
refused_closes rest closing r = inr (r.sent, r.closing_is)

unsaid_closes : (count : ℕ) (final : Option Turn) (closing : Events) (rest : List ℕ) → IsUnsaid count final closing rest → IsClosing closing
unsaid_closes count None closing rest is = ⊎_elim (λ none. inl none.1) (λ w. refused_closes rest closing w.1) is
unsaid_closes count (Some t) closing rest is = inl is.1

end_closes : (result : Result Ending Stop) (count : ℕ) (final : Option Turn) (closing : Events) (rest left : List ℕ)
    → IsEnd result count final closing rest left → IsClosing closing
end_closes (Ok Over) count final closing rest left is = inl is.0
end_closes (Ok Refused) count final closing rest left is = refused_closes rest closing is.2
end_closes (Ok Limit) count final closing rest left is = inl is.2
end_closes (Err Input) count final closing rest left is = inl is.2
end_closes (Err Output) count final closing rest left is = ⊎_elim (λ none. inl none.1) (λ w. refused_closes rest closing w.1) is.1
end_closes (Err OutOfMemory) count final closing rest left is = unsaid_closes count final closing rest is

closing_careful : (n : ℕ) (before closing : Events) → IsClosing closing → AreCareful n before closing
closing_careful n before closing is = ⊎_elim
    (λ none. subst (λ (l : Events). AreCareful n before l) (sym none) tt)
    (λ w. subst (λ (l : Events). AreCareful n before l) (sym w.1) tt)
    is

pub runs_careful : RunsAreCareful
runs_careful n room start turns final closing all right is =
    careful_then n [] (events_of turns) (closing ++ events_in final) (turns_careful n room start turns all)
    (careful_then n (events_of turns ++ []) (events_in final) closing (final_careful n room start (events_of turns) final right)
    (closing_careful n (events_in final ++ (events_of turns ++ [])) closing is))

module _ (n : ℕ) (room : ℕ → ℕ) (result : Result Ending Stop) (stream left : List ℕ) (old new : Outside) (before after : Counts) where
  pub conversation_careful : (c : Conversation n room result stream left old new before after)
      → AreCareful n [] ((c.closing ++ events_in c.final) ++ events_of c.turns)
  conversation_careful c =
      runs_careful n room old.as_read c.turns c.final c.closing c.are_right c.is_right (end_closes result (length c.turns) c.final c.closing c.rest left c.ends)
