-- In a lawful history tasks end in turn.
use Rattle.std.proofs.Common.{◌≡◌, ℕ, ◌≤◌, Bool, true, false, ◌==◌, List, [], ◌∷◌, ◌++◌, map, None, refl, sym, ap, ◌∙◌, subst, append_assoc, append-nil, eqb-true}
use Rattle.s3r_names.specs.declared.outcome.Outcome.{Outcome}
use Rattle.s3r_record.specs.declared.command.Command.{Command}
use Rattle.s3r_record.specs.declared.command.Command.TheVariants as command
use Rattle.s3r_record.specs.Spelling.{IsCommand}
use Rattle.s3r_queue.specs.declared.task.Task.{Task}
use Rattle.s3r_queue.specs.Tasks.{are_in_turn, new_task, with_outcome, one_attempt_more}
use Rattle.s3r_queue.proofs.InTurn.{turn-kept, push-turn}
use Rattle.s3r_history.specs.Words.{History}
use Rattle.s3r_history.specs.Past.{Carried}
use Rattle.s3r_history.specs.Placed.{sends_to, prescribed}
use Rattle.s3r_history.specs.Deeds.{deeds, deed}
use Rattle.s3r_history.specs.Tasks.{tasks_from, tasks_to, next_task}
use Rattle.s3r_history.specs.Accepts.{refusal, IsLawful}
use Rattle.s3r_history.specs.AgreeLaws.{settles_to}
use Rattle.s3r_history.specs.Kept.{NoneAhead}
use Rattle.s3r_history.proofs.TaskSteps.{tries_to, tasks-quiet, tasks-pushed, tasks-settled, tasks-tried}
use Rattle.s3r_history.proofs.Ahead.{none_at_first, accepted-next, IsNext, next-is, IsWithin, ahead-kept}

-- no task came to anything before it was prescribed, and the pending ones are the last
pub record IsOrderly (r : ℕ) (h : History) : Type 0 where
  pub ahead : NoneAhead h (deeds r h)
  pub turn : (d : ℕ) → are_in_turn (tasks_to h (deeds r h) d) ≡ true

-- a command that settles and tries nothing
record IsQuiet (c : Command) : Type 0 where
  pub settles : (d : ℕ) → settles_to d c ≡ false
  pub tries : (d : ℕ) → tries_to d c ≡ false

all-pushed : {E : Type 0} (es : List E) (tasks : List (Task E)) → are_in_turn tasks ≡ true → are_in_turn (tasks ++ map new_task es) ≡ true
all-pushed [] tasks turn = ap are_in_turn (append-nil tasks) ∙ turn
all-pushed (e ∷ es) tasks turn =
    ap are_in_turn (sym (append_assoc tasks (new_task e ∷ []) (map new_task es))) ∙ all-pushed es (tasks ++ new_task e ∷ []) (push-turn e tasks turn)

quiet : (r : ℕ) (c : Command) (h : History) → IsQuiet c → IsWithin (deeds r h) c → IsOrderly r h → IsOrderly r (c ∷ h)
quiet r c h still within o = record {
  ahead = ahead-kept h (deeds r h) c (deed r h (deeds r h) c) within o.ahead;
  turn = λ d.
      ap are_in_turn (tasks-pushed d h (deeds r h) c (prescribed (deeds r h) d) (sends_to d (deed r h (deeds r h) c).sends) (still.settles d) (still.tries d)
      o.ahead refl)
      ∙ all-pushed (sends_to d (deed r h (deeds r h) c).sends) (tasks_to h (deeds r h) d) (o.turn d);
}

settled : (n r to number : ℕ) (outcome : Outcome) (h : History) → 1 ≤ number → refusal n r h (command.Settle to number outcome) ≡ None → IsOrderly r h
    → IsOrderly r (command.Settle to number outcome ∷ h)
settled n r to number outcome h above accepted o = record {
  ahead = ahead-kept h (deeds r h) (command.Settle to number outcome) (deed r h (deeds r h) (command.Settle to number outcome)) next.within o.ahead;
  turn = λ d. ap (λ (l : List Carried). are_in_turn (tasks_from (command.Settle to number outcome ∷ h) d 1 l)) (append-nil (prescribed (deeds r h) d))
      ∙ at d (to == d) refl;
}
  where
    next : IsNext h (deeds r h) to number
    next = next-is h (deeds r h) to number above (accepted-next n to number (next_task h (deeds r h) to) accepted)

    at : (d : ℕ) (t : Bool) → (to == d) ≡ t → are_in_turn (tasks_from (command.Settle to number outcome ∷ h) d 1 (prescribed (deeds r h) d)) ≡ true
    at d true e = subst (λ (x : ℕ). are_in_turn (tasks_from (command.Settle to number outcome ∷ h) x 1 (prescribed (deeds r h) x)) ≡ true) (eqb-true to d e)
        (ap are_in_turn (tasks-settled to number outcome h (prescribed (deeds r h) to) next.pending next.first)
        ∙ turn-kept (with_outcome outcome) (tasks_to h (deeds r h) to) (o.turn to))
    at d false e = ap are_in_turn (tasks-quiet d 1 (command.Settle to number outcome) h (prescribed (deeds r h) d) e refl) ∙ o.turn d

tried : (n r to number : ℕ) (h : History) → 1 ≤ number → refusal n r h (command.Attempt to number) ≡ None → IsOrderly r h
    → IsOrderly r (command.Attempt to number ∷ h)
tried n r to number h above accepted o = record {
  ahead = ahead-kept h (deeds r h) (command.Attempt to number) (deed r h (deeds r h) (command.Attempt to number)) next.within o.ahead;
  turn = λ d. ap (λ (l : List Carried). are_in_turn (tasks_from (command.Attempt to number ∷ h) d 1 l)) (append-nil (prescribed (deeds r h) d))
      ∙ at d (to == d) refl;
}
  where
    next : IsNext h (deeds r h) to number
    next = next-is h (deeds r h) to number above (accepted-next n to number (next_task h (deeds r h) to) accepted)

    at : (d : ℕ) (t : Bool) → (to == d) ≡ t → are_in_turn (tasks_from (command.Attempt to number ∷ h) d 1 (prescribed (deeds r h) d)) ≡ true
    at d true e = subst (λ (x : ℕ). are_in_turn (tasks_from (command.Attempt to number ∷ h) x 1 (prescribed (deeds r h) x)) ≡ true) (eqb-true to d e)
        (ap are_in_turn (tasks-tried to number h (prescribed (deeds r h) to) next.pending next.first)
        ∙ turn-kept one_attempt_more (tasks_to h (deeds r h) to) (o.turn to))
    at d false e = ap are_in_turn (tasks-quiet d 1 (command.Attempt to number) h (prescribed (deeds r h) d) refl e) ∙ o.turn d

one-more : (n r : ℕ) (c : Command) (h : History) → IsCommand c → refusal n r h c ≡ None → IsOrderly r h → IsOrderly r (c ∷ h)
one-more n r (command.Settle to number outcome) h fits accepted o = settled n r to number outcome h fits.above accepted o
one-more n r (command.Attempt to number) h fits accepted o = tried n r to number h fits.above accepted o
one-more n r c h fits accepted o = quiet r c h (record { settles = λ d. refl; tries = λ d. refl }) tt o

pub orderly : (n r : ℕ) (h : History) → IsLawful n r h → IsOrderly r h
orderly n r [] lawful = record { ahead = none_at_first; turn = λ d. refl }
orderly n r (c ∷ h) lawful = one-more n r c h lawful.0 lawful.1 (orderly n r h lawful.2)
