-- All pairs were compared, and then the step was made.
use Rattle.std.proofs.Common.{◌≡◌, ℕ, List, [], length, Option, Some, None, Result, Err, refl, sym, subst}
use Rattle.s3r_world.specs.Outside.{Outside, Counts}
use Rattle.s3r_store.specs.declared.store.Store.{Store}
use Rattle.s3r_desk.specs.declared.fault.DeskFault.{DeskFault}
use Rattle.s3r_desk.specs.declared.fault.DeskFault.TheVariants as faults
use Rattle.s3r_desk.specs.declared.request.Request.{Request}
use Rattle.s3r_desk.specs.declared.request.Answer.{Answer}
use Rattle.s3r_desk.specs.Events.{Events, history_at}
use Rattle.s3r_desk.specs.Steps.{step}
use Rattle.s3r_desk.specs.Comparing.{disagreement}
use Rattle.s3r_desk.specs.Keeping.{Keeps}
use Rattle.s3r_desk.specs.Responds.{StepsUnless, Came, Answers, HasCause}
use Rattle.s3r_desk.proofs.Stepping.{looks_none, happens_none}
use Rattle.s3r_desk.proofs.Disagreeing.{IsDisagreement}

module _ (before : Events) (request : Request) (room : ℕ → ℕ) (a b : List Store) (old new : Outside) where
  -- no pair disagrees
  pub answers_stepped : (result : Result Answer DeskFault) → disagreement (length a) (history_at before) ≡ None
      → Came before (step (length a) (history_at before) request) result room a b old new → Answers before request result room a b old new
  answers_stepped result none did = record {
    rest = did.rest;
    steps = subst (λ (o : Option DeskFault). StepsUnless o (length a) room (history_at before) request did.rest result) (sym none) did.comes;
    keeps = did.keeps;
    happens = did.happens;
  }

-- a pair disagrees, and nothing is done
pub answers_told : (before : Events) (request : Request) (room : ℕ → ℕ) (a : List Store) (w : Outside) (fault : DeskFault)
    → disagreement (length a) (history_at before) ≡ Some fault → Keeps before a w → Answers before request (Err fault) room a a w w
answers_told before request room a w fault is keeps = record {
  rest = [];
  steps = subst (λ (o : Option DeskFault). StepsUnless o (length a) room (history_at before) request [] (Err fault)) (sym is) (refl, refl);
  keeps = keeps;
  happens = happens_none (length a) w w (looks_none w);
}

pub told_cause : (n : ℕ) (e : DeskFault) (old new : Counts) → IsDisagreement e → HasCause {A = Answer} n (Err e) old new
told_cause n (faults.Volume v) old new is = absurd is
told_cause n (faults.Full v) old new is = absurd is
told_cause n (faults.Damaged v offset) old new is = absurd is
told_cause n (faults.Disagree from to sent last settled received) old new is = tt
told_cause n faults.OutOfMemory old new is = absurd is
