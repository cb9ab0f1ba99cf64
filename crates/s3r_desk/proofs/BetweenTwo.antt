-- A turn of the copier that a request asks for: between two regions that are there, or refused.
use Rattle.std.proofs.Common.{◌≡◌, ℕ, ◌+◌, ◌&&◌, nat_lt, Bool, true, false, List, [], length, Result, Ok, Err, refl, sym, subst, arith}
use Rattle.s3r_world.specs.declared.world.Side.TheVariants as side
use Rattle.s3r_world.specs.Outside.{Outside, Counts, NoneFalls, Rises}
use Rattle.s3r_world.specs.Moments.{rises_none, rises_after}
use Rattle.s3r_history.specs.Words.{History}
use Rattle.s3r_history.specs.declared.refusal.Refusal.TheVariants as refusals
use Rattle.s3r_store.specs.declared.store.Store.{Store}
use Rattle.s3r_desk.specs.declared.copy_outcome.CopyOutcome.{CopyOutcome}
use Rattle.s3r_desk.specs.declared.fault.DeskFault.{DeskFault}
use Rattle.s3r_desk.specs.declared.fault.DeskFault.TheVariants as faults
use Rattle.s3r_desk.specs.declared.request.Answer.{Answer}
use Rattle.s3r_desk.specs.declared.request.Answer.TheVariants as answer
use Rattle.s3r_desk.specs.Events.{Events}
use Rattle.s3r_desk.specs.Keeping.{Keeps}
use Rattle.s3r_desk.specs.Copying.{attempts_about, fails_at}
use Rattle.s3r_desk.specs.Responds.{copied, IsCopied, HasCause}
use Rattle.s3r_desk.specs.Happened.{Happened, Copies, CopiesBetween}
use Rattle.s3r_desk.proofs.CopyCounts.{fails_same}
use Rattle.s3r_desk.proofs.CopyTurning.{happened_as, happened_none}

-- ---- a cause, as another function tells it

-- told of another type
pub cause_as : (n : ℕ) (A B : Type 0) (e : DeskFault) (a b : Counts) → HasCause {A = A} n (Err e) a b → HasCause {A = B} n (Err e) a b
cause_as n A B (faults.Volume v) a b cause = cause
cause_as n A B (faults.Full v) a b cause = cause
cause_as n A B (faults.Damaged v offset) a b cause = cause
cause_as n A B (faults.Disagree from to sent last settled received) a b cause = tt
cause_as n A B faults.OutOfMemory a b cause = tt

-- counted since an earlier moment, where there are as many regions
pub cause_since : {A : Type 0} (m n : ℕ) (result : Result A DeskFault) (a b d : Counts) → m ≡ n → NoneFalls a b → HasCause m result b d → HasCause n result a d
cause_since m n (Ok x) a b d same falls cause = tt
cause_since m n (Err (faults.Volume v)) a b d same falls cause = (omega (arith, same, cause.0), rises_after 1 (side.Volume v) a b d falls cause.1)
cause_since m n (Err (faults.Full v)) a b d same falls cause = omega (arith, same, cause)
cause_since m n (Err (faults.Damaged v offset)) a b d same falls cause = omega (arith, same, cause)
cause_since m n (Err (faults.Disagree from to sent last settled received)) a b d same falls cause = tt
cause_since m n (Err faults.OutOfMemory) a b d same falls cause = tt

-- ---- what a turn came to, as its answer

fails_as_answer : (v : ℕ) (outcome : Result CopyOutcome DeskFault) → fails_at v (copied outcome) ≡ fails_at v outcome
fails_as_answer v (Ok outcome) = refl
fails_as_answer v (Err fault) = fails_same Answer CopyOutcome v fault

module _ (room : ℕ → ℕ) (s d : ℕ) (before : Events) (a : List Store) (w : Outside) where
  -- both regions are there
  module _ (here : (nat_lt s (length a) && nat_lt d (length a)) ≡ true) (b : List Store) (x : Outside) (P : ℕ → History → Type 0) (f g : Counts) where
    pub copied_between : (outcome : Result CopyOutcome DeskFault) → Happened (Copies P room s d before outcome f g) before a b w x
        → Happened (CopiesBetween P (length a) room s d before (copied outcome) f g) before a b w x
    copied_between outcome p =
        happened_as (Copies P room s d before outcome f g) (CopiesBetween P (length a) room s d before (copied outcome) f g) before a b w x p (record {
          turn = subst (λ (t : Bool). IsCopied P room s d before (copied outcome) p.events t) (sym here) (outcome, refl, p.such.turn);
          counted = λ v. subst (λ (n : ℕ). Rises (attempts_about v p.events + n) (side.Volume v) f g) (sym (fails_as_answer v outcome)) (p.such.counted v);
        })

  -- one isn't
  module _ (missing : (nat_lt s (length a) && nat_lt d (length a)) ≡ false) (P : ℕ → History → Type 0) (f g : Counts) (falls : NoneFalls f g) where
    pub refused_between : Keeps before a w
        → Happened (CopiesBetween P (length a) room s d before (Ok (answer.Refused refusals.InvalidArgument)) f g) before a a w w
    refused_between keeps =
        happened_none (CopiesBetween P (length a) room s d before (Ok (answer.Refused refusals.InvalidArgument)) f g) before a w keeps (record {
          turn = subst (λ (t : Bool). IsCopied P room s d before (Ok (answer.Refused refusals.InvalidArgument)) [] t) (sym missing) (refl, refl);
          counted = λ v. rises_none (side.Volume v) f g falls;
        })
