-- A turn of a region's jobs that a request asks for: in a region that is there, or refused.
use Rattle.std.proofs.Common.{◌≡◌, ℕ, ◌+◌, nat_lt, Bool, true, false, List, [], length, Result, Ok, Err, refl, sym, subst}
use Rattle.s3r_world.specs.declared.world.Side.TheVariants as side
use Rattle.s3r_world.specs.Outside.{Outside, Counts, NoneFalls, Rises}
use Rattle.s3r_world.specs.Moments.{rises_none}
use Rattle.s3r_history.specs.Words.{History}
use Rattle.s3r_history.specs.declared.refusal.Refusal.TheVariants as refusals
use Rattle.s3r_store.specs.declared.store.Store.{Store}
use Rattle.s3r_desk.specs.declared.fault.DeskFault.{DeskFault}
use Rattle.s3r_desk.specs.declared.job_outcome.JobOutcome.{JobOutcome}
use Rattle.s3r_desk.specs.declared.request.Answer.{Answer}
use Rattle.s3r_desk.specs.declared.request.Answer.TheVariants as answer
use Rattle.s3r_desk.specs.Events.{Events}
use Rattle.s3r_desk.specs.Keeping.{Keeps}
use Rattle.s3r_desk.specs.Copying.{attempts_about, fails_at}
use Rattle.s3r_desk.specs.Responds.{stepped, IsStepped}
use Rattle.s3r_desk.specs.Happened.{Happened, JobsStep, StepsJobs}
use Rattle.s3r_desk.proofs.CopyCounts.{fails_same}
use Rattle.s3r_desk.proofs.CopyTurning.{happened_as, happened_none}

fails_as_answer : (v : ℕ) (outcome : Result JobOutcome DeskFault) → fails_at v (stepped outcome) ≡ fails_at v outcome
fails_as_answer v (Ok outcome) = refl
fails_as_answer v (Err fault) = fails_same Answer JobOutcome v fault

module _ (room : ℕ → ℕ) (r : ℕ) (before : Events) (a : List Store) (w : Outside) (P : ℕ → History → Type 0) (f g : Counts) where
  -- the region is there
  pub stepped_there : nat_lt r (length a) ≡ true → (b : List Store) (x : Outside) (outcome : Result JobOutcome DeskFault)
      → Happened (JobsStep P (length a) room r before outcome f g) before a b w x
      → Happened (StepsJobs P (length a) room r before (stepped outcome) f g) before a b w x
  stepped_there here b x outcome p =
      happened_as (JobsStep P (length a) room r before outcome f g) (StepsJobs P (length a) room r before (stepped outcome) f g) before a b w x p (record {
        turn = subst (λ (t : Bool). IsStepped P (length a) room r before (stepped outcome) p.events t) (sym here) (outcome, refl, p.such.turn);
        counted = λ v. subst (λ (n : ℕ). Rises (attempts_about v p.events + n) (side.Volume v) f g) (sym (fails_as_answer v outcome)) (p.such.counted v);
      })

  -- it isn't
  pub refused_there : nat_lt r (length a) ≡ false → NoneFalls f g → Keeps before a w
      → Happened (StepsJobs P (length a) room r before (Ok (answer.Refused refusals.InvalidArgument)) f g) before a a w w
  refused_there missing falls keeps =
      happened_none (StepsJobs P (length a) room r before (Ok (answer.Refused refusals.InvalidArgument)) f g) before a w keeps (record {
        turn = subst (λ (t : Bool). IsStepped P (length a) room r before (Ok (answer.Refused refusals.InvalidArgument)) [] t) (sym missing) (refl, refl);
        counted = λ v. rises_none (side.Volume v) f g falls;
      })
