-- What a store that was read tells of its jobs, and of the next step among them.
use Rattle.std.proofs.Common.{◌≡◌, ℕ, ◌+◌, ◌<◌, ◌≤◌, ◌^◌, length, Option, Some, None, is_none, IsSome, IfSome, true, refl, sym, ◌∙◌, ap, arith}
use Rattle.std.specs.Prelude.{nat_le}
use Rattle.std.proofs.Math.Logic.{∥∥₁_elim}
use Rattle.std.proofs.Math.Bool.{Bool-set}
use Rattle.std.proofs.lemmas.Bool.Decides.{nat_tests}
use Rattle.s3r_jobs.specs.declared.turn.NextStep.{NextStep}
use Rattle.s3r_jobs.specs.declared.turn.NextStep.TheVariants as steps
use Rattle.s3r_jobs.specs.Jobs.{JobsFacts, find_job}
use Rattle.s3r_jobs.specs.Turn.{next_step}
use Rattle.s3r_record.specs.JobFields.{is_moved_to}
use Rattle.s3r_record.specs.Spelling.{IsCommand, IsJobId}
use Rattle.s3r_history.specs.declared.refusal.Refusal.{Refusal}
use Rattle.s3r_history.specs.Words.{History}
use Rattle.s3r_history.specs.Deeds.{deeds}
use Rattle.s3r_history.specs.Jobs.{jobs_at}
use Rattle.s3r_history.specs.Accepts.{first_of_causes, in_job, of_move, of_preparing, of_line, of_finish, refusal}
use Rattle.s3r_batches.specs.Turns.{step_after, command_of}
use Rattle.s3r_batches.specs.JobLaws.{StepsAreAccepted, StepsMeetLimits}
use Rattle.s3r_region.specs.Contents.{Contents}
use Rattle.s3r_store.specs.declared.store.Store.{Store}
use Rattle.s3r_store.specs.Knows.{IsStoreAfter}
use Rattle.s3r_store.specs.Stores.{state_of}
use Rattle.s3r_store.proofs.Lawful.{region-of, state-of, held-after, after-some}
use Rattle.s3r_desk.specs.JobTurns.{state_or_new, state_after}

-- ---- what holds by some history

le_some : (A : Type 0) (a b : ℕ) → ∥ A ∥₁ → (A → a ≤ b) → a ≤ b
le_some A a b some le = back (∥∥₁_elim some (Bool-set _ _) (λ x. there (le x)))
  where
    there : a ≤ b → nat_le a b ≡ true
    there le = grind (arith, nat_tests)

    back : nat_le a b ≡ true → a ≤ b
    back is = grind (arith, nat_tests)

id_some : (A : Type 0) (job : ℕ) → ∥ A ∥₁ → (A → IsJobId job) → IsJobId job
id_some A job some fits = record {
  above = le_some A 1 job some (λ x. (fits x).above);
  below = let le = le_some A (job + 1) (2 ^ 64) some (λ x. let lt = (fits x).below in omega (arith, lt)) in omega (arith, le);
}

fits_some : (A : Type 0) (step : NextStep) → ∥ A ∥₁ → (A → IsCommand (command_of step)) → IsCommand (command_of step)
fits_some A (steps.Finish job) some fits = (id_some A job some (λ x. (fits x).0), tt)
fits_some A (steps.Prepare job) some fits = id_some A job some fits
fits_some A (steps.Move job to) some fits = (id_some A job some (λ x. (fits x).0), ∥∥₁_elim some (Bool-set (is_moved_to to) true) (λ x. (fits x).1))
fits_some A (steps.Line job line) some fits = (
  id_some A job some (λ x. (fits x).0),
  le_some A 1 line some (λ x. (fits x).1),
  le_some A line 4294967295 some (λ x. (fits x).2),
)

-- ---- a step's refusal, by the jobs alone

abbrev refused_by : JobsFacts → NextStep → Option Refusal
refused_by jobs (steps.Finish job) = first_of_causes (in_job (of_finish None) (find_job job jobs))
refused_by jobs (steps.Prepare job) = first_of_causes (in_job of_preparing (find_job job jobs))
refused_by jobs (steps.Move job to) = first_of_causes (in_job (of_move jobs to) (find_job job jobs))
refused_by jobs (steps.Line job line) = first_of_causes (in_job (of_line line) (find_job job jobs))

refusal_is : (n r : ℕ) (h : History) (step : NextStep) → refusal n r h (command_of step) ≡ refused_by (jobs_at (deeds r h)) step
refusal_is n r h (steps.Finish job) = refl
refusal_is n r h (steps.Prepare job) = refl
refusal_is n r h (steps.Move job to) = refl
refusal_is n r h (steps.Line job line) = refl

none_of : (o : Option Refusal) → is_none o ≡ true → o ≡ None
none_of None is = refl
none_of (Some why) is = absurd cc

-- ---- a store that was read

module _ (store : Store) (s : Contents) (is : Some s ≡ state_of store) where
  pub jobs_are : (h : History) → IsStoreAfter store h → s.jobs.jobs ≡ jobs_at (deeds store.v h)
  jobs_are h after =
      let at = state-of store s is in
      ap (λ (c : Contents). c.jobs.jobs) at.2 ∙ (held-after store at.0 h at.1 after).jobs.0
      ∙ ap (λ (v : ℕ). jobs_at (deeds v h)) (region-of store.regions store.v at.0 (store.lawful at.0 at.1))

  pub step_is : (h : History) → IsStoreAfter store h → step_after store.v h ≡ next_step s.jobs.jobs.live
  step_is h after = ap (λ (jobs : JobsFacts). next_step jobs.live) (sym (jobs_are h after))

  pub state_is : (job : ℕ) (h : History) → IsStoreAfter store h → state_or_new (find_job job s.jobs.jobs) ≡ state_after store.v h job
  state_is job h after = ap (λ (jobs : JobsFacts). state_or_new (find_job job jobs)) (jobs_are h after)

  commands_are : (h : History) → IsStoreAfter store h → s.commands ≡ length h
  commands_are h after =
      let at = state-of store s is in ap (λ (c : Contents). c.commands) at.2 ∙ (held-after store at.0 h at.1 after).commands

  module _ (read : IsSome store.held) (step : NextStep) (next : next_step s.jobs.jobs.live ≡ Some step) where
    step_accepted : StepsAreAccepted → (h : History) → IsStoreAfter store h → refusal store.regions store.v h (command_of step) ≡ None
    step_accepted law h after = by_jobs h after ∙ none_of (refused_by s.jobs.jobs step)
        (∥∥₁_elim (after-some store read) (Bool-set _ _)
        (λ l. ap is_none (sym (by_jobs l.0 l.1) ∙ law store.regions store.v l.0 step l.2 (step_is l.0 l.1 ∙ next))))
      where
        by_jobs : (h : History) → IsStoreAfter store h → refusal store.regions store.v h (command_of step) ≡ refused_by s.jobs.jobs step
        by_jobs h after = refusal_is store.regions store.v h step ∙ ap (λ (jobs : JobsFacts). refused_by jobs step) (sym (jobs_are h after))

    step_fits : s.commands < 2 ^ 64 → StepsMeetLimits → IsCommand (command_of step)
    step_fits few law = fits_some _ step (after-some store read)
        (λ l. law store.regions store.v l.0 step l.2 (let same = commands_are l.0 l.1 in omega (arith, few, same)) (step_is l.0 l.1 ∙ next))

  -- so it is of the next step, where there is one
  module _ (read : IsSome store.held) where
    pub next_accepted : (o : Option NextStep) → next_step s.jobs.jobs.live ≡ o → StepsAreAccepted
        → IfSome o (λ step. (h : History) → IsStoreAfter store h → refusal store.regions store.v h (command_of step) ≡ None)
    next_accepted None next law = tt
    next_accepted (Some step) next law = step_accepted read step next law

    pub next_fits : (o : Option NextStep) → next_step s.jobs.jobs.live ≡ o → s.commands < 2 ^ 64 → StepsMeetLimits
        → IfSome o (λ step. IsCommand (command_of step))
    next_fits None next few law = tt
    next_fits (Some step) next few law = step_fits read step next few law
