-- What is known of a job by its state, and of a state by what it answers.
use Rattle.std.proofs.Common.{◌≡◌, ◌⊎◌, true, not, refl, inl, inr, ⊎_elim, subst}
use Rattle.s3r_jobs.specs.declared.state.JobState.{JobState}
use Rattle.s3r_jobs.specs.declared.state.JobState.TheVariants as states
use Rattle.s3r_jobs.specs.declared.token.LineTurn.{LineTurn}
use Rattle.s3r_jobs.specs.declared.token.LineTurn.TheVariants.{Free, Begun, Kept}
use Rattle.s3r_jobs.specs.Facts.{JobFacts}
use Rattle.s3r_jobs.specs.Lines.{is_free}
use Rattle.s3r_jobs.specs.Moves.{may_move}
use Rattle.s3r_jobs.specs.States.{is_unprepared, is_active, is_preparing, has_ended}
use Rattle.s3r_history.specs.Jobs.{state_ended}

abbrev pub Early : JobState → Type 0
Early state = (state ≡ states.New) ⊎ (state ≡ states.Preparing)

pub is_early : (state : JobState) → is_unprepared state ≡ true → Early state
is_early states.New is = inl refl
is_early states.Preparing is = inr refl
is_early states.Suspended is = absurd cc
is_early states.Ready is = absurd cc
is_early states.Active is = absurd cc
is_early states.Pausing is = absurd cc
is_early states.Paused is = absurd cc
is_early states.Cancelling is = absurd cc
is_early states.Failing is = absurd cc
is_early states.Complete is = absurd cc
is_early states.Cancelled is = absurd cc
is_early states.Failed is = absurd cc

pub not_to_new : (j : JobFacts) (from : JobState) → may_move j from states.New ≡ true → ⊥
not_to_new j states.New may = cc
not_to_new j states.Preparing may = cc
not_to_new j states.Suspended may = cc
not_to_new j states.Ready may = cc
not_to_new j states.Active may = cc
not_to_new j states.Pausing may = cc
not_to_new j states.Paused may = cc
not_to_new j states.Cancelling may = cc
not_to_new j states.Failing may = cc
not_to_new j states.Complete may = cc
not_to_new j states.Cancelled may = cc
not_to_new j states.Failed may = cc

pub from_new : (j : JobFacts) (from : JobState) → may_move j from states.Preparing ≡ true → is_unprepared from ≡ true
from_new j states.New may = refl
from_new j states.Preparing may = absurd cc
from_new j states.Suspended may = absurd cc
from_new j states.Ready may = absurd cc
from_new j states.Active may = absurd cc
from_new j states.Pausing may = absurd cc
from_new j states.Paused may = absurd cc
from_new j states.Cancelling may = absurd cc
from_new j states.Failing may = absurd cc
from_new j states.Complete may = absurd cc
from_new j states.Cancelled may = absurd cc
from_new j states.Failed may = absurd cc

-- a move to such a state is one from such a state
pub early_before : (j : JobFacts) (from to : JobState) → may_move j from to ≡ true → is_unprepared to ≡ true → is_unprepared from ≡ true
early_before j from to may un = ⊎_elim
    (λ is. absurd (not_to_new j from (subst (λ (s : JobState). may_move j from s ≡ true) is may)))
    (λ is. from_new j from (subst (λ (s : JobState). may_move j from s ≡ true) is may))
    (is_early to un)

pub not_ended : (to : JobState) → not (has_ended to) ≡ true → to ≡ states.Complete → ⊥
not_ended to left is = let no : not (has_ended states.Complete) ≡ true = subst (λ (s : JobState). not (has_ended s) ≡ true) is left in cc

-- an end isn't early, and where it is Complete the job was Active or so already
pub early_ended : (state : JobState) → is_unprepared (state_ended state) ≡ true → is_unprepared state ≡ true
early_ended states.New un = refl
early_ended states.Preparing un = refl
early_ended states.Suspended un = absurd cc
early_ended states.Ready un = absurd cc
early_ended states.Active un = absurd cc
early_ended states.Pausing un = absurd cc
early_ended states.Paused un = absurd cc
early_ended states.Cancelling un = absurd cc
early_ended states.Failing un = absurd cc
early_ended states.Complete un = absurd cc
early_ended states.Cancelled un = absurd cc
early_ended states.Failed un = absurd cc

pub whole_before : (state : JobState) → state_ended state ≡ states.Complete → (state ≡ states.Active) ⊎ (state ≡ states.Complete)
whole_before states.New is = absurd cc
whole_before states.Preparing is = absurd cc
whole_before states.Suspended is = absurd cc
whole_before states.Ready is = absurd cc
whole_before states.Active is = inl refl
whole_before states.Pausing is = absurd cc
whole_before states.Paused is = absurd cc
whole_before states.Cancelling is = absurd cc
whole_before states.Failing is = absurd cc
whole_before states.Complete is = inr refl
whole_before states.Cancelled is = absurd cc
whole_before states.Failed is = absurd cc

pub active_is : (state : JobState) → is_active state ≡ true → state ≡ states.Active
active_is states.New is = absurd cc
active_is states.Preparing is = absurd cc
active_is states.Suspended is = absurd cc
active_is states.Ready is = absurd cc
active_is states.Active is = refl
active_is states.Pausing is = absurd cc
active_is states.Paused is = absurd cc
active_is states.Cancelling is = absurd cc
active_is states.Failing is = absurd cc
active_is states.Complete is = absurd cc
active_is states.Cancelled is = absurd cc
active_is states.Failed is = absurd cc

pub preparing_is : (state : JobState) → is_preparing state ≡ true → is_unprepared state ≡ true
preparing_is states.New is = absurd cc
preparing_is states.Preparing is = refl
preparing_is states.Suspended is = absurd cc
preparing_is states.Ready is = absurd cc
preparing_is states.Active is = absurd cc
preparing_is states.Pausing is = absurd cc
preparing_is states.Paused is = absurd cc
preparing_is states.Cancelling is = absurd cc
preparing_is states.Failing is = absurd cc
preparing_is states.Complete is = absurd cc
preparing_is states.Cancelled is = absurd cc
preparing_is states.Failed is = absurd cc

pub free_is : (turn : LineTurn) → is_free turn ≡ true → turn ≡ Free
free_is Free is = refl
free_is Begun is = absurd cc
free_is Kept is = absurd cc
