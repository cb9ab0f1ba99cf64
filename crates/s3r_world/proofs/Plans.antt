-- A plan by which nothing fails.
use Rattle.std.proofs.Common.{◌≡◌, ℕ, zero, suc, ◌-◌, ◌||◌, false, List, [], ◌∷◌, slice_index, slice_set, refl, arith}
use Rattle.s3r_world.specs.declared.plan.FaultPlan.{FaultPlan}
use Rattle.s3r_world.specs.declared.world.Side.{Side}
use Rattle.s3r_world.specs.declared.world.Side.TheVariants.{Volume, Input, Output, Door}
use Rattle.s3r_world.specs.Planned.{next_of, is_after, is_at, after_call, IsQuiet}

-- zeros with one place made 0 are zeros
zeros_set : (xs : List ℕ) (v c u : ℕ) → c ≡ 0 → ((k : ℕ) → slice_index xs k ≡ 0) → slice_index (slice_set xs v c) u ≡ 0
zeros_set [] v c u is zeros = refl
zeros_set (x ∷ xs) zero c zero is zeros = is
zeros_set (x ∷ xs) zero c (suc u) is zeros = zeros (suc u)
zeros_set (x ∷ xs) (suc v) c zero is zeros = zeros zero
zeros_set (x ∷ xs) (suc v) c (suc u) is zeros = zeros_set xs v c u is (λ k. zeros (suc k))

pub quiet_chosen : (plan : FaultPlan) (call : ℕ) → IsQuiet plan → (is_after plan.stop call || is_at plan.once call) ≡ false
quiet_chosen plan call quiet = λ i. is_after (quiet.stop i) call || is_at (quiet.once i) call

none_left : (n : ℕ) → n ≡ 0 → n - 1 ≡ 0
none_left n is = omega (arith, is)

quiet_next : (plan : FaultPlan) (made side : Side) → IsQuiet plan → next_of (after_call made plan) side ≡ 0
quiet_next plan (Volume v) (Volume u) quiet = zeros_set plan.volumes v _ u (none_left _ (quiet.next (Volume v))) (λ k. quiet.next (Volume k))
quiet_next plan (Volume v) Input quiet = quiet.next Input
quiet_next plan (Volume v) Output quiet = quiet.next Output
quiet_next plan (Volume v) Door quiet = quiet.next Door
quiet_next plan Input (Volume u) quiet = quiet.next (Volume u)
quiet_next plan Input Input quiet = none_left _ (quiet.next Input)
quiet_next plan Input Output quiet = quiet.next Output
quiet_next plan Input Door quiet = quiet.next Door
quiet_next plan Output (Volume u) quiet = quiet.next (Volume u)
quiet_next plan Output Input quiet = quiet.next Input
quiet_next plan Output Output quiet = none_left _ (quiet.next Output)
quiet_next plan Output Door quiet = quiet.next Door
quiet_next plan Door (Volume u) quiet = quiet.next (Volume u)
quiet_next plan Door Input quiet = quiet.next Input
quiet_next plan Door Output quiet = quiet.next Output
quiet_next plan Door Door quiet = none_left _ (quiet.next Door)

same_stop : (plan : FaultPlan) (made : Side) → (after_call made plan).stop ≡ plan.stop
same_stop plan (Volume v) = refl
same_stop plan Input = refl
same_stop plan Output = refl
same_stop plan Door = refl

same_once : (plan : FaultPlan) (made : Side) → (after_call made plan).once ≡ plan.once
same_once plan (Volume v) = refl
same_once plan Input = refl
same_once plan Output = refl
same_once plan Door = refl

pub quiet_after : (plan : FaultPlan) (made : Side) → IsQuiet plan → IsQuiet (after_call made plan)
quiet_after plan made quiet = record {
  next = λ side. quiet_next plan made side quiet;
  stop = rw (same_stop plan made) quiet.stop;
  once = rw (same_once plan made) quiet.once;
}
