-- Which calls of a world in memory are to fail.
use Rattle.std.specs.Prelude.{◌≡◌, ℕ, ◌+◌, ◌-◌, ◌^◌, min, nat_lt, ◌==◌, ◌||◌, Bool, false, [], ◌∷◌, Option, Some, None, slice_index, slice_set}
use Rattle.s3r_world.specs.declared.plan.FaultPlan.{FaultPlan}
use Rattle.s3r_world.specs.declared.world.Side.{Side}
use Rattle.s3r_world.specs.declared.world.Side.TheVariants.{Volume, Input, Output, Door}

-- no call has been made, and none is to fail
abbrev pub nothing_planned : FaultPlan
nothing_planned = record {
  volumes = 0 ∷ 0 ∷ 0 ∷ 0 ∷ 0 ∷ 0 ∷ 0 ∷ 0 ∷ [];
  input = 0;
  output = 0;
  door = 0;
  stop = None;
  once = None;
  calls = 0;
}

-- so many of a side's next calls are to fail
abbrev pub next_of : FaultPlan → Side → ℕ
next_of plan (Volume v) = slice_index plan.volumes v
next_of plan Input = plan.input
next_of plan Output = plan.output
next_of plan Door = plan.door

-- the number of the next call, counted from 1. It stays at 2^64 - 1
abbrev pub number_of : FaultPlan → ℕ
number_of plan = min (plan.calls + 1) (2 ^ 64 - 1)

abbrev pub is_after : Option ℕ → ℕ → Bool
is_after None call = false
is_after (Some last) call = nat_lt last call

abbrev pub is_at : Option ℕ → ℕ → Bool
is_at None call = false
is_at (Some one) call = call == one

-- whether the next call, where it is one of this side, is to fail
abbrev pub is_planned : FaultPlan → Side → Bool
is_planned plan side = nat_lt 0 (next_of plan side) || (is_after plan.stop (number_of plan) || is_at plan.once (number_of plan))

-- so many of a side's next calls are to fail. Of a volume that cannot be, nothing is planned
abbrev pub with_next : Side → ℕ → FaultPlan → FaultPlan
with_next (Volume v) count plan = record plan { volumes = slice_set plan.volumes v count }
with_next Input count plan = record plan { input = count }
with_next Output count plan = record plan { output = count }
with_next Door count plan = record plan { door = count }

-- every call after so many is to fail
abbrev pub with_stop : ℕ → FaultPlan → FaultPlan
with_stop call plan = record plan { stop = Some call }

-- the one call with this number is to fail
abbrev pub with_one : ℕ → FaultPlan → FaultPlan
with_one call plan = record plan { once = Some call }

-- A call of a side was made. Where some of its next calls were to fail, it was one of them.
abbrev pub after_call : Side → FaultPlan → FaultPlan
after_call side plan = with_next side (next_of plan side - 1) (record plan { calls = number_of plan })

-- no failure is planned
pub record IsQuiet (plan : FaultPlan) : Type 0 where
  pub next : (side : Side) → next_of plan side ≡ 0
  pub stop : plan.stop ≡ None
  pub once : plan.once ≡ None
