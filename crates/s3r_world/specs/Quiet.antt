-- A world in memory fails only where it is told to, or finds no memory.
use Rattle.std.specs.Prelude.{◌≡◌, ◌-◌, ◌≤◌, ◌<◌, ◌^◌, refl}
use Rattle.std.proofs.Common.{◌∙◌, arith}
use Rattle.s3r_world.specs.declared.memory.MemoryWorld.{MemoryWorld}
use Rattle.s3r_world.specs.Counting.{SameCounts}
use Rattle.s3r_world.specs.Planned.{IsQuiet}
use Rattle.s3r_world.specs.Memory.{plan_of, starved_of, faults_of}

-- Where no failure is planned and no want of memory was counted, none is planned afterwards and no count has risen.
pub record StaysQuiet (old new : MemoryWorld) : Type 0 where
  pub later : starved_of old ≤ starved_of new
  pub none : IsQuiet (plan_of old) → starved_of new ≡ starved_of old → starved_of new < 2 ^ 64 - 1 → IsQuiet (plan_of new)
      × SameCounts (faults_of old) (faults_of new)

pub quiet_none : (w : MemoryWorld) → StaysQuiet w w
quiet_none w = record { later = omega arith; none = λ quiet same few. (quiet, record { volume = λ v. refl; input = refl; output = refl; door = refl }) }

pub quiet_then : (a b d : MemoryWorld) → StaysQuiet a b → StaysQuiet b d → StaysQuiet a d
quiet_then a b d first second = record {
  later = omega (arith, first.later, second.later);
  none = λ quiet same few.
      let one = first.none quiet (omega (arith, first.later, second.later, same)) (omega (arith, second.later, few)) in
      let two = second.none one.0 (omega (arith, first.later, second.later, same)) few in (
        two.0,
        record {
          volume = λ v. two.1.volume v ∙ one.1.volume v;
          input = two.1.input ∙ one.1.input;
          output = two.1.output ∙ one.1.output;
          door = two.1.door ∙ one.1.door;
        },
      );
}
