-- How the failures of a world are counted.
use Rattle.std.specs.Prelude.{◌≡◌, ℕ, ◌-◌, ◌^◌, Some, slice_index}
use Rattle.s3r_world.specs.declared.counters.Counters.{Counters}
use Rattle.s3r_world.specs.Outside.{Counts}

-- the number at which a counter stays
abbrev pub most_counted : ℕ
most_counted = 2 ^ 64 - 1

-- how often each side has failed, by a world's counters
abbrev pub counts_of : Counters → Counts
counts_of c = record { volume = λ v. slice_index c.volumes.items v; input = c.input; output = c.output; door = c.door; most = Some most_counted }

-- no side has failed
pub record IsFaultless (counts : Counts) : Type 0 where
  pub volume : (v : ℕ) → counts.volume v ≡ 0
  pub input : counts.input ≡ 0
  pub output : counts.output ≡ 0
  pub door : counts.door ≡ 0

-- no side has failed since
pub record SameCounts (old new : Counts) : Type 0 where
  pub volume : (v : ℕ) → new.volume v ≡ old.volume v
  pub input : new.input ≡ old.input
  pub output : new.output ≡ old.output
  pub door : new.door ≡ old.door
