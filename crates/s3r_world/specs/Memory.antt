-- What a world in memory shows.
use Rattle.std.specs.Prelude.{◌≡◌, ◌⊎◌, ℕ, ◌<◌, ◌≤◌, IsTrue, List, map, drop, reverse, Vec, Some, Result, IsErr, OnErr, vec_len}
use Rattle.std.specs.declared.alloc.Global.{Global}
use Rattle.s3r_world.specs.declared.disk.Event.{Event}
use Rattle.s3r_world.specs.declared.plan.FaultPlan.{FaultPlan}
use Rattle.s3r_world.specs.declared.world.Side.{Side}
use Rattle.s3r_world.specs.declared.memory.MemoryWorld.{MemoryWorld}
use Rattle.s3r_world.specs.Image.{Image, OnVolume, Reached, Follows}
use Rattle.s3r_world.specs.Outside.{Shape, KeepsShape, Counts, HasRisen, Outside, Elapses, KeepsInput}
use Rattle.s3r_world.specs.Counting.{most_counted, counts_of, IsFaultless, SameCounts}
use Rattle.s3r_world.specs.Events.{outside_after}
use Rattle.s3r_world.specs.Planned.{is_planned, after_call, nothing_planned}

-- what was done to its volumes and its output, the newest first
abbrev pub story_of : MemoryWorld → List Event
story_of w = reverse w.disk.events.items

-- the bytes of its current input that haven't been taken
abbrev pub input_of : MemoryWorld → List ℕ
input_of w = drop w.lines.taken w.lines.input.items

-- the inputs of the connections still to come
abbrev pub connections_of : MemoryWorld → List (List ℕ)
connections_of w = map (λ (v : Vec ℕ Global). v.items) w.lines.connections.items

-- all that it holds
abbrev pub outside_of : MemoryWorld → Outside
outside_of w = outside_after (story_of w) (input_of w) (connections_of w)

abbrev pub shape_of : MemoryWorld → Shape
shape_of w = record { volumes = vec_len w.disk.volumes; room = λ _. w.room }

-- how often each side has failed
abbrev pub faults_of : MemoryWorld → Counts
faults_of w = counts_of w.counts

-- which of its calls are to fail, and how many there were
abbrev pub plan_of : MemoryWorld → FaultPlan
plan_of w = w.plan

-- how many calls of the trait there were, but for `volumes` and `room`. It stays at 2^64 - 1
abbrev pub calls_of : MemoryWorld → ℕ
calls_of w = w.plan.calls

-- how often a call found no memory. It stays at 2^64 - 1, as the counts of failures do
abbrev pub starved_of : MemoryWorld → ℕ
starved_of w = w.starved

-- how many bytes of the input are taken at most at a time
abbrev pub piece_of : MemoryWorld → ℕ
piece_of w = w.lines.piece

-- no call has been made, none is to fail, and none has failed
pub record IsNew (w : MemoryWorld) : Type 0 where
  pub plan : plan_of w ≡ nothing_planned
  pub starved : starved_of w ≡ 0
  pub faults : IsFaultless (faults_of w)

-- the same but for the plan
abbrev pub with_plan : FaultPlan → MemoryWorld → MemoryWorld
with_plan plan w = record w { plan = plan }

-- Nothing is another but the volumes' bytes, the output, and how many bytes of the input are taken at a time.
pub record KeepsRest (old new : MemoryWorld) : Type 0 where
  pub shape : KeepsShape (shape_of old) (shape_of new)
  pub input : KeepsInput (outside_of old) (outside_of new)
  pub plan : plan_of new ≡ plan_of old
  pub starved : starved_of new ≡ starved_of old
  pub faults : SameCounts (faults_of old) (faults_of new)

-- a volume is these bytes, and a crash leaves it so
pub record Places (v : ℕ) (bytes : List ℕ) (old new : Outside) : Type 0 where
  pub as_read : OnVolume v (λ _ now. now ≡ bytes) old.as_read new.as_read
  pub images : Follows (OnVolume v (λ _ now. now ≡ bytes)) old.images new.images
  pub time : Elapses old new (Reached (OnVolume v (λ _ now. now ≡ bytes)) old.images)
  pub input : KeepsInput old new

-- A call of a side is counted. It fails where that is planned, and besides only where no memory was found.
pub record Plays {T E : Type 0} (side : Side) (result : Result T E) (old new : MemoryWorld) : Type 0 where
  pub plan : plan_of new ≡ after_call side (plan_of old)
  pub planned : IsTrue (is_planned (plan_of old) side) → IsErr result
  pub other : OnErr result (IsTrue (is_planned (plan_of old) side) ⊎ HasRisen (Some most_counted) 1 (starved_of old) (starved_of new))
  pub starved : starved_of old ≤ starved_of new
  pub piece : piece_of new ≡ piece_of old

-- It holds one image, which a crash leaves as it is.
pub record HoldsOnly (c : Image) (w : MemoryWorld) : Type 0 where
  pub volume : (v : ℕ) → v < (shape_of w).volumes → (outside_of w).as_read.volume v ≡ c.volume v
  pub output : (outside_of w).as_read.output ≡ c.output
  pub stable : (d : Image) (v : ℕ) → (outside_of w).images d → d.volume v ≡ (outside_of w).as_read.volume v
