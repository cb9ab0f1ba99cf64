-- What a list of events, the newest first, has left: what reads give, and what a crash may leave.
use Rattle.std.specs.Prelude.{◌≡◌, ◌⊎◌, ℕ, zero, suc, ◌+◌, ◌<◌, ◌≤◌, ◌==◌, nat_le, if◌then◌else◌, true, false, List, [], ◌∷◌, ◌++◌, length, take, drop, replicate, Vec}
use Rattle.std.specs.declared.alloc.Global.{Global}
use Rattle.s3r_world.specs.declared.disk.Event.{Event}
use Rattle.s3r_world.specs.declared.disk.Event.TheVariants.{Placed, Wrote, Synced, Put}
use Rattle.s3r_world.specs.declared.replay.Pick.{Pick}
use Rattle.s3r_world.specs.declared.replay.Pick.TheVariants.{AsRead, Stable, Torn as Fill}
use Rattle.s3r_world.specs.Image.{Image, Torn, OnVolume, Puts, Reached}
use Rattle.s3r_world.specs.Outside.{Outside}

-- a volume's bytes after a write, which is at most at its end
abbrev pub written : ℕ → List ℕ → List ℕ → List ℕ
written at bytes old = if nat_le at (length old) then take at old ++ bytes ++ drop (at + length bytes) old else old

abbrev pub with_volume : Image → ℕ → List ℕ → Image
with_volume i v bytes = record { volume = λ u. if u == v then bytes else i.volume u; output = i.output }

-- no volume has bytes, and nothing has been put out
abbrev pub blank : Image
blank = record { volume = λ _. []; output = [] }

-- what reads give, and what has been put out
abbrev pub reads_of : List Event → Image
reads_of [] = blank
reads_of (Placed v bytes ∷ past) = with_volume (reads_of past) v bytes.items
reads_of (Wrote v at bytes true ∷ past) = with_volume (reads_of past) v (written at bytes.items ((reads_of past).volume v))
reads_of (Wrote v at bytes false ∷ past) = reads_of past
reads_of (Synced v ∷ past) = reads_of past
reads_of (Put bytes ∷ past) = record { volume = (reads_of past).volume; output = (reads_of past).output ++ bytes.items }

-- what a crash now may leave
abbrev pub images_of : List Event → Image → Type 0
images_of [] c = c ≡ blank
images_of (Placed v bytes ∷ past) c = Reached (OnVolume v (λ _ new. new ≡ bytes.items)) (images_of past) c
images_of (Wrote v at bytes done ∷ past) c = Reached (OnVolume v (Torn at (length bytes.items))) (images_of past) c
images_of (Synced v ∷ past) c = images_of past c × (c.volume v ≡ (reads_of past).volume v)
images_of (Put bytes ∷ past) c = Reached (Puts bytes.items) (images_of past) c

-- what reads give of a volume after an event, from what they gave before
abbrev pub read_after : ℕ → Event → List ℕ → List ℕ
read_after v (Placed u bytes) read = if v == u then bytes.items else read
read_after v (Wrote u at bytes true) read = if v == u then written at bytes.items read else read
read_after v (Wrote u at bytes false) read = read
read_after v (Synced u) read = read
read_after v (Put bytes) read = read

-- what a pick leaves of the bytes of a write
abbrev pub left_of_write : Pick → ℕ → List ℕ → List ℕ → List ℕ
left_of_write AsRead at bytes left = written at bytes left
left_of_write Stable at bytes left = left
left_of_write (Fill byte) at bytes left = written at (replicate (length bytes) byte) left

-- what a pick leaves of a volume after an event, from what reads gave and what it left before
abbrev pub left_after : Pick → ℕ → Event → List ℕ → List ℕ → List ℕ
left_after pick v (Placed u bytes) read left = if v == u then bytes.items else left
left_after pick v (Wrote u at bytes true) read left = if v == u then left_of_write pick at bytes.items left else left
left_after pick v (Wrote u at bytes false) read left = left
left_after pick v (Synced u) read left = if v == u then read else left
left_after pick v (Put bytes) read left = left

abbrev pub left_of : Pick → List Event → ℕ → List ℕ
left_of pick [] v = []
left_of pick (e ∷ past) v = left_after pick v e ((reads_of past).volume v) (left_of pick past v)

-- The image that a pick leaves: what reads give, or what was stable last, or with each range that was written since
-- filled with a byte. A write that failed leaves all as it was.
abbrev pub picked : Pick → List Event → Image
picked pick story = record { volume = left_of pick story; output = (reads_of story).output }

-- the same output, and the same volumes below so many
pub record AgreesBelow (volumes : ℕ) (i j : Image) : Type 0 where
  pub volume : (v : ℕ) → v < volumes → i.volume v ≡ j.volume v
  pub output : i.output ≡ j.output

-- a crash leaves what reads give
abbrev pub IsSettled : List Event → Type 0
IsSettled story = (c : Image) (v : ℕ) → images_of story c → c.volume v ≡ (reads_of story).volume v

-- what a crash might have left at some moment since there were t events
abbrev pub since_of : List Event → ℕ → Image → Type 0
since_of [] t c = images_of [] c
since_of (e ∷ past) t c = images_of (e ∷ past) c ⊎ ((t ≤ length past) × since_of past t c)

abbrev pub outside_after : List Event → List ℕ → List (List ℕ) → Outside
outside_after story input connections = record {
  as_read = reads_of story;
  images = images_of story;
  moment = length story;
  since = since_of story;
  input = input;
  connections = connections;
}

-- the bytes of a volume, none where there is no such volume
abbrev pub bytes_of : List (Vec ℕ Global) → ℕ → List ℕ
bytes_of [] v = []
bytes_of (x ∷ xs) zero = x.items
bytes_of (x ∷ xs) (suc v) = bytes_of xs v
