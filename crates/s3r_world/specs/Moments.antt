-- How a run of calls goes on.
use Rattle.std.specs.Prelude.{ℕ, ◌+◌, ◌≤◌, List, Option, Some, None}
use Rattle.std.proofs.Common.{inl, inr, ⊎_elim, ◌∙◌, subst, arith}
use Rattle.s3r_world.specs.Image.{Image, OnVolume, Reached, Follows}
use Rattle.s3r_world.specs.declared.world.Side.{Side}
use Rattle.s3r_world.specs.declared.world.Side.TheVariants as side
use Rattle.s3r_world.specs.Outside.{Shape, KeepsShape, Counts, count_of, NoneFalls, HasRisen, Rises, Outside, Elapses, KeepsInput, KeepsVolumes, Looks}

-- before the first call
pub elapses_none : (w : Outside) (P : Image → Type 0) → Elapses w w P
elapses_none w P = record { later = omega arith; each = λ t c le left. inl left; keeps = λ t c le left. left }

-- one call after another
pub elapses_then : (a b d : Outside) (P : Image → Type 0) → Elapses a b P → Elapses b d P → Elapses a d P
elapses_then a b d P first second = record {
  later = omega (arith, first.later, second.later);
  each = λ t c le left. ⊎_elim (first.each t c le) (λ p. inr p) (second.each t c (omega (arith, le, first.later)) left);
  keeps = λ t c le left. second.keeps t c (omega (arith, le, first.later)) (first.keeps t c le left);
}

pub elapses_weaker : (a b : Outside) (P Q : Image → Type 0) → Elapses a b P → ((c : Image) → P c → Q c) → Elapses a b Q
elapses_weaker a b P Q time from = record {
  later = time.later;
  each = λ t c le left. ⊎_elim (λ was. inl was) (λ p. inr (from c p)) (time.each t c le left);
  keeps = time.keeps;
}

-- each image at each moment from a to b, where those at a have P and since a no other stands
pub elapses_all : (a b : Outside) (P : Image → Type 0) → Elapses a b P → ((c : Image) → a.since a.moment c → P c) → (c : Image) → b.since a.moment c → P c
elapses_all a b P time start c left = ⊎_elim (start c) (λ p. p) (time.each a.moment c (omega arith) left)

-- what held of each image at a, and a step that may come from each, leads to what holds since
pub elapses_from : (a b : Outside) (step : Image → Image → Type 0) (J P : Image → Type 0) → Elapses a b (Reached step a.images)
    → ((d : Image) → a.images d → J d) → ((d c : Image) → J d → step d c → P c) → Elapses a b P
elapses_from a b step J P time held lead = elapses_weaker a b _ P time (λ c from. lead from.0 c (held from.0 from.1) from.2)

-- and leads to what holds of each image at b
pub follows_from : (a b : Outside) (step : Image → Image → Type 0) (J P : Image → Type 0) → Follows step a.images b.images → ((d : Image) → a.images d → J d)
    → ((d c : Image) → J d → step d c → P c) → (c : Image) → b.images c → P c
follows_from a b step J P follows held lead c now = let from = follows c now in lead from.0 c (held from.0 from.1) from.2

-- one step on a volume after another
pub on_then : (v : ℕ) (R S T : List ℕ → List ℕ → Type 0) (a b d : Image)
    → (R (a.volume v) (b.volume v) → S (b.volume v) (d.volume v) → T (a.volume v) (d.volume v)) → OnVolume v R a b → OnVolume v S b d → OnVolume v T a d
on_then v R S T a b d step first second = record {
  here = step first.here second.here;
  elsewhere = λ u ne. second.elsewhere u ne ∙ first.elsewhere u ne;
  output = second.output ∙ first.output;
}

pub on_weaker : (v : ℕ) (R S : List ℕ → List ℕ → Type 0) (a b : Image) → (R (a.volume v) (b.volume v) → S (a.volume v) (b.volume v)) → OnVolume v R a b
    → OnVolume v S a b
on_weaker v R S a b step on = record { here = step on.here; elsewhere = on.elsewhere; output = on.output }

pub keeps_then : (a b d : Outside) → KeepsInput a b → KeepsInput b d → KeepsInput a d
keeps_then a b d first second = record { input = second.input ∙ first.input; connections = second.connections ∙ first.connections }

pub looks_then : (a b d : Outside) → Looks a b → Looks b d → Looks a d
looks_then a b d first second = record {
  as_read = second.as_read ∙ first.as_read;
  images = λ c now. first.images c (second.images c now);
  time = elapses_then a b d a.images first.time (elapses_weaker b d b.images a.images second.time first.images);
  input = keeps_then a b d first.input second.input;
}

pub shape_then : (a b d : Shape) → KeepsShape a b → KeepsShape b d → KeepsShape a d
shape_then a b d first second = record { volumes = second.volumes ∙ first.volumes; room = λ v. second.room v ∙ first.room v }

pub volumes_then : (a b d : Outside) → KeepsVolumes a b → KeepsVolumes b d → KeepsVolumes a d
volumes_then a b d first second = record {
  as_read = second.as_read ∙ first.as_read;
  images = λ c now. first.images c (second.images c now);
  time = elapses_then a b d a.images first.time (elapses_weaker b d b.images a.images second.time first.images);
}

pub falls_then : (a b d : Counts) → NoneFalls a b → NoneFalls b d → NoneFalls a d
falls_then a b d first second = record {
  most = second.most ∙ first.most;
  volume = λ u. omega (arith, first.volume u, second.volume u);
  input = omega (arith, first.input, second.input);
  output = omega (arith, first.output, second.output);
  door = omega (arith, first.door, second.door);
}

-- one side's count, where none has fallen
falls_at : (side : Side) (a b : Counts) → NoneFalls a b → count_of side a ≤ count_of side b
falls_at (side.Volume v) a b falls = falls.volume v
falls_at side.Input a b falls = falls.input
falls_at side.Output a b falls = falls.output
falls_at side.Door a b falls = falls.door

-- a count hasn't fallen
risen_none : (most : Option ℕ) (a b : ℕ) → a ≤ b → HasRisen most 0 a b
risen_none None a b le = omega (arith, le)
risen_none (Some most) a b le = omega (arith, le)

-- it has risen, and hasn't fallen since or before
risen_before : (most : Option ℕ) (by a b c : ℕ) → HasRisen most by a b → b ≤ c → HasRisen most by a c
risen_before None by a b c rises le = omega (arith, rises, le)
risen_before (Some most) by a b c rises le = omega (arith, rises, le)

risen_after : (most : Option ℕ) (by a b c : ℕ) → a ≤ b → HasRisen most by b c → HasRisen most by a c
risen_after None by a b c le rises = omega (arith, le, rises)
risen_after (Some most) by a b c le rises = omega (arith, le, rises)

-- it has risen twice
risen_then : (most : Option ℕ) (m n a b c : ℕ) → HasRisen most m a b → HasRisen most n b c → HasRisen most (m + n) a c
risen_then None m n a b c first second = omega (arith, first, second)
risen_then (Some most) m n a b c first second = omega (arith, first, second)

-- no count has fallen
pub rises_none : (side : Side) (a b : Counts) → NoneFalls a b → Rises 0 side a b
rises_none side a b falls = risen_none a.most (count_of side a) (count_of side b) (falls_at side a b falls)

-- a side's count has risen, and none has fallen since or before
pub rises_before : (by : ℕ) (side : Side) (a b c : Counts) → Rises by side a b → NoneFalls b c → Rises by side a c
rises_before by side a b c rises falls = risen_before a.most by (count_of side a) (count_of side b) (count_of side c) rises (falls_at side b c falls)

pub rises_after : (by : ℕ) (side : Side) (a b c : Counts) → NoneFalls a b → Rises by side b c → Rises by side a c
rises_after by side a b c falls rises = risen_after a.most by (count_of side a) (count_of side b) (count_of side c) (falls_at side a b falls)
    (subst (λ (most : Option ℕ). HasRisen most by (count_of side b) (count_of side c)) falls.most rises)

-- a side's count has risen twice
pub rises_then : (m n : ℕ) (side : Side) (a b c : Counts) → NoneFalls a b → Rises m side a b → Rises n side b c → Rises (m + n) side a c
rises_then m n side a b c falls first second = risen_then a.most m n (count_of side a) (count_of side b) (count_of side c) first
    (subst (λ (most : Option ℕ). HasRisen most n (count_of side b) (count_of side c)) falls.most second)
