-- A volume that a call leaves alone.
use Rattle.std.proofs.Common.{◌≢◌, Result, ℕ, ◌<◌, List, length, refl, sym, ◌∙◌, ap, subst}
use Rattle.s3r_world.specs.declared.world.OutputFault.{OutputFault}
use Rattle.s3r_world.specs.Image.{Image, OnVolume, Follows}
use Rattle.s3r_world.specs.Outside.{Outside, IsStable, Emits, Looks, KeepsVolumes}
use Rattle.s3r_journal.specs.Volume.{IsEmptyVolume}
use Rattle.s3r_journal.specs.Step.{IsReady, IsVacant}
use Rattle.s3r_journal.specs.Leaves.{Leaves}

-- a call on another volume
pub left_elsewhere : (v u : ℕ) (R S : List ℕ → List ℕ → Type 0) (a b : Outside) → u ≢ v → Follows (OnVolume v R) a.images b.images
    → OnVolume v S a.as_read b.as_read → Leaves u a b
left_elsewhere v u R S a b ne follows read = record {
  as_read = read.elsewhere u ne;
  images = λ c now. let from = follows c now in
      (from.0, from.1, from.2.elsewhere u ne);
}

-- bytes were put out
pub left_put : (u : ℕ) (bytes : List ℕ) (result : Result ℕ OutputFault) (a b : Outside) → Emits bytes result a b → Leaves u a b
left_put u bytes result a b put = record {
  as_read = put.as_read.volumes u;
  images = λ c now. let from = put.images c now in
      (from.0, from.1, from.2.volumes u);
}

-- no volume was written
pub left_keeps : (u : ℕ) (a b : Outside) → KeepsVolumes a b → Leaves u a b
left_keeps u a b keeps = record { as_read = ap (λ (i : Image). i.volume u) keeps.as_read; images = λ c now. (c, keeps.images c now, refl) }

pub left_looks : (u : ℕ) (a b : Outside) → Looks a b → Leaves u a b
left_looks u a b looks = record { as_read = ap (λ (i : Image). i.volume u) looks.as_read; images = λ c now. (c, looks.images c now, refl) }

module _ (u : ℕ) (a b : Outside) (left : Leaves u a b) where
  pub stable_left : IsStable u a → IsStable u b
  stable_left stable c now = let from = left.images c now in from.2 ∙ stable from.0 from.1 ∙ sym left.as_read

  pub ready_left : (end : ℕ) → IsReady u end a → IsReady u end b
  ready_left end ready = record { stable = stable_left ready.stable; long = subst (λ (l : List ℕ). end < length l) (sym left.as_read) ready.long }

  pub vacant_left : IsVacant u a → IsVacant u b
  vacant_left vacant = record { stable = stable_left vacant.stable; empty = subst IsEmptyVolume (sym left.as_read) vacant.empty }

-- what stays ready while another volume is written, and while bytes are put out
pub ready_elsewhere : (v u end : ℕ) (R S : List ℕ → List ℕ → Type 0) (a b : Outside) → u ≢ v → Follows (OnVolume v R) a.images b.images
    → OnVolume v S a.as_read b.as_read → IsReady u end a → IsReady u end b
ready_elsewhere v u end R S a b ne follows read ready = ready_left u a b (left_elsewhere v u R S a b ne follows read) end ready

pub ready_put : (v end : ℕ) (bytes : List ℕ) (result : Result ℕ OutputFault) (a b : Outside) → Emits bytes result a b → IsReady v end a → IsReady v end b
ready_put v end bytes result a b put ready = ready_left v a b (left_put v bytes result a b put) end ready
