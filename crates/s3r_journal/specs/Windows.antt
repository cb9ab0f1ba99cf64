-- A piece of a volume that was read.
use Rattle.std.specs.Prelude.{◌≡◌, ◌⊎◌, ℕ, ◌+◌, ◌-◌, ◌≤◌, List, length, take, drop, vec_len}
use Rattle.s3r_world.specs.Outside.{Outside, IsStable}
use Rattle.s3r_journal.specs.declared.window.Window.{Window}

-- bytes that others begin with
abbrev pub IsFront : List ℕ → List ℕ → Type 0
IsFront xs ys = xs ≡ take (length xs) ys

-- so many bytes that others begin with, or all of these
pub record Covers (count : ℕ) (front rest : List ℕ) : Type 0 where
  pub begins : IsFront front rest
  pub enough : (count ≤ length front) ⊎ (front ≡ rest)

-- a window has so many bytes from a place on, or all of the volume's
abbrev pub Has : ℕ → ℕ → Window → Type 0
Has at count window =
    (window.at ≤ at) × ((window.size ≤ at) ⊎ ((window.at + vec_len window.bytes ≡ window.size) ⊎ (at + count ≤ window.at + vec_len window.bytes)))

-- what a window has from a place on
abbrev pub front_at : Window → ℕ → List ℕ
front_at window at = drop (at - window.at) window.bytes.items

-- The window has bytes of volume v at their place, and its size. Each image has of the volume what a read gives.
pub record Shows (v : ℕ) (window : Window) (w : Outside) : Type 0 where
  pub stable : IsStable v w
  pub size : window.size ≡ length (w.as_read.volume v)
  pub bytes : IsFront window.bytes.items (drop window.at (w.as_read.volume v))
