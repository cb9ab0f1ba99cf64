-- The first pending task.
use Rattle.std.specs.Prelude.{ℕ, ◌-◌, Option, option_map, slice_get}
use Rattle.s3r_history.specs.declared.due.Due.{Due}
use Rattle.s3r_history.specs.Words.{History}
use Rattle.s3r_history.specs.Past.{Carried, Past}
use Rattle.s3r_history.specs.Placed.{prescribed}
use Rattle.s3r_history.specs.Tasks.{attempts, first}

-- the task of this number to a region, where there is one
abbrev pub due_at : History → Past → ℕ → ℕ → Option Due
due_at h past d n =
    option_map (λ (e : Carried). record { number = n; attempts = attempts h d n; effect = e }) (slice_get (prescribed past d) (n - 1))

-- the first pending task to a region; none where none is pending
abbrev pub first_due : History → Past → ℕ → Option Due
first_due h past d = due_at h past d (first h past d)
