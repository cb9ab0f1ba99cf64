-- Configurations that name regions that are there alone.
use Rattle.std.specs.Prelude.{◌≡◌, ◌≤◌, ℕ, true, nat_lt, Bool, List, [], Option, IfSome}
use Rattle.std.specs.List.{list_all}
use Rattle.s3r_history.specs.declared.replication.Replication.{Replication}
use Rattle.s3r_history.specs.Words.{Name, History}
use Rattle.s3r_history.specs.Buckets.{configuration}
use Rattle.s3r_history.specs.Past.{Past}
use Rattle.s3r_history.specs.Placed.{placed}

abbrev pub are_below : ℕ → List ℕ → Bool
are_below n regions = list_all (λ d. nat_lt d n) regions

-- the regions of a configuration are there, where there are n
abbrev pub IsThere : ℕ → Option Replication → Type 0
IsThere n config = IfSome config (λ (c : Replication). are_below n c.regions ≡ true)

-- no bucket's configuration names a region that isn't there
abbrev pub AreThere : ℕ → History → Type 0
AreThere n h = (b : Name) → IsThere n (configuration h b)

-- nothing was prescribed to a region that isn't there, where there are n
abbrev pub NoneBeyond : ℕ → Past → Type 0
NoneBeyond n past = (d : ℕ) → n ≤ d → placed past d ≡ []
