-- What a region keeps of its jobs.
use Rattle.std.specs.Prelude.{◌≡◌, ℕ, ◌==◌, Bool, List, map}
use Rattle.s3r_jobs.specs.Jobs.{JobsFacts}
use Rattle.s3r_history.specs.declared.creation.Creation.{Creation}
use Rattle.s3r_history.specs.Words.{History}
use Rattle.s3r_history.specs.Deeds.{deeds}
use Rattle.s3r_history.specs.Jobs.{creations, jobs_at}
use Rattle.s3r_region.specs.declared.region_jobs.Manifest.{Manifest}

pub record KeptJobs : Type 0 where
  pub jobs : JobsFacts
  -- the version of each job's manifest, in the order in which they were created
  pub manifests : List Manifest

abbrev pub manifest_of : Creation → Manifest
manifest_of c = record { job = c.id; version = c.manifest }

abbrev pub is_of : ℕ → Manifest → Bool
is_of id manifest = manifest.job == id

-- they are after the history of region r
abbrev pub IsAfter : ℕ → KeptJobs → History → Type 0
IsAfter r kept h = (kept.jobs ≡ jobs_at (deeds r h)) × (kept.manifests ≡ map manifest_of (creations (deeds r h)))
