-- When too many lines failed.
use Rattle.std.specs.Prelude.{ℕ, ◌*◌, Bool, true, false, ◌&&◌, nat_lt, nat_le, List, length, count_by}
use Rattle.s3r_jobs.specs.declared.result.LineResult.{LineResult}
use Rattle.s3r_jobs.specs.declared.result.LineResult.TheVariants.{Succeeded, Failed}

abbrev pub has_failed : LineResult → Bool
has_failed Succeeded = false
has_failed (Failed code) = true

-- there are 1,000 results at least, and more than half of them are failures
abbrev pub threshold : ℕ → ℕ → Bool
threshold results failed = nat_le 1000 results && nat_lt results (2 * failed)

-- of the results so far
abbrev pub is_over : List LineResult → Bool
is_over results = threshold (length results) (count_by has_failed results)
