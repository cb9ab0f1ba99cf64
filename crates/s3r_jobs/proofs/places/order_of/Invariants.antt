use Rattle.std.proofs.Common.{◌≡◌, ◌+◌, drop, map}
use Rattle.s3r_jobs.specs.Any.{facts}
use Rattle.s3r_jobs.specs.Jobs.{order_of}
use Rattle.s3r_jobs.proofs.places.order_of.Given as goal

abbrev pub invariant-loop-place : goal.invariant-loop-place
invariant-loop-place l = l.place + order_of l.id (map facts (drop l.place l.jobs)) ≡ order_of l.id (map facts l.jobs)
