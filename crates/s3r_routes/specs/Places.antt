-- What the code's places stand for.
use Rattle.s3r_routes.specs.declared.target.Target.{Target}
use Rattle.s3r_routes.specs.declared.target.Target.TheVariants as place
use Rattle.s3r_routes.specs.Target as target

abbrev pub seen : Target → target.Target
seen (place.Bucket name) = target.bucket name.now
seen (place.Object name key) = target.object name.now key.now
seen place.Jobs = target.jobs
seen (place.Job id) = target.job id.now
seen (place.JobPriority id) = target.job_priority id.now
seen (place.JobStatus id) = target.job_status id.now
seen place.Copy = target.copy
seen place.JobTurn = target.job_turn
seen place.Work = target.work
seen place.Check = target.check
