use Rattle.std.proofs.Common.{◌≡◌, drop}
use Rattle.s3r_region.specs.Status.{all_tasks, decides, worst}
use Rattle.s3r_region.proofs.status.worst_of.Given as goal

abbrev pub invariant-loop-task : goal.invariant-loop-task
invariant-loop-task l = record {
  rest : worst (decides (all_tasks l.outbox) l.bucket l.row) l.so_far (drop l.task-index l.tasks)
      ≡ worst (decides (all_tasks l.outbox) l.bucket l.row) l.fn.found l.tasks;
}
