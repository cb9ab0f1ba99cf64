use Rattle.std.proofs.Common.{◌≡◌, ◌-◌, ◌≤◌, None}
use Rattle.s3r_region.specs.Status.{tasks_from, all_tasks, decides, worst}
use Rattle.s3r_region.proofs.status.worst.Given as goal

abbrev pub invariant-loop-region : goal.invariant-loop-region
invariant-loop-region l = record {
  within : l.region ≤ 8;
  rest : worst (decides (all_tasks l.outbox) l.bucket l.row) l.so_far (tasks_from l.outbox l.region (8 - l.region))
      ≡ worst (decides (all_tasks l.outbox) l.bucket l.row) None (all_tasks l.outbox);
}
