use Rattle.std.proofs.Common.{◌≡◌, ◌-◌, ◌≤◌}
use Rattle.std.specs.List.{list_any}
use Rattle.s3r_region.specs.Status.{tasks_from, all_tasks, outdoes}
use Rattle.s3r_region.proofs.status.is_outdone.Given as goal

abbrev pub invariant-loop-region : goal.invariant-loop-region
invariant-loop-region l = record {
  within : l.region ≤ 8;
  rest : list_any (outdoes l.bucket l.row l.task) (tasks_from l.outbox l.region (8 - l.region)) ≡ list_any (outdoes l.bucket l.row l.task) (all_tasks l.outbox);
}
