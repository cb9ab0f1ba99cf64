use Rattle.std.proofs.Common.{◌+◌, ◌-◌, ◌∙◌, ap, arith}
use Rattle.s3r_region.specs.Status.{tasks_from, all_tasks, decides, worst}
use Rattle.s3r_region.proofs.Tasks.{worst-next}
use Rattle.s3r_region.proofs.status.worst.Goals as goal

pub loop-region-preserved : goal.loop-region-preserved
loop-region-preserved c =
    let p = decides (all_tasks c.args.outbox.now) c.args.bucket.now c.args.row.now in
    let d = c.loop-region.region in
    let here = c.worst_of-so_far.ensures ∙ ap (worst p c.loop-region.so_far) c.tasks.ensures in
    record {
      within = omega (arith, c.loop-region-test.true);
      rest = ap (λ o. worst p o (tasks_from c.args.outbox.now (d + 1) (8 - (d + 1)))) here
          ∙ worst-next p c.loop-region.so_far c.args.outbox.now d (grind (arith, c.loop-region-test.true))
          ∙ c.loop-region.invariant.rest;
    }
