use Rattle.std.proofs.Common.{◌∙◌, sym, ap, arith}
use Rattle.std.specs.List.{list_any}
use Rattle.s3r_region.specs.Status.{outdoes}
use Rattle.s3r_region.proofs.Tasks.{any-next}
use Rattle.s3r_region.proofs.status.is_outdone.Goals as goal

pub loop-region-preserved : goal.loop-region-preserved
loop-region-preserved c =
    let p = outdoes c.args.bucket.now c.args.row.now c.args.task.now in
    let none = sym (ap (list_any p) c.tasks.ensures) ∙ sym c.any_outdoes.ensures ∙ c.if-any_outdoes.false in
    record {
      within = omega (arith, c.loop-region-test.true);
      rest = any-next p c.args.outbox.now c.loop-region.region (grind (arith, c.loop-region-test.true)) none ∙ c.loop-region.invariant.rest;
    }
