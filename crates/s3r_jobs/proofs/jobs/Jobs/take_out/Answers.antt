use Rattle.std.proofs.Common.{◌≡◌, Vec, length, ap, arith}
use Rattle.s3r_jobs.specs.Jobs.{is_ended, is_unended}
use Rattle.s3r_jobs.proofs.PlaceLemmas.{all-taken}
use Rattle.s3r_jobs.proofs.jobs.Jobs.take_out.Goals as goal

pub invariant_of-self : goal.invariant_of-self
invariant_of-self c =
    let before = c.self.invariant in
    let taken = c.in-Some.ensures.taken in
    let room = c.take.ensures.room in
    let live = all-taken is_unended c.args.id c.self.inside.live.items c.take.new.jobs.items c.take.ensures.rest before.1.0 in (
      record {
        live = omega (arith, before.0.live, taken, room);
        ended = omega (arith, before.0.ended, taken);
        few = omega (arith, before.0.few, taken);
      },
      (live, before.1.1),
    )

pub invariant_of-self-2 : goal.invariant_of-self-2
invariant_of-self-2 c =
    let before = c.self.invariant in
    let size : length c.take.new.jobs.items ≡ length c.self.inside.live.items = ap (λ (v : Vec _ _). length v.items) c.in_default.ensures.none in
    let taken = c.in_ok-job.ensures.taken in
    let room = c.take.ensures.room in
    let room_ended = c.take-2.ensures.room in
    let live = all-taken is_unended c.args.id c.self.inside.live.items c.take.new.jobs.items c.take.ensures.rest before.1.0 in
    let ended = all-taken is_ended c.args.id c.self.inside.ended.items c.take-2.new.jobs.items c.take-2.ensures.rest before.1.1 in (
      record {
        live = omega (arith, before.0.live, size, taken, room);
        ended = omega (arith, before.0.ended, size, taken, room_ended);
        few = omega (arith, before.0.few, size, taken);
      },
      (live, ended),
    )
