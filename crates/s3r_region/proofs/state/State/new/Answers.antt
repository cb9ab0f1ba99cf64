use Rattle.std.proofs.Common.{◌≤◌, List, length, refl, ap, subst, sym, find}
use Rattle.std.specs.Prelude.{option_map}
use Rattle.s3r_history.specs.Laws.{is_once}
use Rattle.s3r_history.proofs.Beyond.{there_at_first}
use Rattle.s3r_region.specs.declared.bucket.Bucket.{Bucket}
use Rattle.s3r_region.specs.Contents.{is_named, names_of}
use Rattle.s3r_region.specs.After.{told_by}
use Rattle.s3r_region.proofs.state.State.new.Goals as goal

pub returns-clause-after : goal.returns-clause-after
returns-clause-after c = record {
  commands = refl;
  clock = refl;
  buckets = λ b. ap (λ (bs : List Bucket). option_map told_by (find (is_named b) bs)) c.new.ensures.items;
  count = ap (λ (bs : List Bucket). length bs) c.new.ensures.items;
  once = ap (λ (bs : List Bucket). is_once (names_of bs)) c.new.ensures.items;
  some = subst (λ n. 1 ≤ n) (sym c.in_ok-new.ensures.regions) c.requires.some;
  queues = c.in_ok-new.ensures.after c.args.region;
  jobs = c.new-3.ensures c.args.region;
  there = there_at_first c.in_ok-new.field-0.regions;
  beyond = λ d le. refl;
}
