use Rattle.std.proofs.Common.{◌≡◌, reverse, length, vec_len}
use Rattle.s3r_history.specs.Kept.{push_all}
use Rattle.s3r_region.proofs.pushing.push_all.Given as goal

abbrev pub invariant-loop-sent : goal.invariant-loop-sent
invariant-loop-sent l = record {
  pushed : push_all l.place (reverse l.sends.items) l.outbox ≡ push_all l.place (reverse l.initial.sends.items) l.initial.outbox;
  same : length l.outbox ≡ l.regions;
}

abbrev pub decreases-loop-sent : goal.decreases-loop-sent
decreases-loop-sent l = vec_len l.sends
