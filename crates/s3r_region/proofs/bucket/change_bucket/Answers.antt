use Rattle.std.proofs.Common.{sym}
use Rattle.std.proofs.lemmas.Result.{on_ok_weaker}
use Rattle.s3r_region.specs.Contents.{is_named}
use Rattle.s3r_region.specs.Changes.{changed}
use Rattle.s3r_region.proofs.Places.{first-position, set_at, set_first-none}
use Rattle.s3r_region.proofs.Given.{free_at}
use Rattle.s3r_region.proofs.bucket.change_bucket.Goals as goal

pub change-requires : goal.change-requires
change-requires c =
    free_at c.args.change (is_named c.args.name.now) c.args.buckets.now.items c.in-Some.place c.index_mut.result.now c.index_mut.ensures.value
    (first-position (is_named c.args.name.now) c.args.buckets.now.items c.in-Some.place (sym (rw c.deref.ensures.value at c.in-Some.ensures))) c.requires

pub returns-in-Some-clause-ok : goal.returns-in-Some-clause-ok
returns-in-Some-clause-ok c =
    on_ok_weaker c.change.result
    (λ e. set_at (is_named c.args.name.now) (changed c.args.change) c.args.buckets.now.items c.in-Some.place c.change.new.self c.index_mut.result.now
    (sym (rw c.deref.ensures.value at c.in-Some.ensures)) e c.index_mut.ensures.value)
    c.change.ensures.ok

pub returns-in-None-clause-ok : goal.returns-in-None-clause-ok
returns-in-None-clause-ok c =
    sym (set_first-none (is_named c.args.name.now) (changed c.args.change) c.args.buckets.now.items
    (sym (rw (c.in-None.is, c.deref.ensures.value) at c.place_of.ensures)))
