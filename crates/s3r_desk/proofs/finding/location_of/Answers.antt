use Rattle.std.proofs.Common.{length, option_copied, sym, ap, ◌∙◌}
use Rattle.std.specs.Option.{option_and_then}
use Rattle.s3r_desk.specs.Lookups.{told_in, views_of}
use Rattle.s3r_desk.proofs.Places.{get_at}
use Rattle.s3r_desk.proofs.Locations.{home_on, untold}
use Rattle.s3r_desk.proofs.finding.location_of.Goals as goal

pub loop-region-preserved : goal.loop-region-preserved
loop-region-preserved c =
    let stores = c.args.stores.now in
    let s = c.index-stores-region.result in
    let at = get_at stores c.loop-region.region s c.loop-region-test.true c.index-stores-region.is in
    let none = ap option_copied (sym c.in_default.is) ∙ c.bucket_in.ensures.found in
    home_on (length stores) c.loop-region.region (views_of stores) c.args.name.now _ c.loop-region-test.true
    (ap (option_and_then (told_in c.args.name.now)) at ∙ untold c.args.name.now s (sym none)) c.loop-region.invariant
