use Rattle.std.proofs.Common.{◌≡◌, ◌-◌, length}
use Rattle.s3r_desk.specs.Steps.{location_from, location}
use Rattle.s3r_desk.specs.Lookups.{views_of}
use Rattle.s3r_desk.proofs.finding.location_of.Given as goal

abbrev pub invariant-loop-region : goal.invariant-loop-region
invariant-loop-region l = location_from l.region (length l.fn.stores - l.region) (views_of l.fn.stores) l.fn.name ≡ location (length l.fn.stores)
    (views_of l.fn.stores) l.fn.name
