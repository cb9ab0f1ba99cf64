use Rattle.std.proofs.Common.{◌≡◌, ◌++◌, drop}
use Rattle.s3r_desk.specs.Steps as asked
use Rattle.s3r_desk.specs.Lookups.{statuses_of}
use Rattle.s3r_desk.proofs.listing.statuses_of.Given as goal

abbrev pub invariant-loop-entry : goal.invariant-loop-entry
invariant-loop-entry l = record {
  rest : l.statuses.items ++ asked.statuses_of (statuses_of l.stores l.region l.name) (drop l.entry-index l.entries)
      ≡ asked.statuses_of (statuses_of l.stores l.region l.name) l.entries;
}
