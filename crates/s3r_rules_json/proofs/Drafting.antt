-- Rules item by item.
use Rattle.std.proofs.Common.{List, ◌++◌, Result, Ok, Err}
use Rattle.s3r_rules.specs.declared.fault.ConfigFault.{ConfigFault}
use Rattle.s3r_rules.specs.declared.draft.Draft.{Draft}

-- what was read, and then what the rest gives
abbrev pub after : List Draft → Result (List Draft) ConfigFault → Result (List Draft) ConfigFault
after done (Err fault) = Err fault
after done (Ok drafts) = Ok (done ++ drafts)
