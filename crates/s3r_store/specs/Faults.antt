-- How faults of lower calls are told.
use Rattle.s3r_journal.specs.declared.writing.AppendFault.{AppendFault}
use Rattle.s3r_journal.specs.declared.writing.AppendFault.TheVariants as append
use Rattle.s3r_journal.specs.declared.scanning.ScanFault.{ScanFault}
use Rattle.s3r_journal.specs.declared.scanning.ScanFault.TheVariants as scan
use Rattle.s3r_region.specs.declared.state.Deny.{Deny}
use Rattle.s3r_region.specs.declared.state.Deny.TheVariants as deny
use Rattle.s3r_store.specs.declared.fault.StoreFault.{StoreFault}
use Rattle.s3r_store.specs.declared.fault.StoreFault.TheVariants.{Refused, Full, Volume, Damaged, OutOfMemory}

abbrev pub fault_of_deny : Deny → StoreFault
fault_of_deny (deny.Refused refusal) = Refused refusal
fault_of_deny deny.OutOfMemory = OutOfMemory

abbrev pub fault_of_append : AppendFault → StoreFault
fault_of_append (append.Volume v) = Volume v
fault_of_append (append.VolumeFull v) = Full v

abbrev pub fault_of_scan : ScanFault → StoreFault
fault_of_scan (scan.Volume v) = Volume v
fault_of_scan (scan.Damaged v offset) = Damaged v offset
fault_of_scan scan.OutOfMemory = OutOfMemory
