-- How faults of lower calls are told.
use Rattle.s3r_http.specs.declared.buffer.ReadFault.{ReadFault}
use Rattle.s3r_http.specs.declared.buffer.ReadFault.TheVariants as read
use Rattle.s3r_http.specs.declared.message.HttpFault.{HttpFault}
use Rattle.s3r_http.specs.declared.message.HttpFault.TheVariants.{Input, OutOfMemory}

abbrev pub fault_of_read : ReadFault → HttpFault
fault_of_read read.Input = Input
fault_of_read read.OutOfMemory = OutOfMemory
