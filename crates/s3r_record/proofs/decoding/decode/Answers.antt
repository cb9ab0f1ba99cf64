use Rattle.std.proofs.Common.{arith}
use Rattle.s3r_record.proofs.CommandLaws.{found, only}
use Rattle.s3r_record.proofs.decoding.decode.Goals as goal

pub returns-clause-found : goal.returns-clause-found
returns-clause-found c = found c.args.bytes.now c.command_of.result (λ i. omega (arith, c.type_inv.bytes i)) c.requires c.command_of.ensures

pub returns-clause-only : goal.returns-clause-only
returns-clause-only c = only c.args.bytes.now c.command_of.result c.command_of.ensures
