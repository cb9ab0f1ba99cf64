use Rattle.s3r_service.proofs.Running.{limits_fault}
use Rattle.s3r_service.proofs.serve.ending_behind.Goals as goal

pub returns-in-Err-clause-told : goal.returns-in-Err-clause-told
returns-in-Err-clause-told g c = λ told. limits_fault c.in-Err.fault c.stop_of.result c.stop_of.ensures c.in-Err.ensures.faults _ _
