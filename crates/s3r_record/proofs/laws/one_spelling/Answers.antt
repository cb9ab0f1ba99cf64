use Rattle.s3r_record.proofs.CommandLaws.{one, front}
use Rattle.s3r_record.proofs.laws.one_spelling.Goals as goal

pub returns-clause-one : goal.returns-clause-one
returns-clause-one c = one

pub returns-clause-front : goal.returns-clause-front
returns-clause-front c = front
