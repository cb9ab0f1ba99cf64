use Rattle.s3r_desk.proofs.Careful.{careful_then, careful_part, known_is}
use Rattle.s3r_desk.proofs.Agreeing.{keeps_agreement}
use Rattle.s3r_desk.proofs.TurnsCareful.{turns_careful}
use Rattle.s3r_desk.proofs.laws.careful_events_keep_agreement.Goals as goal

pub returns-clause-agree : goal.returns-clause-agree
returns-clause-agree c = keeps_agreement

pub returns-clause-compose : goal.returns-clause-compose
returns-clause-compose c = careful_then

pub returns-clause-first : goal.returns-clause-first
returns-clause-first c = careful_part

pub returns-clause-there : goal.returns-clause-there
returns-clause-there c = known_is

pub returns-clause-turns : goal.returns-clause-turns
returns-clause-turns c = turns_careful
