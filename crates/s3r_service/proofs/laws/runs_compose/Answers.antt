use Rattle.s3r_service.proofs.Runs.{fresh_is_sound, sound_stays, composed, next_finds}
use Rattle.s3r_service.proofs.Careful.{runs_careful}
use Rattle.s3r_service.proofs.laws.runs_compose.Goals as goal

pub returns-clause-fresh : goal.returns-clause-fresh
returns-clause-fresh c = fresh_is_sound

pub returns-clause-sound : goal.returns-clause-sound
returns-clause-sound c = sound_stays

pub returns-clause-composed : goal.returns-clause-composed
returns-clause-composed c = composed

pub returns-clause-found : goal.returns-clause-found
returns-clause-found c = next_finds

pub returns-clause-careful : goal.returns-clause-careful
returns-clause-careful c = runs_careful
