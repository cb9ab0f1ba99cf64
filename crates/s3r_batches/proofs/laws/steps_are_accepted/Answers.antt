use Rattle.s3r_batches.proofs.Steps.{steps_are_accepted, steps_meet_limits}
use Rattle.s3r_batches.proofs.laws.steps_are_accepted.Goals as goal

pub returns : goal.returns
returns c = record { accepted = steps_are_accepted; limits = steps_meet_limits }
