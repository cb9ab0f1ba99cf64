use Rattle.s3r_arrivals.proofs.Ending.{completed_has_arrived, failed_was_refused, exhausted_was_given_up, nothing_is_lost}
use Rattle.s3r_arrivals.proofs.Received.{received_was_prescribed}
use Rattle.s3r_arrivals.proofs.laws.what_was_sent_has_arrived.Goals as goal

pub returns : goal.returns
returns c = record {
  completed = completed_has_arrived;
  failed = failed_was_refused;
  exhausted = exhausted_was_given_up;
  nothing_lost = nothing_is_lost;
  prescribed = received_was_prescribed;
}
