use Rattle.s3r_completeness.proofs.Undisturbed.{sound_runs_answer_no_fault}
use Rattle.s3r_completeness.proofs.laws.undisturbed_runs_answer_no_fault.Goals as goal

pub returns : goal.returns
returns c = sound_runs_answer_no_fault c.runs_compose.ensures.sound c.runs_compose.ensures.careful
