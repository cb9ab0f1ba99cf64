use Rattle.s3r_batches.proofs.Sound.{results_are_of_lines, complete_has_all, lines_are_begun_once}
use Rattle.s3r_batches.proofs.Tokens.{tokens_are_once}
use Rattle.s3r_batches.proofs.laws.lines_are_done_once.Goals as goal

pub returns : goal.returns
returns c = record {
  results = results_are_of_lines;
  complete = complete_has_all;
  begun = lines_are_begun_once;
  tokens = tokens_are_once;
}
