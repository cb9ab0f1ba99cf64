use Rattle.std.proofs.Common.{◌≡◌, drop}
use Rattle.s3r_routes.specs.Query.{words_in}
use Rattle.s3r_routes.proofs.Texts.{after}
use Rattle.s3r_routes.proofs.query.words_in.Given as goal

abbrev pub invariant-loop-pair : goal.invariant-loop-pair
invariant-loop-pair l = after l.words.items (words_in (drop l.pair-index l.pairs)) ≡ words_in l.pairs
