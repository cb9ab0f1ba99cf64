use Rattle.std.proofs.Common.{ap, ◌∙◌}
use Rattle.std.proofs.lemmas.List.{take_all}
use Rattle.s3r_rules.specs.Writes.{seen}
use Rattle.s3r_rules.specs.Choices.{choices_of}
use Rattle.s3r_rules.proofs.per_destination.choices.Goals as goal

pub loop-place-init : goal.loop-place-init
unfolding choices_of
loop-place-init c = c.new-choices.ensures.items

pub returns : goal.returns
unfolding choices_of
returns c =
    let all = take_all c.loop-place.place c.as_slice-rules.result.now c.loop-place-test.false in
    c.loop-place.invariant ∙ ap (choices_of (seen c.args.write.now)) (all ∙ c.as_slice-rules.ensures.listed)
