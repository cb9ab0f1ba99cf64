use Rattle.std.proofs.Common.{true, false, None, length, insert, set, ap, ◌∙◌}
use Rattle.s3r_rules.specs.Writes.{seen}
use Rattle.s3r_rules.specs.Choices.{chosen_with}
use Rattle.s3r_rules.proofs.ChoiceWalk.{made, place_among, asked-first, choices-rise, improved, added}
use Rattle.s3r_rules.proofs.per_destination.add_rule.Goals as goal

pub place_of-place-requires : goal.place_of-place-requires
place_of-place-requires c =
    choices-rise (seen c.args.write.now) c.args.rules.now c.args.rule.now c.as_slice.result.now (c.as_slice.ensures.value ∙ c.requires.so_far)

pub returns-then-is_first : goal.returns-then-is_first
returns-then-is_first c =
    let rules = c.args.rules.now in
    let rule = c.args.rule.now in
    let choices = c.args.choices.now.items in
    let place = c.place_of-place.result in
    let old = c.index_mut-choice.result.now in
    let at = c.place_of-place.ensures.at ∙ ap (place_among rules rule) c.as_slice.ensures.value in
    let kept = c.as_slice-2 in
    let is = asked-first rules rule.bucket choices kept.result.now place true c.is_first.result kept.ensures.value c.is_first.ensures c.if-is_first.true in
    ap (λ chosen. set choices place (made old.first chosen)) (c.chosen_with-choice.ensures ∙ ap (chosen_with rules old.chosen rule) c.fits-fit.ensures)
    ∙ improved (seen c.args.write.now) rules rule choices place c.requires.so_far at old is c.index_mut-choice.ensures.value

pub returns : goal.returns
returns c =
    let rules = c.args.rules.now in
    let rule = c.args.rule.now in
    let choices = c.args.choices.now.items in
    let place = c.place_of-place.result in
    let at = c.place_of-place.ensures.at ∙ ap (place_among rules rule) c.as_slice.ensures.value in
    let kept = c.as_slice-2 in
    let is = asked-first rules rule.bucket choices kept.result.now place false c.is_first.result kept.ensures.value c.is_first.ensures c.if-is_first.false in
    c.in_ok-insert.ensures.items
    ∙ ap (λ chosen. insert choices place (made (length rules) chosen)) (c.chosen_with-chosen.ensures ∙ ap (chosen_with rules None rule) c.fits-fit.ensures)
    ∙ added (seen c.args.write.now) rules rule choices place c.requires.so_far at is
