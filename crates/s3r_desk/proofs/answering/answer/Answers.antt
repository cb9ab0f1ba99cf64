use Rattle.std.proofs.Common.{List, length, sym, ◌∙◌, ap}
use Rattle.s3r_store.specs.declared.store.Store.{Store}
use Rattle.s3r_desk.specs.Comparing.{first_pair, seen_fault}
use Rattle.s3r_desk.proofs.Disagreeing.{disagreement_is, seen_disagrees}
use Rattle.s3r_desk.proofs.AnswersMade.{answers_stepped, answers_told, told_cause}
use Rattle.s3r_desk.proofs.answering.answer.Goals as goal

pub returns-in-None-clause-told : goal.returns-in-None-clause-told
returns-in-None-clause-told g c = λ told before keeps.
    let stores = c.args.stores.now.items in
    let old = g.W.World.outside c.args.world.now in
    answers_stepped before c.args.request (g.W.World.shape c.args.world.now).room stores c.make_step.new.stores.items old
    (g.W.World.outside c.make_step.new.world) c.make_step.result
    (sym (disagreement_is before stores old keeps c.requires.read c.requires.numbered)
    ∙ sym (ap (λ (l : List Store). first_pair (length l) (seen_fault l)) c.deref.ensures.value) ∙ sym c.disagreement.ensures ∙ c.in-None.is)
    (c.make_step.ensures.told told before keeps)

pub returns-in-Some-clause-told : goal.returns-in-Some-clause-told
returns-in-Some-clause-told g c = λ told before keeps.
    let stores = c.args.stores.now.items in
    let old = g.W.World.outside c.args.world.now in
    answers_told before c.args.request (g.W.World.shape c.args.world.now).room stores old c.in-Some.fault
    (sym (disagreement_is before stores old keeps c.requires.read c.requires.numbered)
    ∙ sym (ap (λ (l : List Store). first_pair (length l) (seen_fault l)) c.deref.ensures.value) ∙ sym c.disagreement.ensures ∙ c.in-Some.is) keeps

pub returns-in-Some-clause-cause : goal.returns-in-Some-clause-cause
returns-in-Some-clause-cause g c =
    told_cause (length c.args.stores.now.items) c.in-Some.fault _ _
    (seen_disagrees c.deref.result.now c.in-Some.fault (sym c.disagreement.ensures ∙ c.in-Some.is))
