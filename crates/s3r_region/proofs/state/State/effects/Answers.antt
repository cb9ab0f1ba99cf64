use Rattle.std.proofs.Common.{◌∙◌, sym, ap}
use Rattle.std.proofs.lemmas.Result.{IfOk-weaker}
use Rattle.s3r_record.specs.declared.command.Command.{Command}
use Rattle.s3r_history.specs.Deeds.{effects_after}
use Rattle.s3r_region.specs.After.{seen}
use Rattle.s3r_names.specs.declared.stamp.Stamp.{Stamp}
use Rattle.s3r_region.specs.Prescribing.{sends_of_tags, sends_of_hold}
use Rattle.s3r_region.proofs.Prescribed.{put-sends, marker-sends, tags-sends, hold-sends}
use Rattle.s3r_region.proofs.state.State.effects.Goals as goal

pub returns-in-Put : goal.returns-in-Put
returns-in-Put c =
    let at = c.in-Put in
    IfOk-weaker c.sends_of_put.result _ _
    (λ sends is h a. is ∙ put-sends c.args.self.now h a at.bucket at.key at.tags at.hold at.class at.body
    ∙ sym (ap (λ (k : Command). effects_after c.args.self.now.region h k) at.is))
    c.sends_of_put.ensures

pub returns-in-Marker : goal.returns-in-Marker
returns-in-Marker c =
    let at = c.in-Marker in
    IfOk-weaker c.sends_of_marker.result _ _
    (λ sends is h a. is ∙ marker-sends c.args.self.now h a at.bucket at.key ∙ sym (ap (λ (k : Command). effects_after c.args.self.now.region h k) at.is))
    c.sends_of_marker.ensures

pub returns-in-SetTags : goal.returns-in-SetTags
returns-in-SetTags c =
    let at = c.in-SetTags in
    let s = c.args.self.now in
    IfOk-weaker c.sends_of_tags.result _ _
    (λ sends is h a. is ∙ ap (λ (st : Stamp). sends_of_tags s.outbox at.bucket at.key at.id at.tags st (seen s at.bucket))
    c.next_stamp.ensures.stamp ∙ tags-sends s h a at.bucket at.key at.id at.tags
    ∙ sym (ap (λ (k : Command). effects_after s.region h k) at.is))
    c.sends_of_tags.ensures

pub returns-in-SetHold : goal.returns-in-SetHold
returns-in-SetHold c =
    let at = c.in-SetHold in
    let s = c.args.self.now in
    IfOk-weaker c.sends_of_hold.result _ _
    (λ sends is h a. is ∙ ap (λ (st : Stamp). sends_of_hold s.outbox at.bucket at.key at.id at.hold st (seen s at.bucket))
    c.next_stamp-in-SetHold.ensures.stamp ∙ hold-sends s h a at.bucket at.key at.id at.hold
    ∙ sym (ap (λ (k : Command). effects_after s.region h k) at.is))
    c.sends_of_hold.ensures
