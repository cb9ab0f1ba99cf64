use Rattle.std.proofs.Common.{Some, None, Result, Ok, sym, ap, ◌∙◌}
use Rattle.std.proofs.lemmas.Result.{IfOk-weaker}
use Rattle.s3r_names.specs.declared.stamp.Stamp.{Stamp}
use Rattle.s3r_jobs.specs.declared.result.Code.{Code}
use Rattle.s3r_record.specs.declared.command.Command.TheVariants as command
use Rattle.s3r_history.specs.Sending.{sends_by}
use Rattle.s3r_history.specs.Deeds.{deeds}
use Rattle.s3r_history.specs.Deeds as history
use Rattle.s3r_history.specs.JobLines.{does_by}
use Rattle.s3r_region.specs.After.{seen}
use Rattle.s3r_region.specs.declared.job_line.LineWrite.{LineWrite}
use Rattle.s3r_region.specs.JobLine.{Comes, as_outcome}
use Rattle.s3r_region.specs.Prescribing.{sends_of_tags, sends_of_hold}
use Rattle.s3r_region.proofs.Prescribed.{tags-sends, hold-sends}
use Rattle.s3r_region.proofs.state.State.sends_of_line.Goals as goal

pub returns-in-Some-Ok-Tags : goal.returns-in-Some-Ok-Tags
returns-in-Some-Ok-Tags c =
    let s = c.args.self.now in
    let at = c.in-Some-Ok-Tags in
    let line = command.Line c.args.job c.args.line in
    IfOk-weaker c.sends_of_tags.result _ _
    (λ sends is h a. is ∙ ap (λ (st : Stamp). sends_of_tags s.outbox at.bucket at.key at.id at.tags st (seen s at.bucket)) c.next_stamp.ensures.stamp
    ∙ tags-sends s h a at.bucket at.key at.id at.tags
    ∙ sym (ap (sends_by h (deeds s.region h) (history.next_stamp s.region (deeds s.region h)) None)
    (ap (does_by line) (sym (c.in_ok-bucket.ensures h a)) ∙ ap (λ (o : Comes). does_by line (as_outcome o)) at.is
    ∙ ap (λ (r : Result LineWrite Code). does_by line (as_outcome (Some r))) at.field-0-is
    ∙ ap (λ (w : LineWrite). does_by line (as_outcome (Some (Ok w)))) at.field-0-0-is)))
    c.sends_of_tags.ensures

pub returns-in-Some-Ok-Hold : goal.returns-in-Some-Ok-Hold
returns-in-Some-Ok-Hold c =
    let s = c.args.self.now in
    let at = c.in-Some-Ok-Hold in
    let line = command.Line c.args.job c.args.line in
    IfOk-weaker c.sends_of_hold.result _ _
    (λ sends is h a. is ∙ ap (λ (st : Stamp). sends_of_hold s.outbox at.bucket at.key at.id at.hold st (seen s at.bucket))
    c.next_stamp-in-Some-Ok-Hold.ensures.stamp
    ∙ hold-sends s h a at.bucket at.key at.id at.hold
    ∙ sym (ap (sends_by h (deeds s.region h) (history.next_stamp s.region (deeds s.region h)) None)
    (ap (does_by line) (sym (c.in_ok-bucket.ensures h a)) ∙ ap (λ (o : Comes). does_by line (as_outcome o)) at.is
    ∙ ap (λ (r : Result LineWrite Code). does_by line (as_outcome (Some r))) at.field-0-is
    ∙ ap (λ (w : LineWrite). does_by line (as_outcome (Some (Ok w)))) at.field-0-0-is)))
    c.sends_of_hold.ensures
