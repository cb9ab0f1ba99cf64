use Rattle.std.proofs.Common.{◌≡◌, ap, ◌∙◌, rules, arith, Some}
use Rattle.std.proofs.lemmas.Result.{IfOk-weaker}
use Rattle.serde_json.specs.Data.{depth}
use Rattle.serde_json.specs.View.{view}
use Rattle.serde_json.specs.Written.{compact_text, has_float}
use Rattle.serde_json.specs.declared.value.Value.{the_lemmas}
use Rattle.s3r_json.specs.Status.{status_data}
use Rattle.s3r_json.proofs.Readings.{status_back}
use Rattle.s3r_json.proofs.status.status_text.Goals as goal

pub returns-clause-text : goal.returns-clause-text
returns-clause-text c =
    let built : view c.in_ok-json.field-0 ≡ status_data c.args.word.now = search (rules, the_lemmas) in
    IfOk-weaker c.to_string.result _ _ (λ s h. h (ap has_float built) ∙ ap compact_text built) c.to_string.ensures.text

pub returns-clause-reads : goal.returns-clause-reads
returns-clause-reads c =
    let built : view c.in_ok-json.field-0 ≡ status_data c.args.word.now = search (rules, the_lemmas) in
    let level = ap depth built in
    IfOk-weaker c.to_string.result _ _ (λ s h. status_back c.args.word.now s (h (omega arith) ∙ ap Some built)) c.to_string.ensures.reads_back
