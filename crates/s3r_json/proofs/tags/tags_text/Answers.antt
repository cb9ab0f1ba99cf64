use Rattle.std.proofs.Common.{◌≡◌, ◌≤◌, Some, ap, ◌∙◌, arith}
use Rattle.std.proofs.lemmas.Result.{IfOk-weaker}
use Rattle.serde_json.specs.Data.{depth}
use Rattle.serde_json.specs.Read.{max_depth}
use Rattle.serde_json.specs.View.{view}
use Rattle.serde_json.specs.Written.{compact_text, has_float}
use Rattle.serde_json.specs.declared.value.Value.{Object}
use Rattle.s3r_json.specs.Tags.{tag_list_data, tags_data}
use Rattle.s3r_json.proofs.Printed.{no_float, flat, made, set_back}
use Rattle.s3r_json.proofs.tags.tags_text.Goals as goal

built : (c : goal.Joined-this) → view (Object c.insert.new.self) ≡ tags_data c.args.tags.now
built c =
    let list = c.in_ok-list.ensures ∙ ap tag_list_data c.as_slice.ensures.listed in
    let entries = rw c.new-members.ensures.empty at c.in_ok-insert.ensures.entries in
    made c.insert.new.self c.in_ok-from_str.field-0 c.in_ok-list.list c.args.tags.now entries c.in_ok-from_str.ensures.ok list

pub returns-clause-text : goal.returns-clause-text
returns-clause-text c =
    IfOk-weaker c.to_string.result _ _ (λ s h. h (ap has_float (built c) ∙ no_float c.args.tags.now) ∙ ap compact_text (built c)) c.to_string.ensures.text

pub returns-clause-reads : goal.returns-clause-reads
returns-clause-reads c =
    let levels = ap depth (built c) in
    let few = flat c.args.tags.now in
    let deep : depth (view (Object c.insert.new.self)) ≤ max_depth = omega arith in
    IfOk-weaker c.to_string.result _ _ (λ s h. set_back c.args.tags.now s c.as_slice.ensures.named (h deep ∙ ap Some (built c))) c.to_string.ensures.reads_back
