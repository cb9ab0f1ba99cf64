use Rattle.std.proofs.Common.{length, sym, ap, ◌∙◌, not, position, unwrap_or, ap₂}
use Rattle.s3r_versions.specs.Order.{is_id_before}
use Rattle.s3r_versions.specs.Removed.{was_removed}
use Rattle.s3r_versions.proofs.RemovedIds.{keeps_id_once, id_goes_to}
use Rattle.s3r_versions.proofs.removed.keep_id.Goals as goal

pub returns-then-was_removed-clause-ok : goal.returns-then-was_removed-clause-ok
returns-then-was_removed-clause-ok c =
    let there = sym (c.was_removed.ensures ∙ ap (was_removed c.args.id) c.deref.ensures.value) ∙ c.if-was_removed.true in
    sym (keeps_id_once c.args.id c.args.ids.now.items c.requires there)

pub returns-clause-ok : goal.returns-clause-ok
returns-clause-ok c =
    let ids = c.args.ids.now.items in
    let new = sym (c.was_removed.ensures ∙ ap (was_removed c.args.id) c.deref.ensures.value) ∙ c.if-was_removed.false in
    let at = c.unwrap_or-place.ensures
    ∙ ap₂ unwrap_or (c.place_of_id.ensures ∙ ap (position (λ other. not (is_id_before other c.args.id))) c.deref-2.ensures.value)
    (c.len.ensures ∙ (sym c.deref-2.ensures.len ∙ ap length c.deref-2.ensures.value)) in
    c.in_ok-insert.ensures.items ∙ id_goes_to c.args.id ids c.unwrap_or-place.result new at
