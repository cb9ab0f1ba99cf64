use Rattle.std.proofs.Common.{◌≡◌, Some, None, set, position, is_some, sym, ap, ◌∙◌}
use Rattle.s3r_versions.specs.Order.{is_listed}
use Rattle.s3r_versions.specs.Lookup.{is_version, has_each_once, find_version}
use Rattle.s3r_versions.specs.Contents.{Contents, on_version, with_hold}
use Rattle.s3r_versions.proofs.Changing.{change_keeps_order, writes_keep_places}
use Rattle.s3r_versions.proofs.Places.{find_there, none_of, on_none, set-is}
use Rattle.s3r_versions.proofs.rows.Rows.set_hold.Goals as goal

-- the rows that it leaves
written : (g : _) (c : goal.After-self-1 g) → set c.self.inside.rows.items c.in-Some.place c.write_hold.new.row ≡ on_version c.args.key.now c.args.id
    (with_hold c.args.stamp c.args.hold) c.self.inside.rows.items
written g c =
    let at = sym (c.in-Some.ensures ∙ ap (position (is_version c.args.key.now c.args.id)) c.deref.ensures.value) in
    set-is c.args.key.now c.args.id (with_hold c.args.stamp c.args.hold)
    c.self.inside.rows.items c.in-Some.place c.index_mut.result.now c.write_hold.new.row c.self.invariant.1 at c.index_mut.ensures.value
    c.write_hold.ensures

pub invariant_of-self : goal.invariant_of-self
invariant_of-self g c =
    let order = change_keeps_order c.args.key.now c.args.id (with_hold c.args.stamp c.args.hold) c.self.inside.rows.items
    ((writes_keep_places c.args.stamp).1 c.args.hold) in
    (ap is_listed (written g c) ∙ order.0 ∙ c.self.invariant.0, ap has_each_once (written g c) ∙ order.1 ∙ c.self.invariant.1, c.self.invariant.2)

pub returns-in-Some-clause-there : goal.returns-in-Some-clause-there
returns-in-Some-clause-there g c =
    find_there (is_version c.args.key.now c.args.id) c.self.inside.rows.items (Some c.in-Some.place)
    (c.in-Some.ensures ∙ ap (position (is_version c.args.key.now c.args.id)) c.deref.ensures.value)
    ∙ ap (λ (seen : Contents g.row.B.Denot). is_some (find_version c.args.key.now c.args.id seen.rows)) c.self.view_is

pub returns-in-Some-clause-rows : goal.returns-in-Some-clause-rows
returns-in-Some-clause-rows g c =
    written g c ∙ ap (λ (seen : Contents g.row.B.Denot). on_version c.args.key.now c.args.id (with_hold c.args.stamp c.args.hold) seen.rows) c.self.view_is

pub returns-in-None-clause-there : goal.returns-in-None-clause-there
returns-in-None-clause-there g c =
    find_there (is_version c.args.key.now c.args.id) c.self.inside.rows.items None
    (sym c.in-None.is ∙ c.place_of_version.ensures ∙ ap (position (is_version c.args.key.now c.args.id)) c.deref.ensures.value)
    ∙ ap (λ (seen : Contents g.row.B.Denot). is_some (find_version c.args.key.now c.args.id seen.rows)) c.self.view_is

pub returns-in-None-clause-rows : goal.returns-in-None-clause-rows
returns-in-None-clause-rows g c =
    let none = none_of (is_version c.args.key.now c.args.id) c.self.inside.rows.items
    (sym (sym c.in-None.is ∙ c.place_of_version.ensures ∙ ap (position (is_version c.args.key.now c.args.id)) c.deref.ensures.value)) in
    let same = sym (on_none c.args.key.now c.args.id (with_hold c.args.stamp c.args.hold) c.self.inside.rows.items none) in
    ap (λ (seen : Contents g.row.B.Denot). seen.rows) (sym c.self.view_is) ∙ same
    ∙ ap (λ (seen : Contents g.row.B.Denot). on_version c.args.key.now c.args.id (with_hold c.args.stamp c.args.hold) seen.rows) c.self.view_is
