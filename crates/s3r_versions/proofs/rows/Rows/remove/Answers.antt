use Rattle.std.proofs.Common.{◌≡◌, true, not, Some, None, cond, position, is_some, sym, ap, ◌∙◌}
use Rattle.s3r_versions.specs.Order.{is_listed, is_rising}
use Rattle.s3r_versions.specs.Lookup.{is_version, has_each_once, find_version}
use Rattle.s3r_versions.specs.Contents.{Contents, without_version}
use Rattle.s3r_versions.specs.Removed.{with_id}
use Rattle.s3r_versions.proofs.Choosing.{removal_keeps_order, filter_all}
use Rattle.s3r_versions.proofs.RemovedIds.{stays_rising}
use Rattle.s3r_versions.proofs.Places.{find_there, none_of, remove-is}
use Rattle.s3r_versions.proofs.rows.Rows.remove.Goals as goal

-- the rows that it leaves
left : (g : _) (c : goal.After-drop g) → c.remove.new.self.items ≡ without_version c.args.key.now c.args.id c.self.inside.rows.items
left g c =
    let at = sym (c.in-Some.ensures ∙ ap (position (is_version c.args.key.now c.args.id)) c.deref.ensures.value) in
    c.remove.ensures.items ∙ remove-is c.args.key.now c.args.id c.self.inside.rows.items c.in-Some.place c.self.invariant.1 at

-- the version is there
there : (g : _) (c : goal.After-drop g) → true ≡ is_some (find_version c.args.key.now c.args.id c.args.self.now.rows)
there g c =
    find_there (is_version c.args.key.now c.args.id) c.self.inside.rows.items (Some c.in-Some.place)
    (c.in-Some.ensures ∙ ap (position (is_version c.args.key.now c.args.id)) c.deref.ensures.value)
    ∙ ap (λ (seen : Contents g.row.B.Denot). is_some (find_version c.args.key.now c.args.id seen.rows)) c.self.view_is

pub invariant_of-self-in-Some : goal.invariant_of-self-in-Some
invariant_of-self-in-Some g c =
    let rows = c.self.inside.rows.items in
    let order = removal_keeps_order c.args.key.now c.args.id rows in (
      ap is_listed (left g c) ∙ order.0 c.self.invariant.0,
      ap has_each_once (left g c) ∙ order.1 c.self.invariant.1,
      ap is_rising c.in_ok-keep_id-in-Some.ensures.ok ∙ stays_rising c.args.id c.self.inside.removed.items c.self.invariant.2,
    )

pub returns-in_ok-keep_id-in-Some-clause-ok : goal.returns-in_ok-keep_id-in-Some-clause-ok
returns-in_ok-keep_id-in-Some-clause-ok g c = there g c

pub returns-in_ok-keep_id-in-Some-clause-rows : goal.returns-in_ok-keep_id-in-Some-clause-rows
returns-in_ok-keep_id-in-Some-clause-rows g c =
    left g c ∙ ap (λ (seen : Contents g.row.B.Denot). without_version c.args.key.now c.args.id seen.rows) c.self.view_is

pub returns-in_ok-keep_id-in-Some-clause-removed : goal.returns-in_ok-keep_id-in-Some-clause-removed
returns-in_ok-keep_id-in-Some-clause-removed g c =
    c.in_ok-keep_id-in-Some.ensures.ok
    ∙ ap (λ (seen : Contents g.row.B.Denot). with_id c.args.id seen.removed) c.self.view_is
    ∙ ap (λ t. cond t (with_id c.args.id c.args.self.now.removed) c.args.self.now.removed) (there g c)

pub returns-in-None-clause-ok : goal.returns-in-None-clause-ok
returns-in-None-clause-ok g c =
    find_there (is_version c.args.key.now c.args.id) c.self.inside.rows.items None
    (sym c.in-None.is ∙ c.place_of_version.ensures ∙ ap (position (is_version c.args.key.now c.args.id)) c.deref.ensures.value)
    ∙ ap (λ (seen : Contents g.row.B.Denot). is_some (find_version c.args.key.now c.args.id seen.rows)) c.self.view_is

pub returns-in-None-clause-rows : goal.returns-in-None-clause-rows
returns-in-None-clause-rows g c =
    let none = none_of (is_version c.args.key.now c.args.id) c.self.inside.rows.items
    (sym (sym c.in-None.is ∙ c.place_of_version.ensures ∙ ap (position (is_version c.args.key.now c.args.id)) c.deref.ensures.value)) in
    let same = sym (filter_all (λ row. not (is_version c.args.key.now c.args.id row)) c.self.inside.rows.items none) in
    ap (λ (seen : Contents g.row.B.Denot). seen.rows) (sym c.self.view_is) ∙ same
    ∙ ap (λ (seen : Contents g.row.B.Denot). without_version c.args.key.now c.args.id seen.rows) c.self.view_is

pub returns-in-None-clause-removed : goal.returns-in-None-clause-removed
returns-in-None-clause-removed g c =
    let gone = find_there (is_version c.args.key.now c.args.id) c.self.inside.rows.items None
    (sym c.in-None.is ∙ c.place_of_version.ensures ∙ ap (position (is_version c.args.key.now c.args.id)) c.deref.ensures.value)
    ∙ ap (λ (seen : Contents g.row.B.Denot). is_some (find_version c.args.key.now c.args.id seen.rows)) c.self.view_is in
    ap (λ t. cond t (with_id c.args.id c.args.self.now.removed) c.args.self.now.removed) gone
