use Rattle.std.proofs.Common.{◌≡◌, None, length, position, unwrap_or, sym, ap, ap₂, ◌∙◌}
use Rattle.s3r_versions.specs.Order.{comes_before, is_listed}
use Rattle.s3r_versions.specs.Lookup.{has_each_once, find_version}
use Rattle.s3r_versions.specs.Contents.{Contents, with_row}
use Rattle.s3r_versions.proofs.Adding.{goes_to, stays_listed, stays_once}
use Rattle.s3r_versions.proofs.rows.Rows.add.Goals as goal

-- the rows that it leaves
added : (g : _) (c : goal.In_ok-insert g) → c.insert.new.self.items ≡ with_row c.args.row c.self.inside.rows.items
added g c =
    let rows = c.self.inside.rows.items in
    let at : c.unwrap_or-place.result ≡ unwrap_or (position (comes_before c.args.row) rows) (length rows) =
    c.unwrap_or-place.ensures
    ∙ ap₂ unwrap_or (c.place_of.ensures ∙ ap (position (comes_before c.args.row)) c.deref.ensures.value)
    (c.len.ensures ∙ (sym c.deref.ensures.len ∙ ap length c.deref.ensures.value)) in
    c.in_ok-insert.ensures.items ∙ goes_to c.args.row rows c.unwrap_or-place.result at

pub invariant_of-self-2 : goal.invariant_of-self-2
invariant_of-self-2 g c =
    let new : find_version c.args.row.key c.args.row.id c.self.inside.rows.items ≡ None =
    ap (λ (seen : Contents g.row.B.Denot). find_version c.args.row.key c.args.row.id seen.rows) c.self.view_is ∙ c.requires in
    let rows = c.self.inside.rows.items in (
      ap is_listed (added g c) ∙ stays_listed c.args.row rows c.self.invariant.0 new,
      ap has_each_once (added g c)
          ∙ stays_once c.args.row rows c.self.invariant.1 new,
      c.self.invariant.2,
    )

pub returns-clause-ok : goal.returns-clause-ok
returns-clause-ok g c = added g c ∙ ap (λ (seen : Contents g.row.B.Denot). with_row c.args.row seen.rows) c.self.view_is
