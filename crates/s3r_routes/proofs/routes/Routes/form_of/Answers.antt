use Rattle.std.proofs.Common.{ap, sym, ◌∙◌, arith}
use Rattle.std.specs.Prelude.{option_map}
use Rattle.matchit.specs.Router.{RouteOf}
use Rattle.matchit.specs.Seek.{first}
use Rattle.s3r_routes.specs.declared.routes.PathForm.{PathForm}
use Rattle.s3r_routes.proofs.PathForms.{form_first, text_from}
use Rattle.s3r_routes.proofs.routes.Routes.form_of.Goals as goal

pub returns-in-Ok : goal.returns-in-Ok
returns-in-Ok c =
    let text = text_from c.args.path.now (λ i. omega (arith, c.type_inv.path i)) in
    ap (option_map (λ (r : RouteOf PathForm). r.value)) (sym c.in-Ok.ensures.found)
    ∙ ap (λ rows. option_map (λ (r : RouteOf PathForm). r.value) (first rows c.args.path.now)) c.args.self.now.has_patterns
    ∙ form_first c.args.path.now text

pub returns-in-Err : goal.returns-in-Err
returns-in-Err c =
    let text = text_from c.args.path.now (λ i. omega (arith, c.type_inv.path i)) in
    ap (option_map (λ (r : RouteOf PathForm). r.value)) (sym c.in-Err.ensures.missing)
    ∙ ap (λ rows. option_map (λ (r : RouteOf PathForm). r.value) (first rows c.args.path.now)) c.args.self.now.has_patterns
    ∙ form_first c.args.path.now text
