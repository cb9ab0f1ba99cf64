use Rattle.std.proofs.Common.{◌≡◌, true, List, [], ◌∷◌, Option, IfSome, drop, filter, option_copied, refl, sym, ap, ◌∙◌, subst}
use Rattle.std.specs.List.{list_all}
use Rattle.s3r_versions.specs.declared.listing.ListPosition.{ListPosition}
use Rattle.s3r_versions.specs.Listing.{is_after}
use Rattle.s3r_versions.proofs.Choosing.{filter_all}
use Rattle.s3r_versions.proofs.listing.start_after.Goals as goal

pub returns-in-Some-clause-rest : goal.returns-in-Some-clause-rest
returns-in-Some-clause-rest g c =
    let rows = c.args.rows.now in
    subst (λ (place : Option ListPosition). IfSome c.end_of_place.result (λ end. drop end rows ≡ filter (is_after place rows) rows))
    (sym (ap option_copied c.in-Some.is)) c.end_of_place.ensures.rest

all : {X : Type 0} (xs : List X) → list_all (λ x. true) xs ≡ true
all [] = refl
all (x ∷ xs) = all xs

pub returns-in-None-clause-rest : goal.returns-in-None-clause-rest
returns-in-None-clause-rest g c =
    let rows = c.args.rows.now in
    sym (ap (λ (place : Option ListPosition). filter (is_after place rows) rows) (ap option_copied c.in-None.is) ∙ filter_all (λ row. true) rows (all rows))
