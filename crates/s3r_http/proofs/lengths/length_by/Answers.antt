use Rattle.std.proofs.Common.{◌≡◌, ℕ, List, Bor, true, false, refl, sym, ◌∙◌}
use Rattle.std.proofs.lemmas.List.Folds.{list_all-map}
use Rattle.s3r_http.specs.Lines.{says_same, number_of}
use Rattle.s3r_http.proofs.lengths.length_by.Goals as goal

pub returns-then-not-others_say : goal.returns-then-not-others_say
returns-then-not-others_say c = λ n says.
    let e : false ≡ true = c.if-not-others_say.ensures ∙ sym (list_all-map (says_same c.args.first.now)
    (λ (other : Bor (List ℕ)). other.now) c.args.others.now) ∙ says.1 in
    absurd cc

pub returns-in-Some : goal.returns-in-Some
returns-in-Some c = (
  (
    sym c.if-not-is_number.ensures,
    list_all-map (says_same c.args.first.now) (λ (other : Bor (List ℕ)). other.now) c.args.others.now
        ∙ sym c.if-not-others_say.ensures,
    c.in-Some.ensures.within.0,
  ),
  c.in-Some.ensures.within.1,
)

pub returns-in-None : goal.returns-in-None
returns-in-None c = (
  number_of c.args.first.now,
  (
    sym c.if-not-is_number.ensures,
    list_all-map (says_same c.args.first.now) (λ (other : Bor (List ℕ)). other.now) c.args.others.now
        ∙ sym c.if-not-others_say.ensures,
    refl,
  ),
  c.in-None.ensures.above,
)
