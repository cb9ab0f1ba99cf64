use Rattle.std.proofs.Common.{◌≡◌, ◌<◌, ◌∙◌, ℕ, List, [], ◌∷◌, zero, suc, false, length, get_or, map, Result, Ok, Err, sym, ap, subst, arith}
use Rattle.std.specs.List.{list_all}
use Rattle.std.specs.Result.{IsErrAnd, IsErrOf}
use Rattle.std.proofs.lemmas.Bool.{and_left, and_right}
use Rattle.s3r_names.specs.declared.fault.NameFault.TheVariants.{InvalidTag}
use Rattle.s3r_names.specs.Tags.{is_tag}
use Rattle.s3r_names.specs.Query.{tag_of}
use Rattle.s3r_names.proofs.tags.tags_of.Goals as goal

refused_at : (pairs : List (List ℕ × List ℕ)) (i : ℕ) (pair : List ℕ × List ℕ) → i < length pairs → pair ≡ get_or pairs i pair → is_tag (tag_of pair) ≡ false
    → list_all is_tag (map tag_of pairs) ≡ false
refused_at [] i pair h e none = absurd (omega arith)
refused_at (first ∷ pairs) zero pair h e none = and_left (is_tag (tag_of first)) _ (ap (λ p. is_tag (tag_of p)) (sym e) ∙ none)
refused_at (first ∷ pairs) (suc i) pair h e none = and_right (is_tag (tag_of first)) _ (refused_at pairs i pair (omega arith) e none)

at_err : {T E : Type 0} (r : Result T E) (P : E → Type 0) (e : E) → IsErrAnd r P → IsErrOf r e → P e
at_err (Ok x) P e h is = absurd h
at_err (Err x) P e h is = let same : x ≡ e = cc in subst P same h

pub returns-in_err-read-clause-refused : goal.returns-in_err-read-clause-refused
returns-in_err-read-clause-refused c told =
    let same = at_err c.from_residual.result _ InvalidTag c.from_residual.ensures.1 told in
    let refused = c.in_err-read.ensures.refused (λ i. Err (sym same i)) in
    refused_at c.args.pairs.now c.loop-key.key-index c.loop-key-item.result c.loop-key-test.true c.loop-key-item.is
    ((λ i. is_tag (tag_of (sym c.as_slice.ensures i, sym c.as_slice-in-loop-key.ensures i))) ∙ refused)
