use Rattle.std.proofs.Common.{◌≡◌, ◌∙◌, ◌++◌, Result, Ok, Err, OnErr, length, drop, sym, ap, subst, arith, List, ℕ, take-append-drop, length-append}
use Rattle.s3r_world.specs.Moments.{falls_then, shape_then}
use Rattle.std.proofs.lemmas.List.{append-nil}
use Rattle.s3r_http.specs.Head.{head_length, NoneBefore}
use Rattle.s3r_http.proofs.Pieces.{reads_then}
use Rattle.s3r_http.proofs.Heads.{head_found, head_too_long, head_cut, none_kept, none_found}
use Rattle.s3r_http.proofs.head.read_head.Goals as goal

pub returns-in-Some-clause-head : goal.returns-in-Some-clause-head
returns-in-Some-clause-head g c = λ told.
    head_found c.filling.buffer _ c.in-Some.end c.within_limit.result (ap head_length (sym c.as_slice.ensures) ∙ c.in-Some.ensures.found.0)
    c.within_limit.ensures.found c.within_limit.ensures.too_long

pub returns-then-length-ge-HEAD_LIMIT-clause-head :
    goal.returns-then-length-ge-HEAD_LIMIT-clause-head
returns-then-length-ge-HEAD_LIMIT-clause-head g c = λ told.
    head_too_long c.filling.buffer _ (subst (λ (b : List ℕ). NoneBefore (length b) b) c.as_slice.ensures c.in_default.ensures.none) (omega arith)

pub returns-else-length-eq0-clause-head : goal.returns-else-length-eq0-clause-head
returns-else-length-eq0-clause-head g c = λ told.
    let over = c.in_ok-fill.ensures.over told c.if-not-branch.true in
    let stream = (c.in_ok-fill.ensures.told told).stream ∙ ap (λ (l : List ℕ). c.filling.buffer ++ l) over.0 ∙ append-nil c.filling.buffer in
    head_cut c.filling.buffer _ stream (subst (λ (b : List ℕ). NoneBefore (length b) b) c.as_slice.ensures c.in_default.ensures.none)
    (λ e. c.if-length-eq0.false (c.len-length.ensures ∙ e)) (omega arith)

pub filling-preserved : goal.filling-preserved
filling-preserved g c =
    let was = c.filling.invariant in
    let none = subst (λ (b : List ℕ). NoneBefore (length b) b) c.as_slice.ensures c.in_default.ensures.none in
    let more = drop (length c.filling.buffer) c.fill.new.self in
    let is : c.filling.buffer ++ more ≡ c.fill.new.self = ap (λ (l : List ℕ). l ++ more) (sym c.in_ok-fill.ensures.kept)
    ∙ take-append-drop (length c.filling.buffer) c.fill.new.self in
    record {
      none = subst (λ (b : List ℕ). NoneBefore c.saturating_sub-searched.result b) is (λ i l. none_kept c.filling.buffer more none i (omega arith));
      within = omega (arith, ap length is, length-append c.filling.buffer more);
      told = λ told. reads_then _ _ _ _ _ _ (was.told told) (c.in_ok-fill.ensures.told told);
      counts = falls_then _ _ _ was.counts c.in_ok-fill.ensures.counts;
      goes = g.met.W.World.goes_then _ _ _ was.goes c.in_ok-fill.ensures.goes;
      shape = shape_then _ _ _ was.shape c.in_ok-fill.ensures.shape;
    }

always : {T E : Type 0} (r : Result T E) (P : Type 0) → P → OnErr r P
always (Ok x) P p = tt
always (Err e) P p = p

pub returns-in_err-fill-clause-waiting : goal.returns-in_err-fill-clause-waiting
returns-in_err-fill-clause-waiting g c =
    always c.from_residual.result _ (ap head_length c.in_err-fill.ensures.err
    ∙ none_found c.filling.buffer (subst (λ (b : List ℕ). NoneBefore (length b) b) c.as_slice.ensures c.in_default.ensures.none))
