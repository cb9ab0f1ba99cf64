use Rattle.std.proofs.Common.{◌≡◌, ◌∙◌, sym, ap, true, drop}
use Rattle.std.proofs.lemmas.List.{take_rest}
use Rattle.s3r_http.specs.Head.{begins_empty_line}
use Rattle.s3r_http.proofs.Heads.{found_at, found_within}
use Rattle.s3r_http.proofs.head.head_end.Goals as goal

pub returns-then-starts_with-clause-found : goal.returns-then-starts_with-clause-found
returns-then-starts_with-clause-found c =
    let begins : begins_empty_line (drop c.loop-i.i c.args.bytes.now) ≡ true =
    ap begins_empty_line (sym (take_rest c.args.bytes.now c.loop-i.i)) ∙ (sym c.starts_with.ensures.value ∙ c.if-starts_with.true) in
    let found = found_at c.args.bytes.now c.loop-i.i c.loop-i.invariant begins in
    (found, (found_within c.args.bytes.now _ found).1)
