use Rattle.std.proofs.Common.{◌≡◌, ◌+◌, ◌-◌, ◌≤◌, length, take, drop, arith, ◌∙◌, ap, length-drop}
use Rattle.std.proofs.lemmas.List.{take_at, take_all, length-take}
use Rattle.s3r_http.proofs.Pieces.{joined, reads_piece}
use Rattle.s3r_http.proofs.buffer.append_piece.Goals as goal

pub returns-in-Ok-clause-told : goal.returns-in-Ok-clause-told
returns-in-Ok-clause-told g c = λ told.
    let took = c.in-Ok.ensures.told told in
    let len = c.len-len.result in
    let old = c.args.bytes.now.items in
    let room = c.deref_mut.result.now in
    let is : length old ≡ len = omega (arith, c.len-len.ensures, c.args.bytes.now.ok.0) in
    let front : take len room ≡ old =
    ap (take len) (c.deref_mut.ensures.value ∙ c.in_ok-resize.ensures.items)
    ∙ take_at (take (len + 65536) old) _ len (omega (arith, length-take (len + 65536) old, is))
    ∙ take_all (len + 65536) old (omega (arith, is)) in
    let most : len + c.in-Ok.count ≤ c.resize.new.self.len = omega (
      arith,
      c.in-Ok.ensures.within,
      length-take (length room - len) (drop len room),
      length-drop len room,
      c.deref_mut.ensures.len,
      c.in_ok-resize.ensures.len,
    ) in
    reads_piece old _ _ _ c.in-Ok.count _ _ (c.truncate.ensures.items ∙ joined len c.in-Ok.count _ old _ _ _ _ _ _ front is most took.within took.bytes) took
