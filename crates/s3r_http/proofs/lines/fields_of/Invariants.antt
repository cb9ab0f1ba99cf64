use Rattle.std.proofs.Common.{◌≡◌, map, take}
use Rattle.s3r_http.specs.Lines.{line_of}
use Rattle.s3r_http.proofs.lines.fields_of.Given as goal

abbrev pub invariant-loop-header : goal.invariant-loop-header
invariant-loop-header l = map line_of l.fields.items ≡ map (λ f. (f.name.now, f.value.now)) (take l.header-index l.headers)
