use Rattle.std.proofs.Common.{◌≡◌, map, take}
use Rattle.s3r_http.specs.Lines.{line_of, values_of}
use Rattle.s3r_http.proofs.lengths.values_of.Given as goal

abbrev pub invariant-loop-field : goal.invariant-loop-field
invariant-loop-field l = map (λ value. value.now) l.values.items ≡ values_of l.name (map line_of (take l.field-index l.fields))
