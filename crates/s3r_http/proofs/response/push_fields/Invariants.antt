use Rattle.std.proofs.Common.{◌≡◌, ◌++◌, flat_map, take}
use Rattle.s3r_http.specs.Response.{field_line}
use Rattle.s3r_http.proofs.response.push_fields.Given as goal

abbrev pub invariant-loop-field : goal.invariant-loop-field
invariant-loop-field l = l.out.items ≡ l.fn.out.items ++ flat_map field_line (take l.field-index l.fields)
