use Rattle.std.proofs.Common.{sym, ◌∙◌}
use Rattle.s3r_http.specs.Lines.{line_of}
use Rattle.s3r_http.proofs.LineLists.{list_any-map}
use Rattle.s3r_http.proofs.lines.has_line.Goals as goal

pub returns : goal.returns
returns c = c.has_named.ensures ∙ sym (list_any-map _ line_of c.args.fields.now)
