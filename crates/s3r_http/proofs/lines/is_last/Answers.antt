use Rattle.std.proofs.Common.{sym, ◌∙◌, ap, map, ◌||◌}
use Rattle.std.proofs.lemmas.Bool.{ne_eqb}
use Rattle.std.specs.List.{list_any}
use Rattle.s3r_http.specs.Lines.{line_of, says_close}
use Rattle.s3r_http.proofs.LineLists.{list_any-map}
use Rattle.s3r_http.proofs.lines.is_last.Goals as goal

pub returns-else-minor-eq0 : goal.returns-else-minor-eq0
returns-else-minor-eq0 c =
    c.any_says_close.ensures ∙ sym (list_any-map says_close line_of c.args.fields.now)
    ∙ sym (ap (λ b. b || list_any says_close (map line_of c.args.fields.now)) (ne_eqb c.args.minor 0 c.if-minor-eq0.false))
