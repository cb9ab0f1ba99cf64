use Rattle.std.proofs.Common.{◌∙◌, ap, string_bytes}
use Rattle.std.proofs.lemmas.Result.{IfOk-weaker}
use Rattle.s3r_names.specs.Query.{query_text}
use Rattle.s3r_names.proofs.TagQueries.{query-reads}
use Rattle.s3r_names.proofs.tags.TagSet.print_query.Goals as goal

pub returns-clause-reads : goal.returns-clause-reads
returns-clause-reads c =
    IfOk-weaker c.query_text.result _ _
    (λ text e. query-reads c.args.self.now (string_bytes text) c.as_slice.ensures.named (e ∙ ap query_text c.as_slice.ensures.listed))
    c.query_text.ensures
