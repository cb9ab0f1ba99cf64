use Rattle.std.proofs.Common.{map, ap, ◌∙◌}
use Rattle.s3r_http.specs.Lines.{line_of}
use Rattle.s3r_http.proofs.Causes.{head_cause}
use Rattle.s3r_http.proofs.reading.framed_head.Goals as goal

pub returns-in-Err-clause-cause : goal.returns-in-Err-clause-cause
returns-in-Err-clause-cause c =
    let read = c.in_ok-head.ensures.read in
    head_cause c.in-Err.fault c.args.bytes.now read.0 (map line_of c.deref.result.now) read.1
    (ap (map line_of) c.deref.ensures.value ∙ read.2.fields) c.in-Err.ensures.cause
