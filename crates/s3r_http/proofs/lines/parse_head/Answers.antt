use Rattle.s3r_http.proofs.Whole.{not_all, too_many}
use Rattle.s3r_http.proofs.lines.parse_head.Goals as goal

pub returns-then-len-bytes-clause-cause : goal.returns-then-len-bytes-clause-cause
returns-then-len-bytes-clause-cause c =
    let held = rw c.in-Ok-Complete.field-0-is at c.in-Ok-Complete.ensures.complete in
    λ h whole. not_all _ _ _ held c.if-len-bytes.true h whole

pub returns-then-request-gt64-clause-cause : goal.returns-then-request-gt64-clause-cause
returns-then-request-gt64-clause-cause c =
    let held = rw c.in-Ok-Complete.field-0-is at c.in-Ok-Complete.ensures.complete in
    λ h whole. too_many _ _ _ held c.if-request-gt64.true h whole
