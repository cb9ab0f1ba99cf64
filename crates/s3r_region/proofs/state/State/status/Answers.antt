use Rattle.std.proofs.Common.{◌∙◌}
use Rattle.s3r_region.proofs.Views.{status-is}
use Rattle.s3r_region.proofs.state.State.status.Goals as goal

pub returns-clause-after : goal.returns-clause-after
returns-clause-after c h a = c.status_seen.ensures ∙ status-is c.args.self.now h a c.args.bucket.now c.args.key.now c.args.id
