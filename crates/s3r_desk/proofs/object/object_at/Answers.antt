use Rattle.s3r_region.specs.After.{told_by}
use Rattle.s3r_desk.proofs.Ids.{found_id}
use Rattle.s3r_desk.proofs.object.object_at.Goals as goal

pub returns-clause-id : goal.returns-clause-id
returns-clause-id c = found_id c.args.key.now c.args.version (told_by c.args.location.bucket.now) c.object_of.result c.args.location.ids c.object_of.ensures
