use Rattle.std.proofs.Common.{arith}
use Rattle.s3r_jobs_json.proofs.Fields.{too_few, too_many}
use Rattle.s3r_jobs_json.proofs.form.versions_in.Goals as goal

pub returns-in_default : goal.returns-in_default
returns-in_default c = too_few c.args.fields.now (omega arith)

pub returns-in_default-5 : goal.returns-in_default-5
returns-in_default-5 c = too_many c.args.fields.now (omega arith)
