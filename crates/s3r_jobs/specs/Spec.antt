-- What a job is asked to do, as its JSON names it.
use Rattle.std.specs.Prelude.{ℕ, List, codes}
use Rattle.s3r_jobs.specs.declared.spec.Operation.{Operation}
use Rattle.s3r_jobs.specs.declared.spec.Operation.TheVariants as operation

abbrev pub operation_name : Operation → List ℕ
operation_name (operation.Copy target prefix) = codes "S3PutObjectCopy"
operation_name (operation.Tagging tags) = codes "S3PutObjectTagging"
operation_name (operation.Hold hold) = codes "S3PutObjectLegalHold"
operation_name operation.Replicate = codes "S3ReplicateObject"
