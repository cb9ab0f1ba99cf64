use Rattle.std.proofs.Common.{◌≡◌, true, sym}
use Rattle.s3r_names.specs.Bucket.{is_bucket_name}
use Rattle.s3r_names.proofs.BucketNames.{name-utf8}
use Rattle.s3r_names.proofs.bucket.BucketName.read.Goals as goal

pub unreachable-requires : goal.unreachable-requires
unreachable-requires c =
    let named : is_bucket_name c.args.bytes.now ≡ true = sym c.if-not-is_bucket_name.ensures in
    c.in-Err.ensures.cases.0 (name-utf8 c.args.bytes.now named)
