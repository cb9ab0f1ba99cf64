use Rattle.s3r_record.proofs.Lengths.{regions_keep}
use Rattle.s3r_record.proofs.replication_encoding.regions_keep_length.Goals as goal

pub returns : goal.returns
returns c = regions_keep
