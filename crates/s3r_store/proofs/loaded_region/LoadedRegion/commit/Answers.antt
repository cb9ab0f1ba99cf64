use Rattle.s3r_record.proofs.Lengths.{meets_limits}
use Rattle.s3r_store.proofs.loaded_region.LoadedRegion.commit.Goals as goal

pub go_on-requires-clause-short : goal.go_on-requires-clause-short
go_on-requires-clause-short g c = meets_limits c.args.command c.requires.fits
