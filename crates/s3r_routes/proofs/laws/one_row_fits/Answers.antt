use Rattle.s3r_routes.proofs.OneRow.{one_row_fits}
use Rattle.s3r_routes.proofs.laws.one_row_fits.Goals as goal

pub returns : goal.returns
returns c = one_row_fits
