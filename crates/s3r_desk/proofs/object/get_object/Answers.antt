use Rattle.std.proofs.Common.{length}
use Rattle.s3r_desk.proofs.object.get_object.Goals as goal

pub returns-in-Some-sought-clause-fits : goal.returns-in-Some-sought-clause-fits
returns-in-Some-sought-clause-fits c = c.object_shown.ensures.fits (length c.args.stores.now) c.in-Some.ensures.within
