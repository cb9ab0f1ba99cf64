use Rattle.std.proofs.Common.{length}
use Rattle.s3r_desk.proofs.replication.put_replication.Goals as goal

pub returns-in-None-clause-fits : goal.returns-in-None-clause-fits
returns-in-None-clause-fits c = c.set_replication.ensures.fits (length c.args.stores.now) c.in-Some.ensures.within
