use Rattle.s3r_store.proofs.Lawful.{after-some}
use Rattle.s3r_store.proofs.store.Store.is_after_some.Goals as goal

pub returns : goal.returns
returns c = after-some c.args.self.now
