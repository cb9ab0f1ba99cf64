use Rattle.s3r_store.proofs.Histories.{one_lawful_history}
use Rattle.s3r_store.proofs.laws.one_lawful_history.Goals as goal

pub returns : goal.returns
returns c = one_lawful_history
