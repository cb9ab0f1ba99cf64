use Rattle.s3r_desk.proofs.PlacedRules.{config_few}
use Rattle.s3r_desk.proofs.replication.not_taken.Goals as goal

pub first_wrong-requires : goal.first_wrong-requires
first_wrong-requires c = rw c.as_slice.ensures.listed (config_few c.args.config.now c.as_slice.ensures.lawful)
