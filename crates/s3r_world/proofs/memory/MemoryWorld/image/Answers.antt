use Rattle.s3r_world.proofs.Picks.{picked_image}
use Rattle.s3r_world.specs.Memory.{story_of}
use Rattle.s3r_world.proofs.memory.MemoryWorld.image.Goals as goal

pub returns-in_err-disk-clause-one : goal.returns-in_err-disk-clause-one
returns-in_err-disk-clause-one c = picked_image c.args.pick (story_of c.args.self.now)

pub returns-clause-one : goal.returns-clause-one
returns-clause-one c = picked_image c.args.pick (story_of c.args.self.now)
