use Rattle.std.proofs.Common.{length, Ok, Err, refl, arith}
use Rattle.std.proofs.lemmas.Bool.Decides.{nat_tests}
use Rattle.s3r_desk.specs.Responds.{AsRead}
use Rattle.s3r_desk.proofs.OfJobs.{stepped_there, refused_there}
use Rattle.s3r_desk.proofs.turning.jobs_of.Goals as goal

pub returns-then-not-region-len-clause-told : goal.returns-then-not-region-len-clause-told
returns-then-not-region-len-clause-told g c = λ told before keeps.
    let stores = c.args.stores.now.items in
    let outside = g.W.World.outside c.args.world.now in
    let counts = g.W.World.faults c.args.world.now in
    refused_there (g.W.World.shape c.args.world.now).room c.args.region before stores outside (AsRead (length stores) outside) counts counts
    (grind (arith, nat_tests)) (record { most = refl; volume = λ u. omega arith; input = omega arith; output = omega arith; door = omega arith }) keeps

pub returns-in-Ok-clause-told : goal.returns-in-Ok-clause-told
returns-in-Ok-clause-told g c = λ told before keeps.
    let stores = c.args.stores.now.items in
    let outside = g.W.World.outside c.args.world.now in
    stepped_there (g.W.World.shape c.args.world.now).room c.args.region before stores outside (AsRead (length stores) outside)
    (g.W.World.faults c.args.world.now) (g.W.World.faults c.job_turn.new.world) (grind (arith, nat_tests)) c.job_turn.new.stores.items
    (g.W.World.outside c.job_turn.new.world) (Ok c.in-Ok.outcome) (c.in-Ok.ensures.told told before keeps)

pub returns-in-Err-clause-told : goal.returns-in-Err-clause-told
returns-in-Err-clause-told g c = λ told before keeps.
    let stores = c.args.stores.now.items in
    let outside = g.W.World.outside c.args.world.now in
    stepped_there (g.W.World.shape c.args.world.now).room c.args.region before stores outside (AsRead (length stores) outside)
    (g.W.World.faults c.args.world.now) (g.W.World.faults c.job_turn.new.world) (grind (arith, nat_tests)) c.job_turn.new.stores.items
    (g.W.World.outside c.job_turn.new.world) (Err c.in-Err.fault) (c.in-Err.ensures.told told before keeps)
