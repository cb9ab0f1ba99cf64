use Rattle.std.proofs.Common.{◌≡◌, [], ◌++◌, ℕ, subst, arith}
use Rattle.s3r_desk.specs.Careful.{AreCareful}
use Rattle.s3r_service.specs.Passing.{Passes}
use Rattle.s3r_service.specs.Turns.{events_of, events_in}
use Rattle.s3r_service.proofs.Passing.{stays_sound}
use Rattle.s3r_service.proofs.Careful.{conversation_careful}
use Rattle.s3r_service.proofs.s3r.Goals as goal

pub returns-in-Ok-clause-sound : goal.returns-in-Ok-clause-sound
returns-in-Ok-clause-sound g c = λ told meant sound.
    let same : c.in-Some.words.regions ≡ (g.W.World.shape c.args.world.now).volumes = omega (arith) in
    let start = g.W.World.outside c.args.world.now in
    let end = g.W.World.outside c.serve.new.world in
    let served = (c.in-Ok.ensures.served told).conversation in
    let events = (served.closing ++ events_in served.final) ++ events_of served.turns in
    let careful = conversation_careful c.in-Some.words.regions _ _ _ _ start end _ _ served in
    stays_sound (g.W.World.shape c.args.world.now).volumes events start end (subst (λ (n : ℕ). AreCareful n [] events) same careful)
    (subst (λ (n : ℕ). Passes n events start end) same served.passes) sound

pub returns-in-Err-clause-sound : goal.returns-in-Err-clause-sound
returns-in-Err-clause-sound g c = λ told meant sound.
    let same : c.in-Some.words.regions ≡ (g.W.World.shape c.args.world.now).volumes = omega (arith) in
    let start = g.W.World.outside c.args.world.now in
    let end = g.W.World.outside c.serve.new.world in
    let served = (c.in-Err.ensures.served told).conversation in
    let events = (served.closing ++ events_in served.final) ++ events_of served.turns in
    let careful = conversation_careful c.in-Some.words.regions _ _ _ _ start end _ _ served in
    stays_sound (g.W.World.shape c.args.world.now).volumes events start end (subst (λ (n : ℕ). AreCareful n [] events) same careful)
    (subst (λ (n : ℕ). Passes n events start end) same served.passes) sound
