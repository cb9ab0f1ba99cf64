use Rattle.std.proofs.Common.{◌≡◌, ◌&&◌, true, false, nat_lt, length, Ok, Err, refl, arith}
use Rattle.std.proofs.lemmas.Bool.Decides.{nat_tests}
use Rattle.s3r_desk.specs.Responds.{AsRead}
use Rattle.s3r_desk.proofs.BetweenTwo.{copied_between, refused_between}
use Rattle.s3r_desk.proofs.turning.copy_between.Goals.{then-from-len, else-from-len}
use Rattle.s3r_desk.proofs.turning.copy_between.Goals as goal

pub returns-then-not-to-len-clause-told : goal.returns-then-not-to-len-clause-told
returns-then-not-to-len-clause-told g c = λ told before keeps.
    let stores = c.args.stores.now.items in
    let outside = g.W.World.outside c.args.world.now in
    let counts = g.W.World.faults c.args.world.now in
    let missing : (nat_lt c.args.from (length stores) && nat_lt c.args.to (length stores)) ≡ false =
    elim c.if-from-len.branch [ then-from-len w ↦ grind (arith, nat_tests) | else-from-len w ↦ grind (arith, nat_tests) ] in
    refused_between (g.W.World.shape c.args.world.now).room c.args.from c.args.to before stores outside missing (AsRead (length stores) outside)
    counts counts (record { most = refl; volume = λ u. omega arith; input = omega arith; output = omega arith; door = omega arith }) keeps

pub returns-in-Ok-clause-told : goal.returns-in-Ok-clause-told
returns-in-Ok-clause-told g c = λ told before keeps.
    let stores = c.args.stores.now.items in
    let outside = g.W.World.outside c.args.world.now in
    let here : (nat_lt c.args.from (length stores) && nat_lt c.args.to (length stores)) ≡ true =
    elim c.if-from-len.branch [ then-from-len w ↦ grind (arith, nat_tests) | else-from-len w ↦ grind (arith, nat_tests) ] in
    copied_between (g.W.World.shape c.args.world.now).room c.args.from c.args.to before stores outside here c.copy_turn.new.stores.items
    (g.W.World.outside c.copy_turn.new.world) (AsRead (length stores) outside) (g.W.World.faults c.args.world.now)
    (g.W.World.faults c.copy_turn.new.world) (Ok c.in-Ok.outcome) (c.in-Ok.ensures.told told before keeps)

pub returns-in-Err-clause-told : goal.returns-in-Err-clause-told
returns-in-Err-clause-told g c = λ told before keeps.
    let stores = c.args.stores.now.items in
    let outside = g.W.World.outside c.args.world.now in
    let here : (nat_lt c.args.from (length stores) && nat_lt c.args.to (length stores)) ≡ true =
    elim c.if-from-len.branch [ then-from-len w ↦ grind (arith, nat_tests) | else-from-len w ↦ grind (arith, nat_tests) ] in
    copied_between (g.W.World.shape c.args.world.now).room c.args.from c.args.to before stores outside here c.copy_turn.new.stores.items
    (g.W.World.outside c.copy_turn.new.world) (AsRead (length stores) outside) (g.W.World.faults c.args.world.now)
    (g.W.World.faults c.copy_turn.new.world) (Err c.in-Err.fault) (c.in-Err.ensures.told told before keeps)
