use Rattle.std.proofs.Common.{length, Ok, subst}
use Rattle.s3r_desk.specs.declared.committing.Committed.{Committed}
use Rattle.s3r_desk.specs.Events.{history_at}
use Rattle.s3r_desk.specs.Responds.{CommitsOne}
use Rattle.s3r_desk.specs.Committing.{IsRefusedAt}
use Rattle.s3r_desk.proofs.OneCommit.{never_refused, known_at, own_made, own_failed}
use Rattle.s3r_desk.proofs.own_commit.commit_own.Goals as goal

pub unreachable-requires : goal.unreachable-requires
unreachable-requires g c =
    never_refused c.args.stores.now.items c.args.region c.args.command c.in-Ok-Refused.field-0-0 c.requires.region c.requires.read c.requires.accepted
    (subst (λ (x : Committed). IsRefusedAt c.args.stores.now.items c.args.region c.args.command (Ok x)) c.in-Ok-Refused.field-0-is
    c.in-Ok-Refused.ensures.refused)

pub returns-in-Ok-At-clause-told : goal.returns-in-Ok-At-clause-told
returns-in-Ok-At-clause-told g c = λ told before keeps.
    let r = c.args.region in
    let old = g.W.World.outside c.args.world.now in
    let new = g.W.World.outside c.commit.new.world in
    let known = known_at before c.args.stores.now.items r old keeps c.requires.region c.requires.read in
    own_made before c.args.stores.now.items c.commit.new.stores.items r c.args.command (g.W.World.shape c.args.world.now).room old new c.in-Ok-At.field-0-0
    (subst (λ (x : Committed). CommitsOne before (length c.args.stores.now.items) r (history_at before r) c.args.command
    ((g.W.World.shape c.args.world.now).room r) (Ok x) c.commit.new.stores.items old new) c.in-Ok-At.field-0-is
    (c.in-Ok-At.ensures.told told before (history_at before r) keeps known))

pub returns-in-Err-clause-told : goal.returns-in-Err-clause-told
returns-in-Err-clause-told g c = λ told before keeps.
    let r = c.args.region in
    let old = g.W.World.outside c.args.world.now in
    let known = known_at before c.args.stores.now.items r old keeps c.requires.region c.requires.read in
    own_failed before c.args.stores.now.items c.commit.new.stores.items r c.args.command (g.W.World.shape c.args.world.now).room old
    (g.W.World.outside c.commit.new.world) c.in-Err.fault (c.in-Err.ensures.told told before (history_at before r) keeps known)
