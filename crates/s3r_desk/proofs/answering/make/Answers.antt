use Rattle.std.proofs.Common.{◌+◌, ℕ, length, Ok, refl, ap, ◌∙◌, subst}
use Rattle.s3r_desk.specs.declared.committing.Committed.{Committed}
use Rattle.s3r_desk.specs.declared.planning.Plan.TheVariants.{Commits}
use Rattle.s3r_desk.specs.Events.{history_at}
use Rattle.s3r_desk.specs.Steps.{made_of, reply_at}
use Rattle.s3r_desk.specs.Responds.{CommitsOne}
use Rattle.s3r_desk.proofs.Coming.{came_at, came_refused, came_failed}
use Rattle.s3r_desk.proofs.Locations.{known_here}
use Rattle.s3r_desk.proofs.answering.make.Goals as goal

pub returns-in-Err-clause-told : goal.returns-in-Err-clause-told
returns-in-Err-clause-told g c = λ told before keeps.
    let at = history_at before in
    let r = c.args.region in
    let known = known_here before c.args.stores.now.items _ keeps c.requires.read r c.requires.region in
    came_failed before (made_of (length c.args.stores.now.items) at (Commits r c.args.command c.args.reply))
    _ c.args.stores.now.items c.commit.new.stores.items (g.W.World.outside c.args.world.now) (g.W.World.outside c.commit.new.world)
    r c.args.command (reply_at r (length (at r) + 1) c.args.reply) refl c.in-Err.fault (c.in-Err.ensures.told told before (at r) keeps known)

pub returns-in-Ok-At-clause-told : goal.returns-in-Ok-At-clause-told
returns-in-Ok-At-clause-told g c = λ told before keeps.
    let at = history_at before in
    let r = c.args.region in
    let known = known_here before c.args.stores.now.items _ keeps c.requires.read r c.requires.region in
    let did = subst (λ (x : Committed). CommitsOne before (length c.args.stores.now.items) r (at r) c.args.command ((g.W.World.shape c.args.world.now).room r)
    (Ok x) c.commit.new.stores.items (g.W.World.outside c.args.world.now) (g.W.World.outside c.commit.new.world))
    c.in-Ok-At.field-0-is (c.in-Ok-At.ensures.told told before (at r) keeps known) in
    came_at before (made_of (length c.args.stores.now.items) at (Commits r c.args.command c.args.reply)) _ c.args.stores.now.items c.commit.new.stores.items
    (g.W.World.outside c.args.world.now) (g.W.World.outside c.commit.new.world)
    r c.args.command (reply_at r (length (at r) + 1) c.args.reply) refl c.in-Ok-At.index
    c.reply_at.result (c.reply_at.ensures ∙ ap (λ (m : ℕ). reply_at r m c.args.reply) did.0) did

pub returns-in-Ok-Refused-clause-told : goal.returns-in-Ok-Refused-clause-told
returns-in-Ok-Refused-clause-told g c = λ told before keeps.
    let at = history_at before in
    let r = c.args.region in
    let known = known_here before c.args.stores.now.items _ keeps c.requires.read r c.requires.region in
    came_refused before (made_of (length c.args.stores.now.items) at (Commits r c.args.command c.args.reply))
    _ c.args.stores.now.items c.commit.new.stores.items (g.W.World.outside c.args.world.now) (g.W.World.outside c.commit.new.world)
    r c.args.command (reply_at r (length (at r) + 1) c.args.reply) refl c.in-Ok-Refused.refusal
    (subst (λ (x : Committed). CommitsOne before (length c.args.stores.now.items) r (at r) c.args.command ((g.W.World.shape c.args.world.now).room r)
    (Ok x) c.commit.new.stores.items (g.W.World.outside c.args.world.now) (g.W.World.outside c.commit.new.world))
    c.in-Ok-Refused.field-0-is (c.in-Ok-Refused.ensures.told told before (at r) keeps known))
