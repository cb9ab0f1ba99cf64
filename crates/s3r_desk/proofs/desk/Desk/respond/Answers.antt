use Rattle.std.proofs.Common.{Ok, Err, refl, sym, ◌∙◌}
use Rattle.s3r_desk.specs.declared.request.Answer.TheVariants as answer
use Rattle.s3r_desk.proofs.Responding.{responds_copied, responds_jobs, responds_worked}
use Rattle.s3r_desk.proofs.desk.Desk.respond.Goals as goal

pub returns-in-Copy-clause-told : goal.returns-in-Copy-clause-told
returns-in-Copy-clause-told g c = λ told before keeps.
    responds_copied before c.args.request (g.W.World.shape c.args.world.now).room c.copy_between.result c.args.self.now.stores.items
    c.copy_between.new.stores.items (g.W.World.outside c.args.world.now) (g.W.World.outside c.copy_between.new.world)
    (g.W.World.faults c.args.world.now) (g.W.World.faults c.copy_between.new.world) c.in-Copy.from c.in-Copy.to (sym c.turn_of.ensures ∙ c.in-Copy.is)
    (c.copy_between.ensures.told told before keeps) (c.copy_between.ensures.damage told)

pub returns-in-Jobs-clause-told : goal.returns-in-Jobs-clause-told
returns-in-Jobs-clause-told g c = λ told before keeps.
    responds_jobs before c.args.request (g.W.World.shape c.args.world.now).room c.jobs_of.result c.args.self.now.stores.items c.jobs_of.new.stores.items
    (g.W.World.outside c.args.world.now) (g.W.World.outside c.jobs_of.new.world) (g.W.World.faults c.args.world.now)
    (g.W.World.faults c.jobs_of.new.world) c.in-Jobs.region (sym c.turn_of.ensures ∙ c.in-Jobs.is) (c.jobs_of.ensures.told told before keeps)
    (c.jobs_of.ensures.damage told)

pub returns-in-Ok-clause-told : goal.returns-in-Ok-clause-told
returns-in-Ok-clause-told g c = λ told before keeps.
    responds_worked before c.args.request (g.W.World.shape c.args.world.now).room (Ok (answer.Worked c.in-Ok.summary)) c.args.self.now.stores.items
    c.work.new.stores.items (g.W.World.outside c.args.world.now) (g.W.World.outside c.work.new.world) (g.W.World.faults c.args.world.now)
    (g.W.World.faults c.work.new.world) c.in-Work.rounds (sym c.turn_of.ensures ∙ c.in-Work.is) (Ok c.in-Ok.summary) refl
    (c.in-Ok.ensures.told told before keeps)

pub returns-in-Err-clause-told : goal.returns-in-Err-clause-told
returns-in-Err-clause-told g c = λ told before keeps.
    responds_worked before c.args.request (g.W.World.shape c.args.world.now).room (Err c.in-Err.fault) c.args.self.now.stores.items
    c.work.new.stores.items (g.W.World.outside c.args.world.now) (g.W.World.outside c.work.new.world) (g.W.World.faults c.args.world.now)
    (g.W.World.faults c.work.new.world) c.in-Work.rounds (sym c.turn_of.ensures ∙ c.in-Work.is) (Err c.in-Err.fault) refl
    (c.in-Err.ensures.told told before keeps)
