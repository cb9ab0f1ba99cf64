use Rattle.std.proofs.Common.{◌≡◌, List, length, sym, ◌∙◌, ap, subst}
use Rattle.std.proofs.lemmas.Result.{err_from_is_err_and}
use Rattle.s3r_store.specs.declared.store.Store.{Store}
use Rattle.s3r_desk.specs.declared.request.Answer.TheVariants as answer
use Rattle.s3r_desk.specs.declared.planning.Plan.TheVariants.{Shows, Fetches, Commits}
use Rattle.s3r_desk.specs.Events.{history_at}
use Rattle.s3r_desk.specs.Lookups.{views_of, statuses_of, jobs_of}
use Rattle.s3r_desk.specs.Steps.{Step, step, made_of, plan}
use Rattle.s3r_desk.specs.Responds.{Came}
use Rattle.s3r_desk.proofs.Stepping.{looks_none}
use Rattle.s3r_desk.proofs.Coming.{came_shown, came_either, came_starved}
use Rattle.s3r_desk.proofs.Locations.{step_is}
use Rattle.s3r_desk.proofs.answering.make_step.Goals as goal

pub returns-in_err-answer-clause-told : goal.returns-in_err-answer-clause-told
returns-in_err-answer-clause-told g c = λ told before keeps.
    let p = err_from_is_err_and c.from_residual.result c.from_residual.ensures.1 in
    rw (p.1, p.2) (came_starved before (step (length c.args.stores.now.items) (history_at before) c.args.request)
    _ c.args.stores.now.items c.args.stores.now.items (g.W.World.outside c.args.world.now) (g.W.World.outside c.args.world.now) (looks_none _) keeps)

pub returns-in-Shows-clause-told : goal.returns-in-Shows-clause-told
returns-in-Shows-clause-told g c = λ told before keeps.
    let stores = c.args.stores.now.items in
    let planned : plan (length c.args.stores.now.items) (views_of c.args.stores.now.items) (statuses_of c.args.stores.now.items)
    (jobs_of c.args.stores.now.items) c.args.request ≡ Shows c.in-Shows.answer =
    sym (ap (λ (l : List Store). plan (length l) (views_of l) (statuses_of l) (jobs_of l) c.args.request) c.deref.ensures.value)
    ∙ sym c.in_ok-answer.ensures.planned ∙ c.in-Shows.is in
    came_shown before (step (length c.args.stores.now.items) (history_at before) c.args.request) _ stores stores (g.W.World.outside c.args.world.now)
    (g.W.World.outside c.args.world.now) c.in-Shows.answer
    (step_is before c.args.stores.now.items _ keeps c.requires.read c.args.request
    ∙ ap (made_of (length c.args.stores.now.items) (history_at before)) planned) (looks_none _) keeps

pub returns-in-Fetches-clause-told : goal.returns-in-Fetches-clause-told
returns-in-Fetches-clause-told g c = λ told before keeps.
    let stores = c.args.stores.now.items in
    let outside = g.W.World.outside c.args.world.now in
    let planned : plan (length c.args.stores.now.items) (views_of c.args.stores.now.items) (statuses_of c.args.stores.now.items)
    (jobs_of c.args.stores.now.items) c.args.request ≡ Fetches c.in-Fetches.region c.in-Fetches.object c.in-Fetches.body =
    sym (ap (λ (l : List Store). plan (length l) (views_of l) (statuses_of l) (jobs_of l) c.args.request) c.deref.ensures.value)
    ∙ sym c.in_ok-answer.ensures.planned ∙ c.in-Fetches.is in
    rw (c.fetch.ensures.stores, c.fetch.ensures.world) (came_either before (step (length c.args.stores.now.items) (history_at before) c.args.request)
    _ stores stores outside outside (answer.Object c.in-Fetches.object c.in-Fetches.body) c.fetch.result
    (step_is before c.args.stores.now.items _ keeps c.requires.read c.args.request
    ∙ ap (made_of (length c.args.stores.now.items) (history_at before)) planned) c.fetch.ensures.answer c.fetch.ensures.fault (looks_none _) keeps)

pub returns-in-Commits-clause-told : goal.returns-in-Commits-clause-told
returns-in-Commits-clause-told g c = λ told before keeps.
    let planned : plan (length c.args.stores.now.items) (views_of c.args.stores.now.items) (statuses_of c.args.stores.now.items)
    (jobs_of c.args.stores.now.items) c.args.request ≡ Commits c.in-Commits.region c.in-Commits.command c.in-Commits.reply =
    sym (ap (λ (l : List Store). plan (length l) (views_of l) (statuses_of l) (jobs_of l) c.args.request) c.deref.ensures.value)
    ∙ sym c.in_ok-answer.ensures.planned ∙ c.in-Commits.is in
    subst (λ (s : Step). Came before s c.make.result (g.W.World.shape c.args.world.now).room c.args.stores.now.items c.make.new.stores.items
    (g.W.World.outside c.args.world.now) (g.W.World.outside c.make.new.world))
    (sym (step_is before c.args.stores.now.items _ keeps c.requires.read c.args.request
    ∙ ap (made_of (length c.args.stores.now.items) (history_at before)) planned))
    (c.make.ensures.told told before keeps)
