use Rattle.std.proofs.Common.{option_copied, sym, ◌∙◌, ap, subst, Option, IsSome}
use Rattle.std.specs.Option.{option_map}
use Rattle.s3r_region.specs.Contents.{Contents}
use Rattle.s3r_desk.specs.Lookups.{views_of, jobs_of, seen_location}
use Rattle.s3r_desk.specs.Steps.{at_location, job_creation}
use Rattle.s3r_desk.proofs.Places.{get_at}
use Rattle.s3r_desk.proofs.Locations.{read_there}
use Rattle.s3r_desk.proofs.NewJobs.{asked_is}
use Rattle.s3r_desk.proofs.job.job_asked.Goals as goal

pub unreachable-requires : goal.unreachable-requires
unreachable-requires c =
    let stores = c.args.stores.now in
    let s = c.index-stores-location.result in
    let h = seen_location c.in-Some.location in
    let get = get_at stores h.region s c.in-Some.ensures.within c.index-stores-location.is in
    let none = ap option_copied (sym c.in_default-state.is) ∙ c.state.ensures in
    let read = read_there stores c.args.spec.now.manifest.bucket h s
    (sym c.location_of.ensures.least ∙ ap (option_map seen_location) c.in-Some.is) get in
    let no = subst (λ (o : Option Contents). IsSome o) (sym none) read in
    cc

pub returns-clause-planned : goal.returns-clause-planned
returns-clause-planned c =
    let stores = c.args.stores.now in
    let s = c.index-stores-location.result in
    let h = seen_location c.in-Some.location in
    let get = get_at stores h.region s c.in-Some.ensures.within c.index-stores-location.is in
    c.new_job.ensures.planned
    ∙ asked_is stores c.args.spec.now h s c.in-Some-state.state.now get (sym c.state.ensures ∙ ap option_copied c.in-Some-state.is)
    ∙ sym (ap (at_location (job_creation (views_of stores) (jobs_of stores) c.args.spec.now))
    (sym c.location_of.ensures.least ∙ ap (option_map seen_location) c.in-Some.is))
