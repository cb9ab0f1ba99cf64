use Rattle.std.proofs.Common.{◌≡◌, sym, subst}
use Rattle.s3r_store.specs.Loaded.{IsLoaded}
use Rattle.s3r_store.specs.declared.loaded_region.LoadedRegion.{LoadedRegion}
use Rattle.s3r_store.proofs.Lawful.{loaded-then, goes-on, refused-as}
use Rattle.s3r_store.proofs.store.Store.commit.Goals as goal

pub invariant_of-self-clause-lawful : goal.invariant_of-self-clause-lawful
invariant_of-self-clause-lawful g c = λ held is.
    let same : ◌≡◌ {A = LoadedRegion} c.commit.new.self held = cc in
    subst (λ (x : LoadedRegion). ∥ IsLoaded c.args.self.now.regions c.args.self.now.v x ∥₁) same
    (loaded-then c.args.self.now.regions c.args.self.now.v c.in-Some.held c.commit.new.self c.args.command c.requires.fits c.in-Ok.ensures.after
    c.in-Ok.ensures.region c.in-Ok.ensures.regions (c.args.self.now.lawful c.in-Some.held (sym c.in-Some.ensures.value)))

pub returns-in-Ok-clause-after : goal.returns-in-Ok-clause-after
returns-in-Ok-clause-after g c =
    goes-on c.args.self.now c.in-Some.held (sym c.in-Some.ensures.value) c.args.command c.commit.new.self c.in-Ok.ensures.after

pub returns-then-matches-clause-refused : goal.returns-then-matches-clause-refused
returns-then-matches-clause-refused g c =
    refused-as c.args.self.now c.in-Some.held (sym c.in-Some.ensures.value) c.args.command c.in-Err.fault c.in-Err.ensures.refused
