use Rattle.std.proofs.Common.{◌∷◌, ◌++◌, [], sym, ap, ◌∙◌, subst}
use Rattle.s3r_jobs.specs.Facts.{JobFacts}
use Rattle.s3r_region.specs.KeptJobs.{KeptJobs, IsAfter}
use Rattle.s3r_region.proofs.KeptJobs.{job-created}
use Rattle.s3r_region.proofs.region_jobs.RegionJobs.create.Goals as goal

pub returns : goal.returns
returns c r h next a =
    let old : KeptJobs = record { jobs = c.self.inside.jobs; manifests = c.self.inside.manifests.items } in
    job-created r h old (record { jobs = c.add.new.self; manifests = c.push.new.self.items }) c.args.id c.args.spec c.args.version next
    (subst (λ (k : KeptJobs). IsAfter r k h) (sym c.self.view_is) a)
    (c.in-Ok.ensures.ok ∙ ap (λ (job : JobFacts). record c.self.inside.jobs { live = c.self.inside.jobs.live ++ job ∷ [] }) c.make.ensures)
    c.in_ok-push.ensures.items
