use Rattle.std.proofs.Common.{◌≡◌, ℕ, ap, ap₂, ◌∙◌, insert, map}
use Rattle.s3r_jobs.specs.Any.{facts}
use Rattle.s3r_jobs.specs.Jobs.{order_of}
use Rattle.s3r_jobs.proofs.OrderLemmas.{insert-is}
use Rattle.s3r_jobs.proofs.places.put.Goals as goal

pub returns-in_default-clause-items : goal.returns-in_default-clause-items
returns-in_default-clause-items c =
    let jobs = c.args.jobs.now.items in
    let place : c.order_of-place.result ≡ order_of (facts c.args.job).id (map facts jobs) =
    c.order_of-place.ensures.place ∙ ap₂ (λ id xs. order_of id (map facts xs)) c.id.ensures c.as_slice.ensures.value in
    ap (map facts) (c.in_default.ensures.items ∙ ap (λ (k : ℕ). insert jobs k c.args.job) place) ∙ insert-is c.args.job jobs
