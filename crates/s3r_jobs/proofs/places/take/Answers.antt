use Rattle.std.proofs.Common.{◌≡◌, ◌<◌, ◌∙◌, ℕ, List, Some, length, map, get_or, remove, sym, ap, arith}
use Rattle.s3r_jobs.specs.declared.any.AnyJob.{AnyJob}
use Rattle.s3r_jobs.specs.Any.{facts}
use Rattle.s3r_jobs.specs.Jobs.{place_of}
use Rattle.s3r_jobs.proofs.PlaceLemmas.{find-at, find-none, remove-is, without-none}
use Rattle.s3r_jobs.proofs.places.take.Goals as goal

-- none is there
missing : (c : goal.Then-place-len) → place_of c.args.id (map facts c.args.jobs.now.items) ≡ length c.args.jobs.now.items
missing c =
    let place = c.place_of-place.ensures.place ∙ ap (λ (xs : List AnyJob). place_of c.args.id (map facts xs)) c.as_slice.ensures.value in
    sym place ∙ c.if-place-len.true ∙ c.len.ensures ∙ sym c.as_slice.ensures.len ∙ ap length c.as_slice.ensures.value

pub returns-then-place-len-clause-job : goal.returns-then-place-len-clause-job
returns-then-place-len-clause-job c = sym (find-none c.args.id c.args.jobs.now.items (missing c))

pub returns-then-place-len-clause-rest : goal.returns-then-place-len-clause-rest
returns-then-place-len-clause-rest c = sym (without-none c.args.id c.args.jobs.now.items (missing c))

pub returns-clause-job : goal.returns-clause-job
returns-clause-job c =
    let place = c.place_of-place.ensures.place ∙ ap (λ (xs : List AnyJob). place_of c.args.id (map facts xs)) c.as_slice.ensures.value in
    let size = c.len.ensures ∙ sym c.as_slice.ensures.len ∙ ap length c.as_slice.ensures.value in
    let within : place_of c.args.id (map facts c.args.jobs.now.items) < length c.args.jobs.now.items = omega (arith, place, size) in
    ap Some (ap facts (c.remove.ensures.value ∙ ap (λ (k : ℕ). get_or c.args.jobs.now.items k c.remove.result) place))
    ∙ sym (find-at c.args.id c.args.jobs.now.items c.remove.result within)

pub returns-clause-rest : goal.returns-clause-rest
returns-clause-rest c =
    let place = c.place_of-place.ensures.place ∙ ap (λ (xs : List AnyJob). place_of c.args.id (map facts xs)) c.as_slice.ensures.value in
    ap (map facts) (c.remove.ensures.items ∙ ap (λ (k : ℕ). remove c.args.jobs.now.items k) place)
    ∙ remove-is c.args.id c.args.jobs.now.items
