use Rattle.std.proofs.Common.{◌≡◌, List, ℕ, Option, Some, sym, ap, ◌∙◌}
use Rattle.std.specs.Prelude.{option_map}
use Rattle.std.proofs.lemmas.Result.{IfOk-weaker}
use Rattle.s3r_jobs.specs.Any.{facts}
use Rattle.s3r_jobs.specs.Jobs.{JobsFacts, find_job}
use Rattle.s3r_jobs.specs.declared.spec.JobSpec.{JobSpec}
use Rattle.s3r_manifest.specs.Lines.{manifest}
use Rattle.s3r_history.specs.Past.{Entry}
use Rattle.s3r_history.specs.BucketView.{BucketView}
use Rattle.s3r_history.specs.JobLines.{as_read, version_in}
use Rattle.s3r_region.specs.After.{seen, told_by}
use Rattle.s3r_region.proofs.FoundJobs.{version-there, manifest-read, lines_there}
use Rattle.s3r_region.proofs.state.State.read_manifest.Goals as goal

pub returns-in_default-manifest : goal.returns-in_default-manifest
returns-in_default-manifest c h a accepted =
    let s = c.args.self.now in
    let job = facts c.in-Some.found.now in
    let found : find_job c.args.job s.jobs.jobs ≡ Some job = ap (λ (js : JobsFacts). find_job c.args.job js) (sym c.jobs.ensures) ∙ sym c.in-Some.ensures in
    absurd (version-there s h c.args.job job a found (sym c.in_default-manifest.ensures))

pub returns-in_default-bucket : goal.returns-in_default-bucket
returns-in_default-bucket c h a accepted =
    let s = c.args.self.now in
    let job = facts c.in-Some.found.now in
    let found : find_job c.args.job s.jobs.jobs ≡ Some job = ap (λ (js : JobsFacts). find_job c.args.job js) (sym c.jobs.ensures) ∙ sym c.in-Some.ensures in
    let version = c.in-Some-manifest.version in
    let at = c.spec.result.now.manifest in
    let read = manifest-read s h c.args.job job version a found (sym c.in-Some-manifest.ensures)
    ∙ ap (λ (spec : JobSpec). Some (lines_there spec.manifest.versions (version_in spec.manifest.key version (seen s spec.manifest.bucket))))
    (sym c.spec.ensures) in
    read ∙ ap (λ (t : Option BucketView). Some (lines_there at.versions (version_in at.key version t)))
    (ap (option_map told_by) (sym c.in_default-bucket.ensures.found))

pub returns-in-None : goal.returns-in-None
returns-in-None c h a accepted =
    let s = c.args.self.now in
    let job = facts c.in-Some.found.now in
    let found : find_job c.args.job s.jobs.jobs ≡ Some job = ap (λ (js : JobsFacts). find_job c.args.job js) (sym c.jobs.ensures) ∙ sym c.in-Some.ensures in
    let version = c.in-Some-manifest.version in
    let at = c.spec.result.now.manifest in
    let read = manifest-read s h c.args.job job version a found (sym c.in-Some-manifest.ensures)
    ∙ ap (λ (spec : JobSpec). Some (lines_there spec.manifest.versions (version_in spec.manifest.key version (seen s spec.manifest.bucket))))
    (sym c.spec.ensures) in
    read
    ∙ ap (λ (t : Option BucketView). Some (lines_there at.versions (version_in at.key version t)))
    (ap (option_map told_by) (sym c.in-Some-bucket.ensures.found))
    ∙ ap (λ (o : Option Entry). Some (lines_there at.versions o)) (sym c.in-None.ensures)

pub returns-in-Some-find : goal.returns-in-Some-find
returns-in-Some-find c = IfOk-weaker c.lines_of.result _ _ (λ lines is h a accepted.
    let s = c.args.self.now in
    let job = facts c.in-Some.found.now in
    let found : find_job c.args.job s.jobs.jobs ≡ Some job = ap (λ (js : JobsFacts). find_job c.args.job js) (sym c.jobs.ensures) ∙ sym c.in-Some.ensures in
    let version = c.in-Some-manifest.version in
    let at = c.spec.result.now.manifest in
    let read = manifest-read s h c.args.job job version a found (sym c.in-Some-manifest.ensures)
    ∙ ap (λ (spec : JobSpec). Some (lines_there spec.manifest.versions (version_in spec.manifest.key version (seen s spec.manifest.bucket))))
    (sym c.spec.ensures) in
    read
    ∙ ap (λ (t : Option BucketView). Some (lines_there at.versions (version_in at.key version t)))
    (ap (option_map told_by) (sym c.in-Some-bucket.ensures.found))
    ∙ ap (λ (o : Option Entry). Some (lines_there at.versions o)) (sym c.in-Some-find.ensures)
    ∙ ap Some (sym (is ∙ ap (λ (text : List ℕ). as_read (manifest at.versions text)) c.as_slice.ensures)))
    c.lines_of.ensures
