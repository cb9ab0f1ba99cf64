-- A job that is kept was created, and what it does next.
use Rattle.std.proofs.Common.{◌≡◌, ℕ, ◌-◌, ◌==◌, Bool, true, false, cond, List, [], ◌∷◌, map, find, Option, Some, None, Err, slice_get, refl, sym, ap, ◌∙◌}
use Rattle.std.specs.Prelude.{option_map}
use Rattle.std.specs.Option.{option_and_then}
use Rattle.s3r_names.specs.declared.version.VersionId.{VersionId}
use Rattle.s3r_lines.specs.declared.object.ObjectRef.{ObjectRef}
use Rattle.s3r_jobs.specs.declared.result.FailureReason.TheVariants as reasons
use Rattle.s3r_jobs.specs.Facts.{JobFacts}
use Rattle.s3r_jobs.specs.Jobs.{is_job, find_job}
use Rattle.s3r_manifest.specs.Lines.{manifest}
use Rattle.s3r_record.specs.declared.command.Command.TheVariants as command
use Rattle.s3r_history.specs.declared.creation.Creation.{Creation}
use Rattle.s3r_history.specs.Words.{History}
use Rattle.s3r_history.specs.Past.{Entry, Past, ReadLines}
use Rattle.s3r_history.specs.BucketView.{BucketView}
use Rattle.s3r_history.specs.Told.{told}
use Rattle.s3r_history.specs.Jobs.{creations, creation, is_created, job, jobs}
use Rattle.s3r_history.specs.JobLines.{as_read, version_in, lines_in, lines_after, line_outcome, line_after, outcome_of_line, LineOutcome}
use Rattle.s3r_history.specs.Deeds.{deeds, deed}
use Rattle.s3r_history.proofs.JobLists.{find-split}
use Rattle.s3r_history.proofs.JobSteps.{jobs-rising}
use Rattle.s3r_region.specs.declared.region_jobs.Manifest.{Manifest}
use Rattle.s3r_region.specs.Contents.{Contents}
use Rattle.s3r_region.specs.KeptJobs.{manifest_of, is_of}
use Rattle.s3r_region.specs.After.{IsAfter, seen}

-- ---- its creation

record IsCreated (past : Past) (id : ℕ) (cs : List Creation) (facts : JobFacts) : Type 0 where
  pub made : Creation
  pub is : find (is_created id) cs ≡ Some made
  pub same : job past made ≡ facts

found-in : (past : Past) (id : ℕ) (facts : JobFacts) (cs : List Creation) → find (is_job id) (map (job past) cs) ≡ Some facts → IsCreated past id cs facts
found-in past id facts [] e = absurd cc
found-in past id facts (c ∷ cs) e = go (c.id == id) refl e (found-in past id facts cs)
  where
    go : (t : Bool) → (c.id == id) ≡ t → cond t (Some (job past c)) (find (is_job id) (map (job past) cs)) ≡ Some facts
        → (find (is_job id) (map (job past) cs) ≡ Some facts → IsCreated past id cs facts) → IsCreated past id (c ∷ cs) facts
    go true is e ih = record { made = c; is = ap (λ t. cond t (Some c) (find (is_created id) cs)) is; same = cc }
    go false is e ih =
        let rest = ih e in
        record { made = rest.made; is = ap (λ t. cond t (Some c) (find (is_created id) cs)) is ∙ rest.is; same = rest.same }

none-in : (past : Past) (id : ℕ) (cs : List Creation) → find (is_job id) (map (job past) cs) ≡ None → find (is_created id) cs ≡ None
none-in past id [] e = refl
none-in past id (c ∷ cs) e = go (c.id == id) refl e (none-in past id cs)
  where
    go : (t : Bool) → (c.id == id) ≡ t → cond t (Some (job past c)) (find (is_job id) (map (job past) cs)) ≡ None
        → (find (is_job id) (map (job past) cs) ≡ None → find (is_created id) cs ≡ None) → find (is_created id) (c ∷ cs) ≡ None
    go true is e ih = absurd cc
    go false is e ih = ap (λ t. cond t (Some c) (find (is_created id) cs)) is ∙ ih e

found-jobs : (s : Contents) (h : History) (id : ℕ) → IsAfter s h → find_job id s.jobs.jobs ≡ find (is_job id) (jobs (deeds s.region h))
found-jobs s h id a = ap (find_job id) a.jobs.0 ∙ find-split id (jobs (deeds s.region h)) (jobs-rising s.region h)

created : (s : Contents) (h : History) (id : ℕ) (facts : JobFacts) → IsAfter s h → find_job id s.jobs.jobs ≡ Some facts
    → IsCreated (deeds s.region h) id (creations (deeds s.region h)) facts
created s h id facts a found = found-in (deeds s.region h) id facts (creations (deeds s.region h)) (sym (found-jobs s h id a) ∙ found)

-- ---- its next line

pub line-none : (s : Contents) (h : History) (id line : ℕ) → IsAfter s h → find_job id s.jobs.jobs ≡ None
    → outcome_of_line h (deeds s.region h) (command.Line id line) ≡ None
line-none s h id line a none =
    ap (option_and_then (line_after h (deeds s.region h) line))
    (none-in (deeds s.region h) id (creations (deeds s.region h)) (sym (found-jobs s h id a) ∙ none))

-- what the object of a line comes to, by what is told of its bucket
abbrev pub outcome_at : Contents → JobFacts → Option ObjectRef → LineOutcome
outcome_at s facts object = option_and_then (λ (o : ObjectRef). line_outcome facts.spec.operation o (seen s o.bucket)) object

pub line-some : (s : Contents) (h : History) (id line : ℕ) (facts : JobFacts) → IsAfter s h → find_job id s.jobs.jobs ≡ Some facts
    → outcome_of_line h (deeds s.region h) (command.Line id line) ≡ outcome_at s facts (slice_get facts.lines (line - 1))
line-some s h id line facts a found =
    let it = created s h id facts a found in
    ap (option_and_then (line_after h (deeds s.region h) line)) it.is
    ∙ told-so it.made (slice_get (job (deeds s.region h) it.made).lines (line - 1))
    ∙ ap (λ (j : JobFacts). outcome_at s j (slice_get j.lines (line - 1))) it.same
  where
    told-so : (c : Creation) (o : Option ObjectRef)
        → option_and_then (λ (object : ObjectRef). line_outcome c.spec.operation object (told s.region h object.bucket)) o
        ≡ outcome_at s (job (deeds s.region h) c) o
    told-so c None = refl
    told-so c (Some object) = ap (line_outcome c.spec.operation object) (sym (a.buckets object.bucket))

-- ---- its manifest

manifest-in : (id : ℕ) (cs : List Creation) → find (is_of id) (map manifest_of cs) ≡ option_map manifest_of (find (is_created id) cs)
manifest-in id [] = refl
manifest-in id (c ∷ cs) = go (c.id == id) (manifest-in id cs)
  where
    go : (t : Bool) → find (is_of id) (map manifest_of cs) ≡ option_map manifest_of (find (is_created id) cs)
        → cond t (Some (manifest_of c)) (find (is_of id) (map manifest_of cs)) ≡ option_map manifest_of (cond t (Some c) (find (is_created id) cs))
    go true ih = refl
    go false ih = ih

-- the lines of a manifest that is this row
abbrev pub lines_there : Bool → Option Entry → ReadLines
lines_there versions None = Err reasons.Gone
lines_there versions (Some row) = as_read (manifest versions row.body)

-- the version of its manifest
abbrev pub version_of : Contents → ℕ → Option VersionId
version_of s id = option_map (λ (m : Manifest). m.version) (find (is_of id) s.jobs.manifests)

version-is : (s : Contents) (h : History) (id : ℕ) (facts : JobFacts) (a : IsAfter s h) (found : find_job id s.jobs.jobs ≡ Some facts)
    → version_of s id ≡ Some (created s h id facts a found).made.manifest
version-is s h id facts a found =
    ap (λ (ms : List Manifest). option_map (λ (m : Manifest). m.version) (find (is_of id) ms)) a.jobs.1
    ∙ ap (option_map (λ (m : Manifest). m.version)) (manifest-in id (creations (deeds s.region h)))
    ∙ ap (λ (o : Option Creation). option_map (λ (m : Manifest). m.version) (option_map manifest_of o)) (created s h id facts a found).is

pub version-there : (s : Contents) (h : History) (id : ℕ) (facts : JobFacts) → IsAfter s h → find_job id s.jobs.jobs ≡ Some facts → version_of s id ≡ None → ⊥
version-there s h id facts a found none = let it : Some (created s h id facts a found).made.manifest ≡ None = sym (version-is s h id facts a found) ∙ none in cc

pub manifest-read : (s : Contents) (h : History) (id : ℕ) (facts : JobFacts) (version : VersionId) → IsAfter s h → find_job id s.jobs.jobs ≡ Some facts
    → version_of s id ≡ Some version
    → (deed s.region h (deeds s.region h) (command.Prepare id)).read
    ≡ Some (lines_there facts.spec.manifest.versions (version_in facts.spec.manifest.key version (seen s facts.spec.manifest.bucket)))
manifest-read s h id facts version a found is =
    let it = created s h id facts a found in
    let same : it.made.manifest ≡ version = some_same (sym (version-is s h id facts a found) ∙ is) in
    ap (option_map (lines_after h (deeds s.region h))) it.is
    ∙ ap (λ (t : Option BucketView). Some (lines_in it.made (version_in it.made.spec.manifest.key it.made.manifest t)))
    (sym (a.buckets it.made.spec.manifest.bucket))
    ∙ as_row it.made (version_in it.made.spec.manifest.key it.made.manifest (seen s it.made.spec.manifest.bucket))
    ∙ ap (λ (v : VersionId). Some (lines_there it.made.spec.manifest.versions
    (version_in it.made.spec.manifest.key v (seen s it.made.spec.manifest.bucket)))) same
    ∙ ap (λ (j : JobFacts). Some (lines_there j.spec.manifest.versions (version_in j.spec.manifest.key version (seen s j.spec.manifest.bucket)))) it.same
  where
    some_same : {X : Type 0} {x y : X} → Some x ≡ Some y → x ≡ y
    some_same e = cc

    as_row : (c : Creation) (o : Option Entry) → Some (lines_in c o) ≡ Some (lines_there c.spec.manifest.versions o)
    as_row c None = refl
    as_row c (Some row) = refl
