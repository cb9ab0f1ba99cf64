-- The forms of paths, and the rows that a router makes of its patterns.
use Rattle.std.specs.Prelude.{◌≡◌, ℕ, List, [], ◌∷◌, drop, codes, None, Result, Ok, Err}
use Rattle.matchit.specs.Rows.{RowsOf}
use Rattle.matchit.specs.Order.{placed}
use Rattle.matchit.specs.Route.{Scan, parse_route}
use Rattle.matchit.specs.Router.{RouteOf, route_from, nearest}
use Rattle.matchit.specs.declared.error.InsertError.{InsertError}
use Rattle.s3r_routes.specs.declared.routes.PathForm.{PathForm}
use Rattle.s3r_routes.specs.declared.routes.PathForm.TheVariants as form
use Rattle.s3r_routes.specs.declared.routes.Pattern.{Pattern}
use Rattle.s3r_routes.specs.Target.{Target, bucket, object, jobs, job, job_priority, job_status, copy, job_turn, work, check, cut, or_nothing}

-- the form of a place's path
abbrev pub form_of : Target → PathForm
form_of (bucket name) = form.Bucket
form_of (object name key) = form.Object
form_of jobs = form.Jobs
form_of (job id) = form.Job
form_of (job_priority id) = form.JobPriority
form_of (job_status id) = form.JobStatus
form_of copy = form.Copy
form_of job_turn = form.JobTurn
form_of work = form.Work
form_of check = form.Check

-- the bytes behind so many of a path, up to their first slash
abbrev pub name_behind : ℕ → List ℕ → List ℕ
name_behind count path = (cut 47 (drop count path)).0

abbrev pub key_behind : ℕ → List ℕ → List ℕ
key_behind count path = or_nothing (cut 47 (drop count path)).1

-- the place that a path of this form names: a bucket's name stands behind the first slash, a job's id behind `/v20180820/jobs/`
abbrev pub named_by : PathForm → List ℕ → Target
named_by form.Bucket path = bucket (name_behind 1 path)
named_by form.Object path = object (name_behind 1 path) (key_behind 1 path)
named_by form.Jobs path = jobs
named_by form.Job path = job (name_behind 16 path)
named_by form.JobPriority path = job_priority (name_behind 16 path)
named_by form.JobStatus path = job_status (name_behind 16 path)
named_by form.Copy path = copy
named_by form.JobTurn path = job_turn
named_by form.Work path = work
named_by form.Check path = check

-- ---- the router

-- a pattern and the form of its paths
abbrev pub PathPattern : Type 0
PathPattern = List ℕ × PathForm

abbrev pub seen_pattern : Pattern → PathPattern
seen_pattern pattern = (pattern.text.now, pattern.form)

-- The router's patterns. The code's constant is proved equal to them: it holds texts, and no definition can name it.
abbrev pub all_patterns : List PathPattern
all_patterns =
    (codes "/{bucket}", form.Bucket)
    ∷ (codes "/{bucket}/", form.Bucket)
    ∷ (codes "//", form.Bucket)
    ∷ (codes "/{bucket}/{*key}", form.Object)
    ∷ (codes "//{*key}", form.Object)
    ∷ (codes "/v20180820/jobs", form.Jobs)
    ∷ (codes "/v20180820/jobs/{id}", form.Job)
    ∷ (codes "/v20180820/jobs/{id}/priority", form.JobPriority)
    ∷ (codes "/v20180820/jobs/{id}/status", form.JobStatus)
    ∷ (codes "/_s3r/copy", form.Copy)
    ∷ (codes "/_s3r/job", form.JobTurn)
    ∷ (codes "/_s3r/work", form.Work)
    ∷ (codes "/_s3r/check", form.Check)
    ∷ []

abbrev pub Routed : Type 0
Routed = RowsOf (RouteOf PathForm)

-- the rows with one more pattern
abbrev pub with_read : Result Scan InsertError → PathForm → Routed → Routed
with_read (Ok scan) f rows = placed (scan.pattern, route_from scan f) rows
with_read (Err error) f rows = rows

abbrev pub with_patterns : List PathPattern → Routed → Routed
with_patterns [] rows = rows
with_patterns (pattern ∷ patterns) rows = with_patterns patterns (with_read (parse_route pattern.0) pattern.1 rows)

-- a pattern that is well formed and conflicts with no row
abbrev pub IsFree : Result Scan InsertError → Routed → Type 0
IsFree (Ok scan) rows = nearest scan.pattern rows ≡ None
IsFree (Err error) rows = ⊥

-- each is, with those before it
abbrev pub AreFree : List PathPattern → Routed → Type 0
AreFree [] rows = Unit {0}
AreFree (pattern ∷ patterns) rows = IsFree (parse_route pattern.0) rows × AreFree patterns (with_read (parse_route pattern.0) pattern.1 rows)

-- the rows of all patterns
unfoldable pub all_rows : Routed
all_rows = with_patterns all_patterns []
