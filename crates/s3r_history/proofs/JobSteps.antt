-- The jobs of a region, one command after another.
use Rattle.std.proofs.Common.{◌≡◌, ℕ, suc, ◌+◌, ◌<◌, ◌≤◌, Bool, true, false, cond, ◌==◌, ◌&&◌, nat_lt, List, [], ◌∷◌, ◌++◌, map, length, Option, Some, None, Ok, Err}
use Rattle.std.proofs.Common.{refl, sym, ap, ap₂, ◌∙◌, arith, lt-ltb, ltb-true, eq-eqb}
use Rattle.std.specs.Prelude.{IfSome}
use Rattle.std.specs.List.{list_all}
use Rattle.std.proofs.lemmas.Bool.{and_parts, and_from}
use Rattle.std.proofs.lemmas.Bool.Decides.{nat_tests}
use Rattle.std.proofs.lemmas.List.Folds.{list_all-append, list_all-map}
use Rattle.s3r_names.specs.declared.version.VersionId.{VersionId}
use Rattle.s3r_jobs.specs.declared.result.LineResult.{LineResult}
use Rattle.s3r_jobs.specs.declared.spec.JobSpec.{JobSpec}
use Rattle.s3r_jobs.specs.declared.state.JobState.{JobState}
use Rattle.s3r_jobs.specs.declared.state.JobState.TheVariants as states
use Rattle.s3r_jobs.specs.Facts.{JobFacts, new_job}
use Rattle.s3r_record.specs.declared.command.Command.{Command}
use Rattle.s3r_record.specs.declared.command.Command.TheVariants as command
use Rattle.s3r_history.specs.declared.creation.Creation.{Creation}
use Rattle.s3r_history.specs.Words.{History, or_else}
use Rattle.s3r_history.specs.Past.{Deed, Past, ReadLines}
use Rattle.s3r_history.specs.Jobs.{with_created, created_by, creations, since, by_threshold, job_by, job, jobs}
use Rattle.s3r_history.specs.JobSteps.{move_to, set_priority, read_lines, did_line, finish}
use Rattle.s3r_history.specs.Deeds.{deeds, deed}
use Rattle.s3r_history.proofs.JobLists.{are_rising, at_job, rising-add}

-- ---- their ids

-- it was created by one of the first commands, fewer than so many
abbrev pub is_old : ℕ → Creation → Bool
is_old n c = nat_lt c.id n

all-old : (n m : ℕ) (cs : List Creation) → n ≤ m → list_all (is_old n) cs ≡ true → list_all (is_old m) cs ≡ true
all-old n m [] le all = refl
all-old n m (c ∷ cs) le all =
    let parts = and_parts (is_old n c) (list_all (is_old n) cs) all in
    let below : c.id < n = ltb-true c.id n parts.0 in
    and_from _ _ (lt-ltb c.id m (omega arith)) (all-old n m cs le parts.1)

-- a command creates a job under its own index
created-id : (id : ℕ) (c : Command) → IfSome (created_by id c) (λ (cr : Creation). cr.id ≡ id)
created-id id (command.CreateJob spec manifest) = refl
created-id id _ = tt

pub creations-old : (r : ℕ) (h : History) → list_all (is_old (length (deeds r h) + 1)) (creations (deeds r h)) ≡ true
creations-old r [] = refl
creations-old r (c ∷ h) = go (created_by (length (deeds r h) + 1) c) (created-id (length (deeds r h) + 1) c)
    (all-old (length (deeds r h) + 1) (suc (length (deeds r h)) + 1) (creations (deeds r h)) (omega arith) (creations-old r h))
  where
    m : ℕ
    m = suc (length (deeds r h)) + 1

    go : (o : Option Creation) → IfSome o (λ (cr : Creation). cr.id ≡ length (deeds r h) + 1) → list_all (is_old m) (creations (deeds r h)) ≡ true
        → list_all (is_old m) (with_created (creations (deeds r h)) o) ≡ true
    go None id all = all
    go (Some cr) id all =
        list_all-append (is_old m) (creations (deeds r h)) (cr ∷ [])
        ∙ and_from _ _ all (and_from (is_old m cr) true (lt-ltb cr.id m (omega (arith, id))) refl)

pub map-snoc : {X Y : Type 0} (f : X → Y) (xs : List X) (x : X) → map f (xs ++ x ∷ []) ≡ map f xs ++ f x ∷ []
map-snoc f [] x = refl
map-snoc f (y ∷ xs) x = ap (λ zs. f y ∷ zs) (map-snoc f xs x)

creations-rising : (r : ℕ) (h : History) → are_rising (map (job_by []) (creations (deeds r h))) ≡ true
creations-rising r [] = refl
creations-rising r (c ∷ h) = go (created_by (length (deeds r h) + 1) c) (created-id (length (deeds r h) + 1) c) (creations-rising r h)
  where
    cs : List Creation
    cs = creations (deeds r h)

    go : (o : Option Creation) → IfSome o (λ (cr : Creation). cr.id ≡ length (deeds r h) + 1) → are_rising (map (job_by []) cs) ≡ true
        → are_rising (map (job_by []) (with_created cs o)) ≡ true
    go None id rising = rising
    go (Some cr) id rising =
        ap are_rising (map-snoc (job_by []) cs cr)
        ∙ rising-add (map (job_by []) cs) (job_by [] cr)
        (list_all-map (λ (other : JobFacts). nat_lt other.id cr.id) (job_by []) cs ∙ ap (λ n. list_all (is_old n) cs) id ∙ creations-old r h) rising

rising-jobs : (past : Past) (cs : List Creation) → are_rising (map (job past) cs) ≡ are_rising (map (job_by []) cs)
rising-jobs past [] = refl
rising-jobs past (c ∷ cs) = ap₂ (λ t u. t && u)
    (list_all-map (λ (other : JobFacts). nat_lt c.id other.id) (job past) cs ∙ sym (list_all-map (λ (other : JobFacts). nat_lt c.id other.id) (job_by []) cs))
    (rising-jobs past cs)

-- the ids of a region's jobs rise
pub jobs-rising : (r : ℕ) (h : History) → are_rising (jobs (deeds r h)) ≡ true
jobs-rising r h = rising-jobs (deeds r h) (creations (deeds r h)) ∙ creations-rising r h

-- ---- a job more

map-old : (r : ℕ) (h : History) (d : Deed) (n : ℕ) (cs : List Creation) → ((c : Creation) → (n == c.id) ≡ false → job (d ∷ deeds r h) c ≡ job (deeds r h) c)
    → list_all (is_old n) cs ≡ true → map (job (d ∷ deeds r h)) cs ≡ map (job (deeds r h)) cs
map-old r h d n [] same all = refl
map-old r h d n (c ∷ cs) same all =
    let parts = and_parts (is_old n c) (list_all (is_old n) cs) all in
    let below : c.id < n = ltb-true c.id n parts.0 in
    let other : (n == c.id) ≡ false = grind (arith, nat_tests) in
    ap₂ (λ x xs. x ∷ xs) (same c other) (map-old r h d n cs same parts.1)

pub jobs-create : (r : ℕ) (h : History) (spec : JobSpec) (manifest : VersionId)
    → jobs (deeds r (command.CreateJob spec manifest ∷ h)) ≡ jobs (deeds r h) ++ new_job (length (deeds r h) + 1) spec ∷ []
jobs-create r h spec manifest =
    map-snoc (job (d ∷ deeds r h)) (creations (deeds r h)) new
    ∙ ap₂ (λ xs x. xs ++ x ∷ [])
    (map-old r h d n (creations (deeds r h)) (λ c other. unchanged c (n == c.id) other) (creations-old r h))
    (begun (n == n) (eq-eqb n n refl))
  where
    n : ℕ
    n = length (deeds r h) + 1

    d : Deed
    d = deed r h (deeds r h) (command.CreateJob spec manifest)

    new : Creation
    new = record { id = n; spec = spec; manifest = manifest }

    unchanged : (c : Creation) (t : Bool) → t ≡ false → job_by (cond t [] (d ∷ since (deeds r h) c.id)) c ≡ job (deeds r h) c
    unchanged c true e = cc
    unchanged c false e = refl

    begun : (t : Bool) → t ≡ true → job_by (cond t [] (d ∷ since (deeds r h) n)) new ≡ new_job n spec
    begun true e = refl
    begun false e = cc

-- ---- one job changed

map-change : (past : Past) (d : Deed) (id : ℕ) (f : JobFacts → JobFacts) (cs : List Creation)
    → ((c : Creation) → job (d ∷ past) c ≡ at_job id f (job past c)) → map (job (d ∷ past)) cs ≡ map (at_job id f) (map (job past) cs)
map-change past d id f [] one = refl
map-change past d id f (c ∷ cs) one = ap₂ (λ x xs. x ∷ xs) (one c) (map-change past d id f cs one)

pub jobs-move : (r : ℕ) (h : History) (id : ℕ) (to : JobState)
    → jobs (deeds r (command.MoveJob id to ∷ h)) ≡ map (at_job id (move_to to)) (jobs (deeds r h))
jobs-move r h id to = map-change (deeds r h) d id (move_to to) (creations (deeds r h)) (λ c. go c (c.id == id))
  where
    d : Deed
    d = deed r h (deeds r h) (command.MoveJob id to)

    go : (c : Creation) (t : Bool) → record (job (deeds r h) c) {
      state = cond t to (job (deeds r h) c).state;
      reason = or_else (cond t (by_threshold to) None) (job (deeds r h) c).reason;
    } ≡ cond t (move_to to (job (deeds r h) c)) (job (deeds r h) c)
    go c true = refl
    go c false = refl

pub jobs-priority : (r : ℕ) (h : History) (id priority : ℕ)
    → jobs (deeds r (command.SetPriority id priority ∷ h)) ≡ map (at_job id (set_priority priority)) (jobs (deeds r h))
jobs-priority r h id priority = map-change (deeds r h) d id (set_priority priority) (creations (deeds r h)) (λ c. go c (c.id == id) refl)
  where
    d : Deed
    d = deed r h (deeds r h) (command.SetPriority id priority)

    go : (c : Creation) (t : Bool) → (c.id == id) ≡ t → job (d ∷ deeds r h) c ≡ cond t (set_priority priority (job (deeds r h) c)) (job (deeds r h) c)
    go c true e = rw e refl
    go c false e = rw e refl

pub jobs-prepare : (r : ℕ) (h : History) (id : ℕ) → let read = (deed r h (deeds r h) (command.Prepare id)).read in
    jobs (deeds r (command.Prepare id ∷ h)) ≡ map (at_job id (read_lines read)) (jobs (deeds r h))
jobs-prepare r h id = map-change (deeds r h) d id (read_lines d.read) (creations (deeds r h)) (λ c. go c (c.id == id) d.read refl refl)
  where
    d : Deed
    d = deed r h (deeds r h) (command.Prepare id)

    go : (c : Creation) (t : Bool) (read : Option ReadLines) → (c.id == id) ≡ t → d.read ≡ read
        → job (d ∷ deeds r h) c ≡ cond t (read_lines read (job (deeds r h) c)) (job (deeds r h) c)
    go c true None e is = rw (e, is) refl
    go c true (Some (Ok lines)) e is = rw (e, is) refl
    go c true (Some (Err why)) e is = rw (e, is) refl
    go c false read e is = rw e refl

pub jobs-line : (r : ℕ) (h : History) (id line : ℕ) → let result = (deed r h (deeds r h) (command.Line id line)).result in
    jobs (deeds r (command.Line id line ∷ h)) ≡ map (at_job id (did_line result)) (jobs (deeds r h))
jobs-line r h id line = map-change (deeds r h) d id (did_line d.result) (creations (deeds r h)) (λ c. go c (c.id == id) d.result refl refl)
  where
    d : Deed
    d = deed r h (deeds r h) (command.Line id line)

    go : (c : Creation) (t : Bool) (result : Option LineResult) → (c.id == id) ≡ t → d.result ≡ result
        → job (d ∷ deeds r h) c ≡ cond t (did_line result (job (deeds r h) c)) (job (deeds r h) c)
    go c true None e is = rw (e, is) refl
    go c true (Some result) e is = rw (e, is) refl
    go c false result e is = rw e refl

pub jobs-finish : (r : ℕ) (h : History) (id : ℕ) (body : Option (List ℕ))
    → jobs (deeds r (command.Finish id body ∷ h)) ≡ map (at_job id finish) (jobs (deeds r h))
jobs-finish r h id body = map-change (deeds r h) d id finish (creations (deeds r h)) (λ c. go c (c.id == id) refl)
  where
    d : Deed
    d = deed r h (deeds r h) (command.Finish id body)

    go : (c : Creation) (t : Bool) → (c.id == id) ≡ t → job (d ∷ deeds r h) c ≡ cond t (finish (job (deeds r h) c)) (job (deeds r h) c)
    go c true e = rw e refl
    go c false e = rw e refl
