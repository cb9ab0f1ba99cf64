-- The router's rows as a tree, by the numbers of the rows, and the number of the row that a path matches.
use Rattle.std.proofs.Common.{◌≡◌, ℕ, zero, suc, ◌-◌, ◌==◌, Bool, true, false, cond, nat_eq, List, [], ◌∷◌, ◌++◌, length, drop, take, take_all}
use Rattle.std.proofs.Common.{Option, Some, None, refl, ap, ◌∙◌, subst, arith, rules, codes}
use Rattle.std.specs.List.{starts_with}
use Rattle.matchit.specs.Rows.{Rows, Seen, prepend, ends, level, rows, rows_of}
use Rattle.matchit.specs.Level.{IsText, IsIndexed}
use Rattle.matchit.specs.Order.{literal_run}
use Rattle.matchit.specs.Seek.{step, seek, first, param_step, after_param, or_else}
use Rattle.matchit.proofs.CountLemmas.{literal-text}
use Rattle.matchit.proofs.SeekLemmas.{first-prefix, seek-empty, param_step-empty, or_else-none}
use Rattle.matchit.proofs.LevelLemmas.{level-nil, level-cons, kid-found, kid-none}
use Rattle.s3r_routes.specs.Target.{cut}
use Rattle.s3r_routes.proofs.PathRows.{AreTexts, find_text, text_first, tail_number, tail_first, behind_slash, AreTails, by_parts, after_first}

-- each byte of a text that is known
text_of : (w : List ℕ) → literal_run w ≡ length w → IsText w
text_of w e = let P : ℕ → Type 0 = λ n. IsText (take n w) in subst (λ (l : List ℕ). IsText l) (take_all (length w) w (omega arith)) (subst P e (literal-text w))

pub text_drop : (n : ℕ) (p : List ℕ) → IsText p → IsText (drop n p)
text_drop zero p h = h
text_drop (suc n) [] h = h
text_drop (suc n) (b ∷ p) h = text_drop n p h.1

-- ---- a bucket, and its objects

abbrev pub bucket_tails : Rows
bucket_tails = level [] [] None (Some 10) (Some 11)

are_bucket_tails : AreTails bucket_tails
are_bucket_tails =
    record {
      suffixes = (record { some_prefix = omega arith; some_rows = omega arith; all_segment = search rules }, tt, tt);
      uncut = λ seg e. rw e refl;
      cut_off = λ seg e. rw e refl;
    }

-- ---- jobs

abbrev pub job_tails : Rows
job_tails = (codes "priority", 6) ∷ (codes "status", 7) ∷ []

are_job_tails : AreTails job_tails
are_job_tails =
    record {
      suffixes = (record { some_prefix = omega arith; some_rows = omega arith; all_segment = search rules }, tt, tt);
      uncut = λ seg e. rw e refl;
      cut_off = λ seg e. rw e refl;
    }

pub job_tails_first : (path : List ℕ) → first job_tails path ≡ find_text job_tails path
job_tails_first path = text_first path job_tails (text_of (codes "priority") refl, (text_of (codes "status") refl, tt))

abbrev pub job_rows : Rows
job_rows = level [] (behind_slash job_tails ∷ []) (Some 8) None None

job_first : (path : List ℕ) → IsText path → first job_rows path ≡ by_parts job_tails 8 (cut 47 path).0 (cut 47 path).1
job_first [] h = level-nil [] [] (behind_slash job_tails ∷ []) (Some 8) None None tt
job_first (b ∷ p) h =
    level-cons [] [] (behind_slash job_tails ∷ []) (Some 8) None None b p tt h.0
    ∙ rw (seek-empty 0 p, or_else-none (after_param (rows_of (behind_slash job_tails ∷ []) ++ ends (Some 8)) (b ∷ p)))
    (after_first job_tails 8 are_job_tails (b ∷ p))

abbrev pub jobs_slash : Seen
jobs_slash = record { prefix = 47 ∷ []; tails = job_rows; height = 0 }

abbrev pub jobs_rows : Rows
jobs_rows = level (jobs_slash ∷ []) [] None None (Some 9)

abbrev pub job_number : List ℕ → Option ℕ
job_number path = by_parts job_tails 8 (cut 47 path).0 (cut 47 path).1

abbrev pub jobs_number : List ℕ → Option ℕ
jobs_number [] = Some 9
jobs_number (b ∷ path) = cond (47 == b) (job_number path) None

only_slash : IsIndexed (47 ∷ []) (jobs_slash ∷ [])
only_slash = (omega arith, refl, tt, tt, omega arith)

jobs_next : (b : ℕ) (p : List ℕ) → IsText (b ∷ p) → (v : Bool) → (47 == b) ≡ v → seek 0 (step b (rows_of (jobs_slash ∷ []))) p ≡ cond v (job_number p) None
jobs_next b p h true e =
    (kid-found (47 ∷ []) (jobs_slash ∷ []) 0 jobs_slash b p only_slash (rw e refl)).1
    ∙ first-prefix (47 ∷ []) job_rows (b ∷ p) (omega arith, tt) ∙ rw e (job_first p h.1)
jobs_next b p h false e = kid-none (47 ∷ []) (jobs_slash ∷ []) b p only_slash (rw e refl)

jobs_first : (path : List ℕ) → IsText path → first jobs_rows path ≡ jobs_number path
jobs_first [] h = level-nil (47 ∷ []) (jobs_slash ∷ []) [] None None (Some 9) only_slash
jobs_first (b ∷ p) h =
    level-cons (47 ∷ []) (jobs_slash ∷ []) [] None None (Some 9) b p only_slash h.0
    ∙ rw (jobs_next b p h _ refl)
    (simp (param_step-empty (b ∷ p), seek-empty ((param_step {K = ℕ} [] (b ∷ p)).0 - 1) p, or_else-none (jobs_number (b ∷ p))))

-- ---- all of them

abbrev pub slash_kid : Seen
slash_kid = record { prefix = 47 ∷ []; tails = level [] [] None (Some 0) (Some 1); height = 0 }

abbrev pub own_kid : Seen
own_kid = record { prefix = codes "_s3r/"; tails = (codes "check", 2) ∷ (codes "copy", 3) ∷ (codes "job", 4) ∷ (codes "work", 5) ∷ []; height = 0 }

abbrev pub jobs_kid : Seen
jobs_kid = record { prefix = codes "v20180820/jobs"; tails = jobs_rows; height = 0 }

abbrev pub kids : List Seen
kids = slash_kid ∷ own_kid ∷ jobs_kid ∷ []

indexed : IsIndexed (47 ∷ 95 ∷ 118 ∷ []) kids
indexed =
    let jobs : IsIndexed (118 ∷ []) (jobs_kid ∷ []) = (omega arith, refl, tt, tt, omega arith) in
    let own : IsIndexed (95 ∷ 118 ∷ []) (own_kid ∷ jobs_kid ∷ []) = (omega arith, refl, (omega arith, tt), jobs, omega arith) in
    (omega arith, refl, (omega arith, (omega arith, tt)), own, omega arith)

abbrev pub root : Rows
root = level kids (behind_slash bucket_tails ∷ []) (Some 12) None None

abbrev pub tree : Rows
tree = prepend (47 ∷ []) root

-- the row of a path with a bucket's name
abbrev pub name_number : List ℕ → Option ℕ
name_number path = by_parts bucket_tails 12 (cut 47 path).0 (cut 47 path).1

abbrev pub own_number : List ℕ → Option ℕ
own_number path = find_text (rows own_kid) path

abbrev pub jobs_path : List ℕ → Option ℕ
jobs_path path = cond (starts_with nat_eq path (codes "v20180820/jobs")) (jobs_number (drop 14 path)) None

pub at_slash : (p : List ℕ) → IsText p → seek 0 (step 47 (rows_of kids)) p ≡ tail_number 1 0 p
at_slash p h =
    (kid-found (47 ∷ 95 ∷ 118 ∷ []) kids 0 slash_kid 47 p indexed refl).1
    ∙ first-prefix (47 ∷ []) slash_kid.tails (47 ∷ p) (omega arith, tt) ∙ tail_first 1 0 p h

own_texts : AreTexts (rows own_kid)
own_texts =
    (text_of (codes "_s3r/check") refl, (text_of (codes "_s3r/copy") refl, (text_of (codes "_s3r/job") refl, (text_of (codes "_s3r/work") refl, tt))))

pub at_own : (p : List ℕ) → seek 0 (step 95 (rows_of kids)) p ≡ own_number (95 ∷ p)
at_own p = (kid-found (47 ∷ 95 ∷ 118 ∷ []) kids 1 slash_kid 95 p indexed refl).1 ∙ text_first (95 ∷ p) (rows own_kid) own_texts

pub at_jobs : (p : List ℕ) → IsText p → seek 0 (step 118 (rows_of kids)) p ≡ jobs_path (118 ∷ p)
at_jobs p h =
    (kid-found (47 ∷ 95 ∷ 118 ∷ []) kids 2 slash_kid 118 p indexed refl).1
    ∙ first-prefix jobs_kid.prefix jobs_rows (118 ∷ p) (text_of (codes "v20180820/jobs") refl)
    ∙ ap (λ n. cond (starts_with nat_eq (118 ∷ p) (codes "v20180820/jobs")) n None) (jobs_first (drop 13 p) (text_drop 13 p h))

pub at_other : (b : ℕ) (p : List ℕ) → (47 == b) ≡ false → (95 == b) ≡ false → (118 == b) ≡ false → seek 0 (step b (rows_of kids)) p ≡ None
at_other b p slash own jobs = kid-none (47 ∷ 95 ∷ 118 ∷ []) kids b p indexed (rw (slash, own, jobs) refl)

pub root_nil : first root [] ≡ None
root_nil = level-nil (47 ∷ 95 ∷ 118 ∷ []) kids (behind_slash bucket_tails ∷ []) (Some 12) None None indexed

pub root_cons : (b : ℕ) (p : List ℕ) → IsText (b ∷ p) → first root (b ∷ p) ≡ or_else (seek 0 (step b (rows_of kids)) p) (name_number (b ∷ p))
root_cons b p h =
    level-cons (47 ∷ 95 ∷ 118 ∷ []) kids (behind_slash bucket_tails ∷ []) (Some 12) None None b p indexed h.0
    ∙ ap (or_else (seek 0 (step b (rows_of kids)) p)) (or_else-none (after_param (rows_of (behind_slash bucket_tails ∷ []) ++ ends (Some 12)) (b ∷ p))
    ∙ after_first bucket_tails 12 are_bucket_tails (b ∷ p))

pub tree_first : (path : List ℕ) → first tree path ≡ cond (starts_with nat_eq path (47 ∷ [])) (first root (drop 1 path)) None
tree_first path = first-prefix (47 ∷ []) root path (omega arith, tt)
