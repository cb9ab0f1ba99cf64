-- The form of what a path names is that of the row that it matches.
use Rattle.std.proofs.Common.{◌≡◌, ℕ, suc, ◌==◌, Bool, true, false, cond, ◌&&◌, if◌then◌else◌, nat_eq, List, [], ◌∷◌, ◌++◌, length, drop, get_or, ◌<◌}
use Rattle.std.proofs.Common.{Option, Some, None, refl, sym, ap, ◌∙◌, subst, codes, arith}
use Rattle.std.specs.Prelude.{option_map}
use Rattle.std.specs.List.{starts_with}
use Rattle.std.specs.Str.{bytes_eq}
use Rattle.std.proofs.lemmas.Bool.{eqb-true}
use Rattle.std.proofs.lemmas.Bool.Decides.{nat_tests}
use Rattle.std.proofs.lemmas.Slice.Eq.{bytes_eq-Decides}
use Rattle.matchit.specs.Level.{IsText}
use Rattle.matchit.specs.Router.{RouteOf, rename, map_key}
use Rattle.matchit.specs.Rows.{rows_of}
use Rattle.matchit.specs.Seek.{step, seek, first, or_else}
use Rattle.matchit.proofs.RenameLemmas.{first-rename}
use Rattle.matchit.proofs.OnLiterals.{matchit_on_literals}
use Rattle.s3r_routes.specs.declared.routes.PathForm.{PathForm}
use Rattle.s3r_routes.specs.declared.routes.PathForm.TheVariants as form
use Rattle.s3r_routes.specs.Target as target
use Rattle.s3r_routes.specs.Target.{Target, cut, named, named_in, job_in, job_part, job_place, own_place, place_in, place_of}
use Rattle.s3r_routes.specs.Paths.{form_of, all_rows}
use Rattle.s3r_routes.proofs.Cuts.{cut_here, cut_later, parts, TextIn, text_in}
use Rattle.s3r_routes.proofs.PlaceNames.{own_of}
use Rattle.s3r_routes.proofs.PathRows.{tail_number, tail_first, by_parts}
use Rattle.s3r_routes.proofs.PathTree.{bucket_tails, job_tails, job_tails_first, job_number, jobs_number, jobs_path, own_number, name_number, kids, root, tree}
use Rattle.s3r_routes.proofs.PathTree.{at_slash, at_own, at_jobs, at_other, root_nil, root_cons, tree_first}

-- the forms of the rows, in their order
abbrev pub forms : List PathForm
forms =
    form.Object ∷ form.Bucket
    ∷ form.Check ∷ form.Copy ∷ form.JobTurn ∷ form.Work
    ∷ form.JobPriority ∷ form.JobStatus ∷ form.Job ∷ form.Jobs
    ∷ form.Object ∷ form.Bucket ∷ form.Bucket
    ∷ []

abbrev pub form_at : ℕ → PathForm
form_at number = get_or forms number form.Bucket

abbrev pub formed : Option ℕ → Option PathForm
formed number = map_key form_at number

abbrev pub form_in : Option Target → Option PathForm
form_in place = option_map form_of place

-- ---- a bucket, and its objects

name_form : (b : ℕ) (name : List ℕ) (rest : Option (List ℕ)) → TextIn rest
    → formed (by_parts bucket_tails 12 (b ∷ name) rest) ≡ Some (form_of (named (b ∷ name) rest))
name_form b name None h = refl
name_form b name (Some []) h = ap formed (tail_first 11 10 [] h)
name_form b name (Some (c ∷ key)) h = ap formed (tail_first 11 10 (c ∷ key) h)

bucket_form : (b : ℕ) (p : List ℕ) → IsText p → (b == 47) ≡ false → formed (name_number (b ∷ p)) ≡ Some (form_of (named_in (b ∷ p)))
bucket_form b p h e =
    subst (λ (c : List ℕ × Option (List ℕ)). formed (by_parts bucket_tails 12 c.0 c.1) ≡ Some (form_of (named c.0 c.1))) (sym (cut_later b p e))
    (name_form b (cut 47 p).0 (cut 47 p).1 (text_in p (cut 47 p).0 (cut 47 p).1 (parts p) h))

-- ---- jobs

two_words : (u v : Bool) (id : List ℕ) → formed (if u then Some 6 else (if v then Some 7 else None))
    ≡ form_in (if u then Some (target.job_priority id) else (if v then Some (target.job_status id) else None))
two_words true v id = refl
two_words false true id = refl
two_words false false id = refl

part_form : (id : List ℕ) (word : Option (List ℕ)) → formed (by_parts job_tails 8 id word) ≡ form_in (job_part id word)
part_form [] word = refl
part_form (b ∷ id) None = refl
part_form (b ∷ id) (Some word) =
    ap formed (job_tails_first word) ∙ two_words (bytes_eq word (codes "priority")) (bytes_eq word (codes "status")) (b ∷ id)

job_form : (path : List ℕ) → formed (job_number path) ≡ form_in (job_in path)
job_form path = part_form (cut 47 path).0 (cut 47 path).1

-- what stands behind a text: nothing, or a slash and something behind it
abbrev at_end : {A : Type 0} → A → (List ℕ → A) → A → List ℕ → A
at_end here there none [] = here
at_end here there none (b ∷ path) = if 47 == b then there path else none

same_test : (a b : ℕ) → nat_eq a b ≡ nat_eq b a
same_test a b = grind (arith, nat_tests)

slash_test : {A : Type 0} (v : Bool) (there none : A) → (if v && true then there else none) ≡ (if v then there else none)
slash_test true there none = refl
slash_test false there none = refl

-- a path that is a text, or goes on with a slash
with_end : {A : Type 0} (w path : List ℕ) (here : A) (there : List ℕ → A) (none : A)
    → (if bytes_eq path w then here else (if starts_with nat_eq path (w ++ 47 ∷ []) then there (drop (suc (length w)) path) else none))
    ≡ (if starts_with nat_eq path w then at_end here there none (drop (length w) path) else none)
with_end [] [] here there none = refl
with_end [] (b ∷ path) here there none = slash_test (nat_eq 47 b) (there path) none
with_end (x ∷ w) [] here there none = refl
with_end {A} (x ∷ w) (b ∷ path) here there none = by (nat_eq x b) (same_test b x) (with_end w path here there none)
  where
    by : (v : Bool) → nat_eq b x ≡ v
        → (if bytes_eq path w then here else (if starts_with nat_eq path (w ++ 47 ∷ []) then there (drop (suc (length w)) path) else none))
        ≡ (if starts_with nat_eq path w then at_end here there none (drop (length w) path) else none)
        → (if nat_eq b x && bytes_eq path w then here else (if v && starts_with nat_eq path (w ++ 47 ∷ []) then there (drop (suc (length w)) path) else none))
        ≡ (if v && starts_with nat_eq path w then at_end here there none (drop (length w) path) else none)
    by true e more = rw e more
    by false e more = rw e refl

formed_if : (b : Bool) (x y : Option ℕ) → formed (cond b x y) ≡ cond b (formed x) (formed y)
formed_if true x y = refl
formed_if false x y = refl

in_if : (b : Bool) (x y : Option Target) → form_in (if b then x else y) ≡ (if b then form_in x else form_in y)
in_if true x y = refl
in_if false x y = refl

jobs_form : (path : List ℕ) → formed (jobs_number path) ≡ at_end (Some form.Jobs) (λ rest. form_in (job_in rest)) None path
jobs_form [] = refl
jobs_form (b ∷ path) = formed_if (47 == b) (job_number path) None ∙ ap (λ x. if 47 == b then x else None) (job_form path)

job_place_in : (path : List ℕ) → form_in (job_place path)
    ≡ (if bytes_eq path (codes "v20180820/jobs") then Some form.Jobs
    else (if starts_with nat_eq path (codes "v20180820/jobs/") then form_in (job_in (drop 15 path)) else None))
job_place_in path =
    let goes_on = starts_with nat_eq path (codes "v20180820/jobs/") in
    in_if (bytes_eq path (codes "v20180820/jobs")) (Some target.jobs) (if goes_on then job_in (drop 15 path) else None)
    ∙ ap (λ x. if bytes_eq path (codes "v20180820/jobs") then Some form.Jobs else x) (in_if goes_on (job_in (drop 15 path)) None)

jobs_place_form : (path : List ℕ) → formed (jobs_path path) ≡ form_in (job_place path)
jobs_place_form path =
    formed_if (starts_with nat_eq path (codes "v20180820/jobs")) (jobs_number (drop 14 path)) None
    ∙ ap (λ x. if starts_with nat_eq path (codes "v20180820/jobs") then x else None) (jobs_form (drop 14 path))
    ∙ sym (with_end (codes "v20180820/jobs") path (Some form.Jobs) (λ rest. form_in (job_in rest)) None)
    ∙ sym (job_place_in path)

-- ---- the product's own paths

four_words : (copy job work check : Bool) → (check ≡ true → (copy ≡ false) × (job ≡ false) × (work ≡ false))
    → formed (if check then Some 2 else (if copy then Some 3 else (if job then Some 4 else (if work then Some 5 else None))))
    ≡ form_in (own_of copy job work check)
four_words copy job work true only = let (c, j, w) = only refl in rw (c, j, w) refl
four_words true job work false only = refl
four_words false true work false only = refl
four_words false false true false only = refl
four_words false false false false only = refl

own_form : (path : List ℕ) → formed (own_number path) ≡ form_in (own_place path)
own_form path =
    four_words (bytes_eq path (codes "_s3r/copy")) (bytes_eq path (codes "_s3r/job"))
    (bytes_eq path (codes "_s3r/work")) (bytes_eq path (codes "_s3r/check")) only
  where
    only : bytes_eq path (codes "_s3r/check") ≡ true
        → (bytes_eq path (codes "_s3r/copy") ≡ false) × (bytes_eq path (codes "_s3r/job") ≡ false) × (bytes_eq path (codes "_s3r/work") ≡ false)
    only e =
        let same : path ≡ codes "_s3r/check" = (bytes_eq-Decides path (codes "_s3r/check")).0 e in
        rw same (refl, refl, refl)

-- ---- a path

none_else : (x : Option ℕ) (y : Option ℕ) (own : Option Target) (last : Target) → formed x ≡ form_in own → formed y ≡ Some (form_of last)
    → formed (or_else x y) ≡ Some (form_of (target.or_else None own last))
none_else None y None last e f = f
none_else None y (Some place) last e f = absurd (cc e)
none_else (Some n) y None last e f = absurd (cc e)
none_else (Some n) y (Some place) last e f = e

job_else : (x : Option ℕ) (y : Option ℕ) (job : Option Target) (last : Target) → formed x ≡ form_in job → formed y ≡ Some (form_of last)
    → formed (or_else x y) ≡ Some (form_of (target.or_else job None last))
job_else None y None last e f = f
job_else None y (Some place) last e f = absurd (cc e)
job_else (Some n) y None last e f = absurd (cc e)
job_else (Some n) y (Some place) last e f = e

slash_form : (p : List ℕ) (y : Option ℕ) → formed (or_else (tail_number 1 0 p) y) ≡ form_in (place_in (47 ∷ p))
slash_form [] y = refl
slash_form (b ∷ p) y = subst (λ (c : List ℕ × Option (List ℕ)). Some form.Object ≡ Some (form_of (named c.0 c.1))) (sym (cut_here 47 (b ∷ p) refl)) refl

rest_form : (b : ℕ) (p : List ℕ) → IsText (b ∷ p) → formed (first root (b ∷ p)) ≡ form_in (place_in (b ∷ p))
rest_form b p h = ap formed (root_cons b p h) ∙ by (47 == b) refl (95 == b) refl (118 == b) refl
  where
    by : (u : Bool) → (47 == b) ≡ u → (v : Bool) → (95 == b) ≡ v → (w : Bool) → (118 == b) ≡ w
        → formed (or_else (seek 0 (step b (rows_of kids)) p) (name_number (b ∷ p))) ≡ form_in (place_in (b ∷ p))
    by true e v f w g =
        subst (λ x. formed (or_else (seek 0 (step x (rows_of kids)) p) (name_number (x ∷ p))) ≡ form_in (place_in (x ∷ p))) (eqb-true 47 b e)
        (ap (λ x. formed (or_else x (name_number (47 ∷ p)))) (at_slash p h.1) ∙ slash_form p (name_number (47 ∷ p)))
    by false e true f w g =
        subst (λ x. formed (or_else (seek 0 (step x (rows_of kids)) p) (name_number (x ∷ p))) ≡ form_in (place_in (x ∷ p))) (eqb-true 95 b f)
        (ap (λ x. formed (or_else x (name_number (95 ∷ p)))) (at_own p)
        ∙ none_else (own_number (95 ∷ p)) (name_number (95 ∷ p)) (own_place (95 ∷ p)) (named_in (95 ∷ p)) (own_form (95 ∷ p)) (bucket_form 95 p h.1 refl))
    by false e false f true g =
        subst (λ x. formed (or_else (seek 0 (step x (rows_of kids)) p) (name_number (x ∷ p))) ≡ form_in (place_in (x ∷ p))) (eqb-true 118 b g)
        (ap (λ x. formed (or_else x (name_number (118 ∷ p)))) (at_jobs p h.1)
        ∙ job_else (jobs_path (118 ∷ p)) (name_number (118 ∷ p)) (job_place (118 ∷ p)) (named_in (118 ∷ p))
        (jobs_place_form (118 ∷ p)) (bucket_form 118 p h.1 refl))
    by false e false f false g =
        let one : nat_eq b 95 ≡ false = same_test b 95 ∙ f in
        let two : nat_eq b 118 ≡ false = same_test b 118 ∙ g in
        let three : nat_eq 118 b ≡ false = g in
        ap (λ x. formed (or_else x (name_number (b ∷ p)))) (at_other b p e f g)
        ∙ bucket_form b p h.1 (same_test b 47 ∙ e)
        ∙ rw (one, two, three) refl

path_number : (path : List ℕ) → IsText path → formed (first tree path) ≡ form_in (place_of path)
unfolding place_of
path_number [] h = ap formed (tree_first [])
path_number (b ∷ p) h = ap formed (tree_first (b ∷ p)) ∙ by (nat_eq 47 b) (same_test b 47) p h.1
  where
    by : (v : Bool) → nat_eq b 47 ≡ v → (q : List ℕ) → IsText q
        → formed (cond (v && true) (first root q) None) ≡ form_in (if b == 47 then place_in q else None)
    by true e [] text = ap formed root_nil ∙ rw e refl
    by true e (c ∷ q) text = rest_form c q text ∙ rw e refl
    by false e q text = rw e refl

same_rows : rename form_at tree ≡ rename (λ (r : RouteOf PathForm). r.value) all_rows
unfolding all_rows matchit_on_literals
same_rows = refl

keyed_option : {A B : Type 0} (f : A → B) (x : Option A) → map_key f x ≡ option_map f x
keyed_option f None = refl
keyed_option f (Some x) = refl

-- the form of the route that a path matches
pub form_first : (path : List ℕ) → IsText path → option_map (λ (r : RouteOf PathForm). r.value) (first all_rows path) ≡ option_map form_of (place_of path)
form_first path h =
    sym (keyed_option (λ (r : RouteOf PathForm). r.value) (first all_rows path))
    ∙ sym (first-rename (λ (r : RouteOf PathForm). r.value) all_rows path)
    ∙ ap (λ r. first r path) (sym same_rows)
    ∙ first-rename form_at tree path
    ∙ path_number path h

pub text_from : (s : List ℕ) → ((i : ℕ) → get_or s i 0 < 256) → IsText s
text_from [] h = tt
text_from (b ∷ s) h = (h 0, text_from s (λ i. h (suc i)))
