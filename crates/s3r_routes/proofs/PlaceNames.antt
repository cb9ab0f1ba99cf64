-- A place is named by its form and its path.
use Rattle.std.proofs.Common.{◌≡◌, ◌==◌, ℕ, Bool, true, false, if◌then◌else◌, nat_eq, List, [], ◌∷◌, drop, Option, Some, None}
use Rattle.std.proofs.Common.{refl, sym, ap, ◌∙◌, subst, codes}
use Rattle.std.specs.Prelude.{IfSome, option_map}
use Rattle.std.specs.List.{starts_with}
use Rattle.std.specs.Str.{bytes_eq}
use Rattle.std.proofs.lemmas.Bool.{eqb-true}
use Rattle.s3r_routes.specs.declared.routes.PathForm.{PathForm}
use Rattle.s3r_routes.specs.Target as target
use Rattle.s3r_routes.specs.Target.{Target, cut, or_nothing, named, named_in, job_in, job_part, job_place, own_place, place_in, place_of}
use Rattle.s3r_routes.specs.Paths.{form_of, named_by, name_behind}

abbrev Names : List ℕ → Target → Type 0
Names path place = named_by (form_of place) path ≡ place

if_either : (path : List ℕ) (b : Bool) (x y : Option Target) → IfSome x (Names path) → IfSome y (Names path) → IfSome (if b then x else y) (Names path)
if_either path true x y one other = one
if_either path false x y one other = other

part_names : (path id : List ℕ) (word : Option (List ℕ)) → name_behind 16 path ≡ id → IfSome (job_part id word) (Names path)
part_names path [] word e = tt
part_names path (b ∷ id) None e = ap target.job e
part_names path (b ∷ id) (Some word) e =
    if_either path (bytes_eq word (codes "priority")) (Some (target.job_priority (b ∷ id)))
    (if bytes_eq word (codes "status") then Some (target.job_status (b ∷ id)) else None) (ap target.job_priority e)
    (if_either path (bytes_eq word (codes "status")) (Some (target.job_status (b ∷ id))) None (ap target.job_status e) tt)

job_names : (path : List ℕ) → IfSome (job_place path) (Names (47 ∷ path))
job_names path =
    if_either (47 ∷ path) (bytes_eq path (codes "v20180820/jobs")) (Some target.jobs)
    (if starts_with nat_eq path (codes "v20180820/jobs/") then job_in (drop 15 path) else None) refl
    (if_either (47 ∷ path) (starts_with nat_eq path (codes "v20180820/jobs/")) (job_in (drop 15 path)) None
    (part_names (47 ∷ path) (cut 47 (drop 15 path)).0 (cut 47 (drop 15 path)).1 refl) tt)

-- the place of the product's own path that a path is
abbrev pub own_of : Bool → Bool → Bool → Bool → Option Target
own_of copy job work check =
    if copy then Some target.copy
    else (if job then Some target.job_turn else (if work then Some target.work else (if check then Some target.check else None)))

own_names : (path : List ℕ) → IfSome (own_place path) (Names (47 ∷ path))
own_names path =
    go (bytes_eq path (codes "_s3r/copy")) (bytes_eq path (codes "_s3r/job")) (bytes_eq path (codes "_s3r/work")) (bytes_eq path (codes "_s3r/check"))
  where
    go : (copy job work check : Bool)
        → IfSome (own_of copy job work check) (Names (47 ∷ path))
    go true job work check = refl
    go false true work check = refl
    go false false true check = refl
    go false false false true = refl
    go false false false false = tt

name_names : (path name : List ℕ) (rest : Option (List ℕ)) → (cut 47 path).0 ≡ name → or_nothing (cut 47 path).1 ≡ or_nothing rest
    → Names (47 ∷ path) (named name rest)
name_names path name None e f = ap target.bucket e
name_names path name (Some []) e f = ap target.bucket e
name_names path name (Some (b ∷ key)) e f = λ i. target.object (e i) (f i)

one_names : (path : List ℕ) (job own : Option Target) (last : Target) → IfSome job (Names path) → IfSome own (Names path) → Names path last
    → Names path (target.or_else job own last)
one_names path (Some place) own last one two three = one
one_names path None (Some place) last one two three = two
one_names path None None last one two three = three

in_names : (path : List ℕ) → IfSome (place_in path) (Names (47 ∷ path))
in_names [] = tt
in_names (b ∷ path) =
    one_names (47 ∷ b ∷ path) (job_place (b ∷ path)) (own_place (b ∷ path)) (named_in (b ∷ path)) (job_names (b ∷ path)) (own_names (b ∷ path))
    (name_names (b ∷ path) (cut 47 (b ∷ path)).0 (cut 47 (b ∷ path)).1 refl refl)

path_names : (path : List ℕ) → IfSome (place_of path) (Names path)
unfolding place_of
path_names [] = tt
path_names (b ∷ path) = by (b == 47) refl
  where
    by : (v : Bool) → (b == 47) ≡ v → IfSome (if v then place_in path else None) (Names (b ∷ path))
    by true e = subst (λ x. IfSome (place_in path) (Names (x ∷ path))) (sym (eqb-true b 47 e)) (in_names path)
    by false e = tt

found : (form : PathForm) (path : List ℕ) (place : Option Target) → IfSome place (Names path) → Some form ≡ option_map form_of place
    → Some (named_by form path) ≡ place
found form path None names e = absurd (cc e)
found form path (Some place) names e =
    let same : form ≡ form_of place = cc in
    ap Some (ap (λ f. named_by f path) same ∙ names)

-- the place that a path names, by its form
pub place_found : (form : PathForm) (path : List ℕ) → Some form ≡ option_map form_of (place_of path) → Some (named_by form path) ≡ place_of path
place_found form path e = found form path (place_of path) (path_names path) e
