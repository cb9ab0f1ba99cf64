-- Lists of jobs: those that haven't ended apart from those that have.
use Rattle.std.proofs.Common.{◌≡◌, ℕ, ◌≤◌, ◌<◌, nat_lt, Bool, true, false, cond, not, ◌&&◌, List, [], ◌∷◌, ◌++◌, map, filter, find, Option, Some, None, if◌then◌else◌, refl, sym, ap, subst, ◌∙◌, arith}
use Rattle.std.specs.List.{list_all}
use Rattle.std.specs.Option.{option_or}
use Rattle.std.proofs.lemmas.Bool.{and_parts, and_from, not-true, eqb-true, ltb-true, le-ltb}
use Rattle.std.proofs.lemmas.List.Elements.{filter-append}
use Rattle.std.proofs.lemmas.List.Folds.{list_all-append}
use Rattle.std.proofs.lemmas.Option.{same_Some}
use Rattle.s3r_jobs.specs.States.{has_ended}
use Rattle.s3r_jobs.specs.Facts.{JobFacts}
use Rattle.s3r_jobs.specs.Jobs.{JobsFacts, is_ended, is_unended, is_job, find_job, without, taken, in_order, given_back}
use Rattle.s3r_history.specs.Jobs.{split}

-- each id is below those behind it
abbrev pub are_rising : List JobFacts → Bool
are_rising [] = true
are_rising (job ∷ jobs) = list_all (λ (other : JobFacts). nat_lt job.id other.id) jobs && are_rising jobs

-- one job of this id is changed
abbrev pub at_job : ℕ → (JobFacts → JobFacts) → JobFacts → JobFacts
at_job id f job = if is_job id job then f job else job

-- ---- what is found

-- where all have a greater id, none has this one
none_above : (id k : ℕ) (js : List JobFacts) → id ≤ k → list_all (λ (other : JobFacts). nat_lt k other.id) js ≡ true → find (is_job id) js ≡ None
none_above id k [] below all = refl
none_above id k (x ∷ xs) below all = go (is_job id x) refl (none_above id k xs below parts.1)
  where
    parts : (nat_lt k x.id ≡ true) × (list_all (λ (other : JobFacts). nat_lt k other.id) xs ≡ true)
    parts = and_parts (nat_lt k x.id) (list_all (λ (other : JobFacts). nat_lt k other.id) xs) all

    go : (t : Bool) → is_job id x ≡ t → find (is_job id) xs ≡ None → cond t (Some x) (find (is_job id) xs) ≡ None
    go true is ih =
        let same : x.id ≡ id = eqb-true x.id id is in
        let over : k < x.id = ltb-true k x.id parts.0 in
        absurd (omega arith)
    go false is ih = ih

-- what none has, none of those that pass has
none_left : (p : JobFacts → Bool) (id : ℕ) (js : List JobFacts) → find (is_job id) js ≡ None → find (is_job id) (filter p js) ≡ None
none_left p id [] none = refl
none_left p id (x ∷ xs) none = go (is_job id x) (p x) refl none (none_left p id xs)
  where
    go : (t u : Bool) → is_job id x ≡ t → cond t (Some x) (find (is_job id) xs) ≡ None → (find (is_job id) xs ≡ None → find (is_job id) (filter p xs) ≡ None)
        → find (is_job id) (cond u (x ∷ filter p xs) (filter p xs)) ≡ None
    go true u is none ih = absurd cc
    go false true is none ih = rw is (ih none)
    go false false is none ih = ih none

passed_over : (u : Bool) (id : ℕ) (x : JobFacts) (xs : List JobFacts) → is_job id x ≡ false → find (is_job id) (cond u (x ∷ xs) xs) ≡ find (is_job id) xs
passed_over true id x xs is = rw is refl
passed_over false id x xs is = refl

-- what is found is found among those that pass, if it passes
one_left : (p : JobFacts → Bool) (id : ℕ) (js : List JobFacts) (job : JobFacts) → are_rising js ≡ true → find (is_job id) js ≡ Some job
    → find (is_job id) (filter p js) ≡ cond (p job) (Some job) None
one_left p id [] job rising found = absurd cc
one_left p id (x ∷ xs) job rising found = go (is_job id x) refl found (one_left p id xs job parts.1)
  where
    parts : (list_all (λ (other : JobFacts). nat_lt x.id other.id) xs ≡ true) × (are_rising xs ≡ true)
    parts = and_parts (list_all (λ (other : JobFacts). nat_lt x.id other.id) xs) (are_rising xs) rising

    first : (u : Bool) → is_job id x ≡ true → find (is_job id) (cond u (x ∷ filter p xs) (filter p xs)) ≡ cond u (Some x) None
    first true is = rw is refl
    first false is = let same : x.id ≡ id = eqb-true x.id id is in none_left p id xs (none_above id x.id xs (omega arith) parts.0)

    go : (t : Bool) → is_job id x ≡ t → cond t (Some x) (find (is_job id) xs) ≡ Some job
        → (find (is_job id) xs ≡ Some job → find (is_job id) (filter p xs) ≡ cond (p job) (Some job) None)
        → find (is_job id) (filter p (x ∷ xs)) ≡ cond (p job) (Some job) None
    go true is found ih = subst (λ (j : JobFacts). find (is_job id) (filter p (x ∷ xs)) ≡ cond (p j) (Some j) None) (same_Some x job found) (first (p x) is)
    go false is found ih = passed_over (p x) id x (filter p xs) is ∙ ih found

-- what is found passes what all pass
found_passes : (p q : JobFacts → Bool) (js : List JobFacts) (job : JobFacts) → list_all p js ≡ true → find q js ≡ Some job → p job ≡ true
found_passes p q [] job all found = absurd cc
found_passes p q (x ∷ xs) job all found = go (q x) found (found_passes p q xs job parts.1)
  where
    parts : (p x ≡ true) × (list_all p xs ≡ true)
    parts = and_parts (p x) (list_all p xs) all

    go : (t : Bool) → cond t (Some x) (find q xs) ≡ Some job → (find q xs ≡ Some job → p job ≡ true) → p job ≡ true
    go true found ih = subst (λ (j : JobFacts). p j ≡ true) (same_Some x job found) parts.0
    go false found ih = ih found

either : (a b c d : Option JobFacts) → a ≡ c → b ≡ d → option_or a b ≡ option_or c d
either a b c d left right = ap (λ (o : Option JobFacts). option_or o b) left ∙ ap (λ (o : Option JobFacts). option_or c o) right

-- a job is found in the one part or in the other
pub find-split : (id : ℕ) (js : List JobFacts) → are_rising js ≡ true → find_job id (split js) ≡ find (is_job id) js
find-split id js rising = go (find (is_job id) js) refl
  where
    apart : (t : Bool) (job : JobFacts) → option_or (cond (not t) (Some job) None) (cond t (Some job) None) ≡ Some job
    apart true job = refl
    apart false job = refl

    go : (o : Option JobFacts) → find (is_job id) js ≡ o → find_job id (split js) ≡ o
    go None none = either _ _ None None (none_left is_unended id js none) (none_left is_ended id js none)
    go (Some job) found = either _ _ _ _ (one_left is_unended id js job rising found) (one_left is_ended id js job rising found)
        ∙ apart (has_ended job.state) job

-- ---- what is changed

pub change-none : (id : ℕ) (f : JobFacts → JobFacts) (js : List JobFacts) → find (is_job id) js ≡ None → map (at_job id f) js ≡ js
change-none id f [] none = refl
change-none id f (x ∷ xs) none = go (is_job id x) none (change-none id f xs)
  where
    go : (t : Bool) → cond t (Some x) (find (is_job id) xs) ≡ None → (find (is_job id) xs ≡ None → map (at_job id f) xs ≡ xs)
        → cond t (f x) x ∷ map (at_job id f) xs ≡ x ∷ xs
    go true none ih = absurd cc
    go false none ih = ap (λ (ys : List JobFacts). x ∷ ys) (ih none)

at_keeps : (id : ℕ) (f : JobFacts → JobFacts) (x : JobFacts) → (f x).id ≡ x.id → (at_job id f x).id ≡ x.id
at_keeps id f x keeps = go (is_job id x)
  where
    go : (t : Bool) → (cond t (f x) x).id ≡ x.id
    go true = keeps
    go false = refl

all_above-map : (k id : ℕ) (f : JobFacts → JobFacts) (js : List JobFacts) → ((x : JobFacts) → (f x).id ≡ x.id)
    → list_all (λ (other : JobFacts). nat_lt k other.id) (map (at_job id f) js) ≡ list_all (λ (other : JobFacts). nat_lt k other.id) js
all_above-map k id f [] keeps = refl
all_above-map k id f (x ∷ xs) keeps =
    ap (λ (n : ℕ). nat_lt k n && list_all (λ (other : JobFacts). nat_lt k other.id) (map (at_job id f) xs)) (at_keeps id f x (keeps x))
    ∙ ap (λ (t : Bool). nat_lt k x.id && t) (all_above-map k id f xs keeps)

pub rising-map : (id : ℕ) (f : JobFacts → JobFacts) (js : List JobFacts) → ((x : JobFacts) → (f x).id ≡ x.id)
    → are_rising (map (at_job id f) js) ≡ are_rising js
rising-map id f [] keeps = refl
rising-map id f (x ∷ xs) keeps =
    ap (λ (n : ℕ). list_all (λ (other : JobFacts). nat_lt n other.id) (map (at_job id f) xs) && are_rising (map (at_job id f) xs)) (at_keeps id f x (keeps x))
    ∙ (ap (λ (t : Bool). t && are_rising (map (at_job id f) xs)) (all_above-map x.id id f xs keeps)
    ∙ ap (λ (t : Bool). list_all (λ (other : JobFacts). nat_lt x.id other.id) xs && t) (rising-map id f xs keeps))

without_none : (id : ℕ) (js : List JobFacts) → find (is_job id) js ≡ None → without id js ≡ js
without_none id [] none = refl
without_none id (x ∷ xs) none = go (is_job id x) none (without_none id xs)
  where
    go : (t : Bool) → cond t (Some x) (find (is_job id) xs) ≡ None → (find (is_job id) xs ≡ None → without id xs ≡ xs)
        → cond t xs (x ∷ without id xs) ≡ x ∷ xs
    go true none ih = absurd cc
    go false none ih = ap (λ (ys : List JobFacts). x ∷ ys) (ih none)

-- a job that is below all stands before them
in_front : (job : JobFacts) (js : List JobFacts) → list_all (λ (other : JobFacts). nat_lt job.id other.id) js ≡ true → in_order job js ≡ job ∷ js
in_front job [] all = refl
in_front job (x ∷ xs) all =
    ap (λ (t : Bool). cond t (job ∷ x ∷ xs) (x ∷ in_order job xs)) (and_parts (nat_lt job.id x.id)
    (list_all (λ (other : JobFacts). nat_lt job.id other.id) xs) all).0

all_left : (q p : JobFacts → Bool) (js : List JobFacts) → list_all q js ≡ true → list_all q (filter p js) ≡ true
all_left q p [] all = refl
all_left q p (x ∷ xs) all = go (p x) (all_left q p xs parts.1)
  where
    parts : (q x ≡ true) × (list_all q xs ≡ true)
    parts = and_parts (q x) (list_all q xs) all

    go : (t : Bool) → list_all q (filter p xs) ≡ true → list_all q (cond t (x ∷ filter p xs) (filter p xs)) ≡ true
    go true ih = and_from _ _ parts.0 ih
    go false ih = ih

-- those that pass once one is changed: it goes out of its place, and if it passes now it goes into its place
filter_change : (p : JobFacts → Bool) (id : ℕ) (f : JobFacts → JobFacts) (js : List JobFacts) (job : JobFacts)
    → are_rising js ≡ true → ((x : JobFacts) → (f x).id ≡ x.id) → find (is_job id) js ≡ Some job
    → filter p (map (at_job id f) js) ≡ cond (p (f job)) (in_order (f job) (without id (filter p js))) (without id (filter p js))
filter_change p id f [] job rising keeps found = absurd cc
filter_change p id f (x ∷ xs) job rising keeps found = go (is_job id x) refl found (filter_change p id f xs job parts.1 keeps)
  where
    parts : (list_all (λ (other : JobFacts). nat_lt x.id other.id) xs ≡ true) × (are_rising xs ≡ true)
    parts = and_parts (list_all (λ (other : JobFacts). nat_lt x.id other.id) xs) (are_rising xs) rising

    -- it is the first: no other has its id
    rest : is_job id x ≡ true → find (is_job id) xs ≡ None
    rest is = let same : x.id ≡ id = eqb-true x.id id is in none_above id x.id xs (omega arith) parts.0

    changed : is_job id x ≡ true → map (at_job id f) (x ∷ xs) ≡ f x ∷ xs
    changed is = ap (λ (t : Bool). cond t (f x) x ∷ map (at_job id f) xs) is ∙ ap (λ (ys : List JobFacts). f x ∷ ys) (change-none id f xs (rest is))

    removed : (u : Bool) → is_job id x ≡ true → without id (cond u (x ∷ filter p xs) (filter p xs)) ≡ filter p xs
    removed true is = ap (λ (t : Bool). cond t (filter p xs) (x ∷ without id (filter p xs))) is
    removed false is = without_none id (filter p xs) (none_left p id xs (rest is))

    front : (u : Bool) → cond u (f x ∷ filter p xs) (filter p xs) ≡ cond u (in_order (f x) (filter p xs)) (filter p xs)
    front true =
        sym (in_front (f x) (filter p xs) (all_left (λ (other : JobFacts). nat_lt (f x).id other.id) p xs
        (subst (λ (n : ℕ). list_all (λ (other : JobFacts). nat_lt n other.id) xs ≡ true) (sym (keeps x)) parts.0)))
    front false = refl

    first : is_job id x ≡ true
        → filter p (map (at_job id f) (x ∷ xs)) ≡ cond (p (f x)) (in_order (f x) (without id (filter p (x ∷ xs)))) (without id (filter p (x ∷ xs)))
    first is =
        ap (filter p) (changed is)
        ∙ (front (p (f x)) ∙ sym (ap (λ (ys : List JobFacts). cond (p (f x)) (in_order (f x) ys) ys) (removed (p x) is)))

    -- it is behind the first
    push : (u : Bool) (ys zs : List JobFacts) → x ∷ cond u ys zs ≡ cond u (x ∷ ys) (x ∷ zs)
    push true ys zs = refl
    push false ys zs = refl

    later : (u : Bool) → is_job id x ≡ false → nat_lt (f job).id x.id ≡ false
        → filter p (map (at_job id f) xs) ≡ cond (p (f job)) (in_order (f job) (without id (filter p xs))) (without id (filter p xs))
        → cond u (x ∷ filter p (map (at_job id f) xs)) (filter p (map (at_job id f) xs))
        ≡ cond (p (f job)) (in_order (f job) (without id (cond u (x ∷ filter p xs) (filter p xs)))) (without id (cond u (x ∷ filter p xs) (filter p xs)))
    later true is over ih =
        ap (λ (ys : List JobFacts). x ∷ ys) ih
        ∙ (push (p (f job)) (in_order (f job) (without id (filter p xs))) (without id (filter p xs))
        ∙ (ap (λ (t : Bool). cond (p (f job)) (cond t (f job ∷ x ∷ without id (filter p xs)) (x ∷ in_order (f job) (without id (filter p xs))))
        (x ∷ without id (filter p xs))) (sym over)
        ∙ ap (λ (t : Bool). cond (p (f job)) (in_order (f job) (cond t (filter p xs) (x ∷ without id (filter p xs))))
        (cond t (filter p xs) (x ∷ without id (filter p xs)))) (sym is)))
    later false is over ih = ih

    over : find (is_job id) xs ≡ Some job → nat_lt (f job).id x.id ≡ false
    over found =
        let above : x.id < job.id = ltb-true x.id job.id (found_passes (λ (other : JobFacts). nat_lt x.id other.id) (is_job id) xs job parts.0 found) in
        let same : (f job).id ≡ job.id = keeps job in
        le-ltb (f job).id x.id (omega arith)

    kept : is_job id x ≡ false → filter p (map (at_job id f) (x ∷ xs)) ≡ filter p (x ∷ map (at_job id f) xs)
    kept is = ap (λ (t : Bool). filter p (cond t (f x) x ∷ map (at_job id f) xs)) is

    go : (t : Bool) → is_job id x ≡ t → cond t (Some x) (find (is_job id) xs) ≡ Some job
        → (find (is_job id) xs ≡ Some job
        → filter p (map (at_job id f) xs) ≡ cond (p (f job)) (in_order (f job) (without id (filter p xs))) (without id (filter p xs)))
        → filter p (map (at_job id f) (x ∷ xs)) ≡ cond (p (f job)) (in_order (f job) (without id (filter p (x ∷ xs)))) (without id (filter p (x ∷ xs)))
    go true is found ih =
        subst (λ (j : JobFacts). filter p (map (at_job id f) (x ∷ xs)) ≡ cond (p (f j)) (in_order (f j) (without id (filter p (x ∷ xs))))
        (without id (filter p (x ∷ xs))))
        (same_Some x job found) (first is)
    go false is found ih = kept is ∙ later (p x) is (over found) (ih found)

-- those of each part, and how many are out of theirs
abbrev parted : List JobFacts → List JobFacts → ℕ → JobsFacts
parted live ended out = record { live = live; ended = ended; out = out }

-- what is in one part alone is taken out of both
take_one : (id : ℕ) (live ended : List JobFacts) (job : JobFacts) (t : Bool)
    → find (is_job id) live ≡ cond (not t) (Some job) None → find (is_job id) ended ≡ cond t (Some job) None
    → taken id (parted live ended 0) ≡ parted (without id live) (without id ended) 1
take_one id live ended job true none one = rw (none, one, without_none id live none) refl
take_one id live ended job false one none = rw (one, without_none id ended none) refl

give_one : (job : JobFacts) (live ended : List JobFacts) (t : Bool) → has_ended job.state ≡ t
    → parted (cond (not t) (in_order job live) live) (cond t (in_order job ended) ended) 0 ≡ given_back job (parted live ended 1)
give_one job live ended true is = rw is refl
give_one job live ended false is = rw is refl

both : (live ended live' ended' : List JobFacts) → live ≡ live' → ended ≡ ended' → parted live ended 0 ≡ parted live' ended' 0
both live ended live' ended' left right = ap (λ (ys : List JobFacts). parted ys ended 0) left ∙ ap (λ (ys : List JobFacts). parted live' ys 0) right

-- a job that is found is changed by taking it out and giving it back
pub change-one : (id : ℕ) (f : JobFacts → JobFacts) (js : List JobFacts) (job : JobFacts)
    → are_rising js ≡ true → ((x : JobFacts) → (f x).id ≡ x.id) → find_job id (split js) ≡ Some job
    → split (map (at_job id f) js) ≡ given_back (f job) (taken id (split js))
change-one id f js job rising keeps found_apart =
    both _ _ _ _ (filter_change is_unended id f js job rising keeps found) (filter_change is_ended id f js job rising keeps found)
    ∙ (give_one (f job) (without id (filter is_unended js)) (without id (filter is_ended js)) (has_ended (f job).state) refl
    ∙ sym (ap (given_back (f job)) (take_one id (filter is_unended js) (filter is_ended js) job (has_ended job.state)
    (one_left is_unended id js job rising found) (one_left is_ended id js job rising found))))
  where
    found : find (is_job id) js ≡ Some job
    found = sym (find-split id js rising) ∙ found_apart

-- ---- what is added

pub add-one : (js : List JobFacts) (job : JobFacts) → is_unended job ≡ true → split (js ++ job ∷ []) ≡ record (split js) { live = (split js).live ++ job ∷ [] }
add-one js job is = both _ _ _ _ live ended
  where
    live : filter is_unended (js ++ job ∷ []) ≡ filter is_unended js ++ job ∷ []
    live = filter-append is_unended js (job ∷ []) ∙ ap (λ (t : Bool). filter is_unended js ++ cond t (job ∷ []) []) is

    nothing : (ys : List JobFacts) → ys ++ [] ≡ ys
    nothing [] = refl
    nothing (y ∷ ys) = ap (λ (zs : List JobFacts). y ∷ zs) (nothing ys)

    ended : filter is_ended (js ++ job ∷ []) ≡ filter is_ended js
    ended = filter-append is_ended js (job ∷ []) ∙ (ap (λ (t : Bool). filter is_ended js ++ cond t (job ∷ []) []) (not-true (is_ended job) is)
        ∙ nothing (filter is_ended js))

pub rising-add : (js : List JobFacts) (job : JobFacts) → list_all (λ (other : JobFacts). nat_lt other.id job.id) js ≡ true → are_rising js ≡ true
    → are_rising (js ++ job ∷ []) ≡ true
rising-add [] job below rising = refl
rising-add (x ∷ xs) job below rising =
    and_from _ _ (list_all-append (λ (other : JobFacts). nat_lt x.id other.id) xs (job ∷ []) ∙ and_from _ _ parts.0 (and_from _ _ under.0 refl))
    (rising-add xs job under.1 parts.1)
  where
    under : (nat_lt x.id job.id ≡ true) × (list_all (λ (other : JobFacts). nat_lt other.id job.id) xs ≡ true)
    under = and_parts (nat_lt x.id job.id) (list_all (λ (other : JobFacts). nat_lt other.id job.id) xs) below

    parts : (list_all (λ (other : JobFacts). nat_lt x.id other.id) xs ≡ true) × (are_rising xs ≡ true)
    parts = and_parts (list_all (λ (other : JobFacts). nat_lt x.id other.id) xs) (are_rising xs) rising
