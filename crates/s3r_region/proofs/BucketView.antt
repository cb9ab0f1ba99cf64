-- What changed buckets tell of a name.
use Rattle.std.proofs.Common.{◌≡◌, Bool, true, false, cond, not, ◌||◌, List, [], ◌∷◌, ◌++◌, Option, Some, None, find, refl, sym, ap, ◌∙◌, true≢false}
use Rattle.std.specs.Prelude.{option_map}
use Rattle.std.specs.List.{list_any}
use Rattle.std.specs.Str.{bytes_eq}
use Rattle.std.proofs.lemmas.Bool.{and_parts, and_from, or_parts, or_from, not-true}
use Rattle.std.proofs.lemmas.Slice.Eq.{bytes_eq-Decides}
use Rattle.s3r_history.specs.Words.{Name}
use Rattle.s3r_history.specs.BucketView.{BucketView}
use Rattle.s3r_history.specs.Laws.{is_once}
use Rattle.s3r_history.proofs.ToldSteps.{changed_at}
use Rattle.s3r_region.specs.declared.bucket.Bucket.{Bucket}
use Rattle.s3r_region.specs.Contents.{is_named, names_of}
use Rattle.s3r_region.specs.After.{told_by}
use Rattle.s3r_region.specs.Changes.{set_first, without_first}

abbrev pub told : List Bucket → Name → Option BucketView
told bs b = option_map told_by (find (is_named b) bs)

same_name : (a b : Name) → bytes_eq a b ≡ true → a ≡ b
same_name a b h = (bytes_eq-Decides a b).0 h

other_name : (x name b : Name) → bytes_eq x name ≡ false → bytes_eq x b ≡ true → bytes_eq name b ≡ false
other_name x name b differs same = go (bytes_eq name b) refl
  where
    go : (t : Bool) → bytes_eq name b ≡ t → t ≡ false
    go false e = refl
    go true e = absurd (true≢false (sym ((bytes_eq-Decides x name).1 (same_name x b same ∙ sym (same_name name b e))) ∙ differs))

told-head : (f : Bucket → Bucket) (g : BucketView → BucketView) → ((x : Bucket) → (f x).name ≡ x.name) → ((x : Bucket) → told_by (f x) ≡ g (told_by x))
    → (x : Bucket) (xs : List Bucket) (b : Name) → told (f x ∷ xs) b ≡ changed_at x.name g (told (x ∷ xs)) b
told-head f g keeps shows x xs b =
    ap (λ (n : Name). option_map told_by (cond (bytes_eq n b) (Some (f x)) (find (is_named b) xs))) (keeps x)
    ∙ go (bytes_eq x.name b) (find (is_named b) xs)
  where
    go : (w : Bool) (o : Option Bucket) → option_map told_by (cond w (Some (f x)) o)
        ≡ cond w (option_map g (option_map told_by (cond w (Some x) o))) (option_map told_by (cond w (Some x) o))
    go true o = ap (λ (v : BucketView). Some v) (shows x)
    go false o = refl

-- A bucket that changes is told so under its name, and all other names as before.
pub told-set_first : (name : Name) (f : Bucket → Bucket) (g : BucketView → BucketView) → ((x : Bucket) → (f x).name ≡ x.name)
    → ((x : Bucket) → told_by (f x) ≡ g (told_by x))
    → (bs : List Bucket) (b : Name) → told (set_first (is_named name) f bs) b ≡ changed_at name g (told bs) b
told-set_first name f g keeps shows [] b = go (bytes_eq name b)
  where
    go : (t : Bool) → option_map told_by None ≡ cond t (option_map g (option_map told_by None)) (option_map told_by None)
    go true = refl
    go false = refl
told-set_first name f g keeps shows (x ∷ xs) b = go (bytes_eq x.name name) refl (told-set_first name f g keeps shows xs b)
  where
    others : bytes_eq x.name name ≡ false → (w : Bool) → bytes_eq x.name b ≡ w → told (set_first (is_named name) f xs) b ≡ changed_at name g (told xs) b
        → option_map told_by (cond w (Some x) (find (is_named b) (set_first (is_named name) f xs)))
        ≡ cond (bytes_eq name b) (option_map g (option_map told_by (cond w (Some x) (find (is_named b) xs))))
        (option_map told_by (cond w (Some x) (find (is_named b) xs)))
    others differs true same ih = sym (ap (λ t. cond t (option_map g (Some (told_by x))) (Some (told_by x))) (other_name x.name name b differs same))
    others differs false same ih = ih

    go : (t : Bool) → bytes_eq x.name name ≡ t → told (set_first (is_named name) f xs) b ≡ changed_at name g (told xs) b
        → told (cond t (f x ∷ xs) (x ∷ set_first (is_named name) f xs)) b ≡ changed_at name g (told (x ∷ xs)) b
    go true e ih = told-head f g keeps shows x xs b ∙ ap (λ (n : Name). changed_at n g (told (x ∷ xs)) b) (same_name x.name name e)
    go false e ih = others e (bytes_eq x.name b) refl ih

-- A bucket at the end is told of where none of its name stands before it.
pub told-push : (bs : List Bucket) (x : Bucket) (b : Name) → (bytes_eq x.name b ≡ true → told bs b ≡ None)
    → told (bs ++ x ∷ []) b ≡ cond (bytes_eq x.name b) (Some (told_by x)) (told bs b)
told-push [] x b h = go (bytes_eq x.name b)
  where
    go : (t : Bool) → option_map told_by (cond t (Some x) None) ≡ cond t (Some (told_by x)) (option_map told_by None)
    go true = refl
    go false = refl
told-push (y ∷ ys) x b h = go (bytes_eq y.name b) (bytes_eq x.name b) h (told-push ys x b)
  where
    go : (t u : Bool) → (u ≡ true → option_map told_by (cond t (Some y) (find (is_named b) ys)) ≡ None)
        → ((u ≡ true → told ys b ≡ None) → told (ys ++ x ∷ []) b ≡ cond u (Some (told_by x)) (told ys b))
        → option_map told_by (cond t (Some y) (find (is_named b) (ys ++ x ∷ [])))
        ≡ cond u (Some (told_by x)) (option_map told_by (cond t (Some y) (find (is_named b) ys)))
    go true true h ih = absurd (cc (h refl))
    go true false h ih = refl
    go false u h ih = ih h

-- where no bucket has the name, nothing is told of it
none-told : (name : Name) (bs : List Bucket) → list_any (λ other. bytes_eq other name) (names_of bs) ≡ false → told bs name ≡ None
none-told name [] none = refl
none-told name (x ∷ xs) none = go (bytes_eq x.name name) none (none-told name xs)
  where
    go : (t : Bool) → (t || list_any (λ other. bytes_eq other name) (names_of xs)) ≡ false
        → (list_any (λ other. bytes_eq other name) (names_of xs) ≡ false → told xs name ≡ None)
        → option_map told_by (cond t (Some x) (find (is_named name) xs)) ≡ None
    go true h ih = absurd (true≢false h)
    go false h ih = ih h

-- A bucket that is taken out is told of no more, where no other has its name.
pub told-without : (name : Name) (bs : List Bucket) (b : Name) → is_once (names_of bs) ≡ true
    → told (without_first (is_named name) bs) b ≡ cond (bytes_eq name b) None (told bs b)
told-without name [] b once = go (bytes_eq name b)
  where
    go : (t : Bool) → option_map told_by None ≡ cond t None (option_map told_by None)
    go true = refl
    go false = refl
told-without name (x ∷ xs) b once = go (bytes_eq x.name name) refl (told-without name xs b parts.1)
  where
    parts : (not (list_any (λ other. bytes_eq other x.name) (names_of xs)) ≡ true) × (is_once (names_of xs) ≡ true)
    parts = and_parts (not (list_any (λ other. bytes_eq other x.name) (names_of xs))) (is_once (names_of xs)) once

    first : bytes_eq x.name name ≡ true → (u : Bool) → bytes_eq name b ≡ u
        → told xs b ≡ cond u None (option_map told_by (cond u (Some x) (find (is_named b) xs)))
    first e true same =
        ap (told xs) (sym (same_name name b same) ∙ sym (same_name x.name name e)) ∙ none-told x.name xs (not-true _ parts.0)
    first e false same = refl

    others : bytes_eq x.name name ≡ false → (w : Bool) → bytes_eq x.name b ≡ w
        → told (without_first (is_named name) xs) b ≡ cond (bytes_eq name b) None (told xs b)
        → option_map told_by (cond w (Some x) (find (is_named b) (without_first (is_named name) xs))) ≡ cond (bytes_eq name b) None
        (option_map told_by (cond w (Some x) (find (is_named b) xs)))
    others differs true same ih = sym (ap (λ t. cond t None (Some (told_by x))) (other_name x.name name b differs same))
    others differs false same ih = ih

    go : (t : Bool) → bytes_eq x.name name ≡ t → told (without_first (is_named name) xs) b ≡ cond (bytes_eq name b) None (told xs b)
        → told (cond t xs (x ∷ without_first (is_named name) xs)) b ≡ cond (bytes_eq name b) None (told (x ∷ xs) b)
    go true e ih =
        first e (bytes_eq name b) refl
        ∙ ap (λ (n : Name). cond (bytes_eq name b) None (option_map told_by (cond (bytes_eq n b) (Some x) (find (is_named b) xs))))
        (sym (same_name x.name name e))
    go false e ih = others e (bytes_eq x.name b) refl ih

-- ---- names

pub names-set_first : (name : Name) (f : Bucket → Bucket) → ((x : Bucket) → (f x).name ≡ x.name) → (bs : List Bucket)
    → names_of (set_first (is_named name) f bs) ≡ names_of bs
names-set_first name f keeps [] = refl
names-set_first name f keeps (x ∷ xs) = go (bytes_eq x.name name) (names-set_first name f keeps xs)
  where
    go : (t : Bool) → names_of (set_first (is_named name) f xs) ≡ names_of xs
        → names_of (cond t (f x ∷ xs) (x ∷ set_first (is_named name) f xs)) ≡ x.name ∷ names_of xs
    go true ih = ap (λ (n : Name). n ∷ names_of xs) (keeps x)
    go false ih = ap (λ ns. x.name ∷ ns) ih

any-without : (p : Name → Bool) (name : Name) (bs : List Bucket) → list_any p (names_of bs) ≡ false
    → list_any p (names_of (without_first (is_named name) bs)) ≡ false
any-without p name [] none = refl
any-without p name (x ∷ xs) none = go (bytes_eq x.name name) (any-without p name xs parts.1)
  where
    parts : (p x.name ≡ false) × (list_any p (names_of xs) ≡ false)
    parts = or_parts (p x.name) (list_any p (names_of xs)) none

    go : (t : Bool) → list_any p (names_of (without_first (is_named name) xs)) ≡ false
        → list_any p (names_of (cond t xs (x ∷ without_first (is_named name) xs))) ≡ false
    go true ih = parts.1
    go false ih = or_from _ _ parts.0 ih

pub once-without : (name : Name) (bs : List Bucket) → is_once (names_of bs) ≡ true → is_once (names_of (without_first (is_named name) bs)) ≡ true
once-without name [] once = refl
once-without name (x ∷ xs) once = go (bytes_eq x.name name) (once-without name xs parts.1)
  where
    parts : (not (list_any (λ other. bytes_eq other x.name) (names_of xs)) ≡ true) × (is_once (names_of xs) ≡ true)
    parts = and_parts (not (list_any (λ other. bytes_eq other x.name) (names_of xs))) (is_once (names_of xs)) once

    go : (t : Bool) → is_once (names_of (without_first (is_named name) xs)) ≡ true
        → is_once (names_of (cond t xs (x ∷ without_first (is_named name) xs))) ≡ true
    go true ih = parts.1
    go false ih = and_from _ _ (ap not (any-without (λ other. bytes_eq other x.name) name xs (not-true _ parts.0))) ih

-- a name that isn't told of is no bucket's
pub none-named : (name : Name) (bs : List Bucket) → told bs name ≡ None → list_any (λ other. bytes_eq other name) (names_of bs) ≡ false
none-named name [] none = refl
none-named name (x ∷ xs) none = go (bytes_eq x.name name) none (none-named name xs)
  where
    go : (t : Bool) → option_map told_by (cond t (Some x) (find (is_named name) xs)) ≡ None
        → (told xs name ≡ None → list_any (λ other. bytes_eq other name) (names_of xs) ≡ false)
        → (t || list_any (λ other. bytes_eq other name) (names_of xs)) ≡ false
    go true h ih = absurd cc
    go false h ih = ih h

any-push : (p : Name → Bool) (ns : List Name) (name : Name) → list_any p ns ≡ false → p name ≡ false → list_any p (ns ++ name ∷ []) ≡ false
any-push p [] name none last = or_from _ _ last refl
any-push p (n ∷ ns) name none last =
    let parts = or_parts (p n) (list_any p ns) none in
    or_from _ _ parts.0 (any-push p ns name parts.1 last)

turned : (a b : Name) → bytes_eq a b ≡ false → bytes_eq b a ≡ false
turned a b differs = go (bytes_eq b a) refl
  where
    go : (t : Bool) → bytes_eq b a ≡ t → t ≡ false
    go false e = refl
    go true e = absurd (true≢false (sym ((bytes_eq-Decides a b).1 (sym ((bytes_eq-Decides b a).0 e))) ∙ differs))

pub once-push : (ns : List Name) (name : Name) → is_once ns ≡ true → list_any (λ other. bytes_eq other name) ns ≡ false → is_once (ns ++ name ∷ []) ≡ true
once-push [] name once none = refl
once-push (n ∷ ns) name once none =
    let parts = and_parts (not (list_any (λ other. bytes_eq other n) ns)) (is_once ns) once in
    let rest = or_parts (bytes_eq n name) (list_any (λ other. bytes_eq other name) ns) none in
    and_from _ _ (ap not (any-push (λ other. bytes_eq other n) ns name (not-true _ parts.0) (turned n name rest.0))) (once-push ns name parts.1 rest.1)

pub names-push : (bs : List Bucket) (x : Bucket) → names_of (bs ++ x ∷ []) ≡ names_of bs ++ x.name ∷ []
names-push [] x = refl
names-push (b ∷ bs) x = ap (λ ns. b.name ∷ ns) (names-push bs x)
