-- The buckets of a configuration rise, and are just those of its rules.
use Rattle.std.proofs.Common.{◌≡◌, ℕ, suc, ◌+◌, Bool, true, false, ◌||◌, if◌then◌else◌, List, [], ◌∷◌, drop, insert, refl, ap, ◌∙◌, arith}
use Rattle.std.specs.List.{list_all, list_any}
use Rattle.std.specs.Ordering.{nat_cmp, is_lt, is_eq, ordering_reverse}
use Rattle.std.specs.Cmp.Lexicographic.{slice_cmp}
use Rattle.std.specs.declared.cmp.Ordering.{Ordering}
use Rattle.std.specs.declared.cmp.Ordering.TheVariants.{Less, Equal, Greater}
use Rattle.std.specs.Str.{bytes_eq}
use Rattle.std.proofs.lemmas.Bool.{and_parts, and_from}
use Rattle.std.proofs.lemmas.Cmp.{nat_list_cmp_total}
use Rattle.std.proofs.lemmas.Map.Text.{is_eq-slice_cmp}
use Rattle.std.proofs.lemmas.Slice.Eq.{bytes_eq-Decides}
use Rattle.s3r_names.specs.Tags.{is_key_below}
use Rattle.s3r_rules.specs.declared.rule.Rule.{Rule}
use Rattle.s3r_rules.specs.Destinations.{place_of, is_first, with_name, names_from, destinations, rise, AreBuckets}

abbrev pub Name : Type 0
Name = List ℕ

abbrev pub cmp : Name → Name → Ordering
cmp a b = slice_cmp nat_cmp a b

pub is_less : (o : Ordering) → is_lt o ≡ true → o ≡ Less
is_less Less e = refl
is_less Equal e = absurd cc
is_less Greater e = absurd cc

pub below-trans : (a b c : Name) → is_key_below a b ≡ true → is_key_below b c ≡ true → is_key_below a c ≡ true
below-trans a b c first second = ap is_lt (nat_list_cmp_total.trans a b c (is_less (cmp a b) first) (is_less (cmp b c) second))

-- of two names that aren't the same, where the first isn't below, the second is
pub other-below : (a b : Name) → is_key_below a b ≡ false → bytes_eq a b ≡ false → is_key_below b a ≡ true
other-below a b low same =
    ap is_lt (nat_list_cmp_total.antisymm b a) ∙ go (cmp a b) low (is_eq-slice_cmp a b ∙ same)
  where
    go : (o : Ordering) → is_lt o ≡ false → is_eq o ≡ false → is_lt (ordering_reverse o) ≡ true
    go Less l e = absurd (cc l)
    go Equal l e = absurd (cc e)
    go Greater l e = refl

-- a name goes behind one that is below it, and else before it, unless it is the same
pub behind : (name first : Name) (names : List Name) → is_key_below first name ≡ true → with_name name (first ∷ names) ≡ first ∷ with_name name names
behind name first names e =
    let more : 1 + place_of name names ≡ suc (place_of name names) = omega arith in
    rw (e, more) (go (is_first name (drop (place_of name names) names)))
  where
    go : (b : Bool) → (if b then first ∷ names else first ∷ insert names (place_of name names) name) ≡ first ∷
        (if b then names else insert names (place_of name names) name)
    go true = refl
    go false = refl

pub before : (name first : Name) (names : List Name) → is_key_below first name ≡ false
    → with_name name (first ∷ names) ≡ (if bytes_eq first name then first ∷ names else name ∷ first ∷ names)
before name first names e = rw e refl

all-with : (test : Name → Bool) (name : Name) (names : List Name) → test name ≡ true → list_all test names ≡ true → list_all test (with_name name names) ≡ true
all-with test name [] one all = rw one refl
all-with test name (first ∷ names) one all =
    let parts = and_parts (test first) (list_all test names) all in
    go (all-with test name names one parts.1) (is_key_below first name) refl (bytes_eq first name) refl
  where
    go : list_all test (with_name name names) ≡ true → (b : Bool) → is_key_below first name ≡ b → (c : Bool) → bytes_eq first name ≡ c
        → list_all test (with_name name (first ∷ names)) ≡ true
    go rest true e c f = ap (list_all test) (behind name first names e)
        ∙ and_from (test first) (list_all test (with_name name names)) (and_parts (test first) (list_all test names) all).0 rest
    go rest false e true f = ap (list_all test) (before name first names e) ∙ ap (λ b. list_all test (if b then first ∷ names else name ∷ first ∷ names)) f
        ∙ all
    go rest false e false f = ap (list_all test) (before name first names e) ∙ ap (λ b. list_all test (if b then first ∷ names else name ∷ first ∷ names)) f
        ∙ and_from (test name) (list_all test (first ∷ names)) one all

pub below-all : (a b : Name) (names : List Name) → is_key_below a b ≡ true → list_all (is_key_below b) names ≡ true → list_all (is_key_below a) names ≡ true
below-all a b [] low h = refl
below-all a b (name ∷ names) low h =
    let parts = and_parts (is_key_below b name) (list_all (is_key_below b) names) h in
    and_from (is_key_below a name) (list_all (is_key_below a) names) (below-trans a b name low parts.0) (below-all a b names low parts.1)

rise-with : (name : Name) (names : List Name) → rise names ≡ true → rise (with_name name names) ≡ true
rise-with name [] h = refl
rise-with name (first ∷ names) h =
    let parts = and_parts (list_all (is_key_below first) names) (rise names) h in
    go parts.0 (rise-with name names parts.1) (is_key_below first name) refl (bytes_eq first name) refl
  where
    go : list_all (is_key_below first) names ≡ true → rise (with_name name names) ≡ true
        → (b : Bool) → is_key_below first name ≡ b → (c : Bool) → bytes_eq first name ≡ c → rise (with_name name (first ∷ names)) ≡ true
    go all rest true e c f =
        ap rise (behind name first names e) ∙ and_from (list_all (is_key_below first) (with_name name names)) (rise (with_name name names))
        (all-with (is_key_below first) name names e all) rest
    go all rest false e true f = ap rise (before name first names e) ∙ ap (λ b. rise (if b then first ∷ names else name ∷ first ∷ names)) f ∙ h
    go all rest false e false f =
        let low = other-below first name e f in
        ap rise (before name first names e) ∙ ap (λ b. rise (if b then first ∷ names else name ∷ first ∷ names)) f
        ∙ and_from (list_all (is_key_below name) (first ∷ names)) (rise (first ∷ names))
        (and_from (is_key_below name first) (list_all (is_key_below name) names) low (below-all name first names low all)) h

rise-from : (rules : List Rule) (names : List Name) → rise names ≡ true → rise (names_from names rules) ≡ true
rise-from [] names h = h
rise-from (rule ∷ rules) names h = rise-from rules (with_name rule.bucket names) (rise-with rule.bucket names h)

pub rising : (rules : List Rule) → rise (destinations rules) ≡ true
rising rules = rise-from rules [] refl

swapped : (a b c : Bool) → (a || (b || c)) ≡ (b || (a || c))
swapped false b c = refl
swapped true true c = refl
swapped true false c = refl

twice : (a c : Bool) → (a || c) ≡ (a || (a || c))
twice true c = refl
twice false c = refl

any-with : (test : Name → Bool) (name : Name) (names : List Name) → list_any test (with_name name names) ≡ (test name || list_any test names)
any-with test name [] = refl
any-with test name (first ∷ names) = go (any-with test name names) (is_key_below first name) refl (bytes_eq first name) refl
  where
    go : list_any test (with_name name names) ≡ (test name || list_any test names)
        → (b : Bool) → is_key_below first name ≡ b → (c : Bool) → bytes_eq first name ≡ c
        → list_any test (with_name name (first ∷ names)) ≡ (test name || list_any test (first ∷ names))
    go rest true e c f = ap (list_any test) (behind name first names e) ∙ ap (λ b. test first || b) rest
        ∙ swapped (test first) (test name) (list_any test names)
    go rest false e true f =
        let same : first ≡ name = (bytes_eq-Decides first name).0 f in
        ap (list_any test) (before name first names e) ∙ ap (λ b. list_any test (if b then first ∷ names else name ∷ first ∷ names)) f
        ∙ twice (test first) (list_any test names) ∙ ap (λ n. test n || (test first || list_any test names)) same
    go rest false e false f = ap (list_any test) (before name first names e) ∙ ap (λ b. list_any test (if b then first ∷ names else name ∷ first ∷ names)) f

abbrev to_rule : (Name → Bool) → Rule → Bool
to_rule test rule = test rule.bucket

joined : (a b c : Bool) → (b || (a || c)) ≡ ((b || a) || c)
joined a true c = refl
joined a false c = refl

any-from : (test : Name → Bool) (rules : List Rule) (names : List Name)
    → list_any test (names_from names rules) ≡ (list_any (to_rule test) rules || list_any test names)
any-from test [] names = refl
any-from test (rule ∷ rules) names =
    any-from test rules (with_name rule.bucket names)
    ∙ ap (λ b. list_any (to_rule test) rules || b) (any-with test rule.bucket names)
    ∙ swapped (list_any (to_rule test) rules) (test rule.bucket) (list_any test names)
    ∙ joined (list_any (to_rule test) rules) (test rule.bucket) (list_any test names)

or-false : (a : Bool) → (a || false) ≡ a
or-false true = refl
or-false false = refl

pub complete : (rules : List Rule) → AreBuckets rules (destinations rules)
complete rules name = any-from (λ other. bytes_eq other name) rules [] ∙ or-false _
