-- Rules in turn, each beside its region.
use Rattle.std.proofs.Common.{◌≡◌, ℕ, zero, suc, ◌+◌, ◌<◌, Bool, true, List, [], ◌∷◌, ◌++◌, length, take, get_or, refl, sym, ap, ◌∙◌, arith}
use Rattle.std.specs.List.{list_all, flat_map, zip}
use Rattle.std.proofs.lemmas.Bool.{and_parts, and_from}
use Rattle.std.proofs.lemmas.List.{flat_map_more}
use Rattle.s3r_rules.specs.declared.rule.Rule.{Rule}
use Rattle.s3r_record.specs.Fields.{rule_bytes}
use Rattle.s3r_record.specs.Placing.{have_one_region, agree}

pub all-push : {A : Type 0} (test : A → Bool) (xs : List A) (x : A) → list_all test xs ≡ true → test x ≡ true → list_all test (xs ++ x ∷ []) ≡ true
all-push test [] x all one = rw one refl
all-push test (first ∷ xs) x all one =
    let parts = and_parts (test first) (list_all test xs) all in
    and_from (test first) (list_all test (xs ++ x ∷ [])) parts.0 (all-push test xs x parts.1 one)

pub zip-push : {A B : Type 0} (xs : List A) (ys : List B) (x : A) (y : B) → length ys ≡ length xs → zip (xs ++ x ∷ []) (ys ++ y ∷ []) ≡ zip xs ys ++ (x, y) ∷ []
zip-push [] [] x y e = refl
zip-push [] (b ∷ ys) x y e = absurd (omega arith)
zip-push (a ∷ xs) [] x y e = absurd (omega arith)
zip-push (a ∷ xs) (b ∷ ys) x y e = ap (λ pairs. (a, b) ∷ pairs) (zip-push xs ys x y (omega arith))

-- a rule whose region the earlier ones told
pub agree-push : (earlier : List (Rule × ℕ)) (placed : Rule × ℕ) → agree earlier ≡ true → list_all (λ other. have_one_region other placed) earlier ≡ true
    → agree (earlier ++ placed ∷ []) ≡ true
agree-push [] placed all beside = refl
agree-push (first ∷ earlier) placed all beside =
    let parts = and_parts (list_all (have_one_region first) earlier) (agree earlier) all in
    let told = and_parts (have_one_region first placed) (list_all (λ other. have_one_region other placed) earlier) beside in
    and_from (list_all (have_one_region first) (earlier ++ placed ∷ [])) (agree (earlier ++ placed ∷ []))
    (all-push (have_one_region first) earlier placed parts.0 told.0) (agree-push earlier placed parts.1 told.1)

all-at : {A : Type 0} (test : A → Bool) (earlier : List A) (x : A) (rest : List A) → list_all test (earlier ++ x ∷ rest) ≡ true → test x ≡ true
all-at test [] x rest h = (and_parts (test x) (list_all test rest) h).0
all-at test (first ∷ earlier) x rest h = all-at test earlier x rest (and_parts (test first) (list_all test (earlier ++ x ∷ rest)) h).1

-- among rules that agree, the region of each is that of those before it
pub agree-before : (earlier : List (Rule × ℕ)) (placed : Rule × ℕ) (rest : List (Rule × ℕ)) → agree (earlier ++ placed ∷ rest) ≡ true
    → list_all (λ other. have_one_region other placed) earlier ≡ true
agree-before [] placed rest all = refl
agree-before (first ∷ earlier) placed rest all =
    let parts = and_parts (list_all (have_one_region first) (earlier ++ placed ∷ rest)) (agree (earlier ++ placed ∷ rest)) all in
    and_from (have_one_region first placed) (list_all (λ other. have_one_region other placed) earlier)
    (all-at (have_one_region first) earlier placed rest parts.0) (agree-before earlier placed rest parts.1)

-- one more pair from the front
zip-suc : {A B : Type 0} (xs : List A) (ys : List B) (i : ℕ) (x : A) (y : B) → i < length xs → i < length ys
    → zip (take (suc i) xs) (take (suc i) ys) ≡ zip (take i xs) (take i ys) ++ (get_or xs i x, get_or ys i y) ∷ []
zip-suc [] ys i x y low high = absurd (omega arith)
zip-suc (a ∷ xs) [] i x y low high = absurd (omega arith)
zip-suc (a ∷ xs) (b ∷ ys) zero x y low high = refl
zip-suc (a ∷ xs) (b ∷ ys) (suc i) x y low high = ap (λ pairs. (a, b) ∷ pairs) (zip-suc xs ys i x y (omega arith) (omega arith))

pub zip-more : {A B : Type 0} (xs : List A) (ys : List B) (i : ℕ) (x : A) (y : B) → i < length xs → i < length ys
    → zip (take (i + 1) xs) (take (i + 1) ys) ≡ zip (take i xs) (take i ys) ++ (get_or xs i x, get_or ys i y) ∷ []
zip-more xs ys i x y low high =
    let next : i + 1 ≡ suc i = omega arith in
    ap (λ (n : ℕ). zip (take n xs) (take n ys)) next ∙ zip-suc xs ys i x y low high

pub all-get : {A : Type 0} (test : A → Bool) (xs : List A) (i : ℕ) (x : A) → i < length xs → list_all test xs ≡ true → test (get_or xs i x) ≡ true
all-get test [] i x low all = absurd (omega arith)
all-get test (a ∷ xs) zero x low all = (and_parts (test a) (list_all test xs) all).0
all-get test (a ∷ xs) (suc i) x low all = all-get test xs i x (omega arith) (and_parts (test a) (list_all test xs) all).1

-- one more rule, written behind those before it
pub spelled_more : (rules : List Rule) (regions : List ℕ) (i : ℕ) (rule : Rule) (out so_far next : List ℕ) → i < length rules → length regions ≡ length rules
    → rule ≡ get_or rules i rule
    → so_far ≡ out ++ flat_map rule_bytes (zip (take i rules) (take i regions)) → next ≡ so_far ++ rule_bytes (rule, get_or regions i 0)
    → next ≡ out ++ flat_map rule_bytes (zip (take (i + 1) rules) (take (i + 1) regions))
spelled_more rules regions i rule out so_far next low paired is before one =
    let region = get_or regions i 0 in
    let pairs = zip (take i rules) (take i regions) in
    let more : pairs ++ (rule, region) ∷ [] ≡ zip (take (i + 1) rules) (take (i + 1) regions) =
    ap (λ (r : Rule). pairs ++ (r, region) ∷ []) is ∙ sym (zip-more rules regions i rule 0 low (omega arith)) in
    one ∙ ap (λ (bytes : List ℕ). bytes ++ rule_bytes (rule, region)) before ∙ flat_map_more rule_bytes out pairs (rule, region)
    ∙ ap (λ (pairs : List (Rule × ℕ)). out ++ flat_map rule_bytes pairs) more
