-- The rules that are read are a configuration.
use Rattle.std.proofs.Common.{◌≡◌, ℕ, ◌+◌, ◌≤◌, Bool, true, false, not, ◌&&◌, ◌||◌, nat_le, nat_lt, if◌then◌else◌, List, [], ◌∷◌, ◌++◌, length, Option, Some, None, Result, Ok, Err, IfOk, refl, subst, arith, length-append}
use Rattle.std.specs.List.{list_all, list_any}
use Rattle.std.specs.Str.{chars}
use Rattle.std.proofs.lemmas.Bool.{and_parts, and_from, ltb-false}
use Rattle.std.proofs.lemmas.Bool.Decides.{nat_tests}
use Rattle.s3r_names.specs.declared.tags.Tag.{Tag}
use Rattle.s3r_names.specs.Bucket.{is_bucket_name}
use Rattle.s3r_names.specs.Tags.{is_tag_set}
use Rattle.s3r_names.specs.Class.{is_class_name}
use Rattle.s3r_rules.specs.declared.fault.Kind.{Kind}
use Rattle.s3r_rules.specs.declared.fault.Kind.TheVariants as kind
use Rattle.s3r_rules.specs.declared.fault.ConfigFault.{ConfigFault}
use Rattle.s3r_rules.specs.declared.draft.Draft.{Draft}
use Rattle.s3r_rules.specs.declared.rule.Rule.{Rule}
use Rattle.s3r_rules.specs.Faults.{◌>>=◌}
use Rattle.s3r_rules.specs.Rules.{is_empty, is_class, is_rule, has_id, has_priority, are_apart, is_config}
use Rattle.s3r_rules.specs.Reading.{wrong, id_text, id_from, priority_from, prefix_from, tags_from, bucket_from, class_from, unless_wrong, rule_beside, rule_from, rules_from, config_from}

pub ok-bind : {A B : Type 0} (P : A → Type 0) (Q : B → Type 0) (r : Result A ConfigFault) (f : A → Result B ConfigFault) → IfOk r P
    → ((x : A) → P x → IfOk (f x) Q) → IfOk (r >>= f) Q
ok-bind P Q (Ok x) f h next = next x h
ok-bind P Q (Err fault) f h next = tt

-- a test that decides between a value and a fault
pub ok-if : {A : Type 0} (P : A → Type 0) (b : Bool) (x : A) (n : ℕ) (k : Kind) → (b ≡ true → P x) → IfOk (if b then Ok x else wrong n k) P
ok-if P true x n k h = h refl
ok-if P false x n k h = tt

-- ---- one rule

abbrev Short : List ℕ → Type 0
Short id = nat_le (length (chars id)) 255 ≡ true

abbrev Low : ℕ → Type 0
Low priority = nat_le priority 2147483647 ≡ true

abbrev Begins : List ℕ → Type 0
Begins prefix = nat_le (length prefix) 1024 ≡ true

abbrev Set : List Tag → Type 0
Set tags = is_tag_set tags ≡ true

abbrev Named : List ℕ → Type 0
Named bucket = is_bucket_name bucket ≡ true

abbrev Classed : Option (List ℕ) → Type 0
Classed class = is_class class ≡ true

id-is : (n : ℕ) (id : Option (List ℕ)) → IfOk (id_from n id) Short
id-is n id = ok-if Short (nat_le (length (chars (id_text n id))) 255) (id_text n id) n kind.IdTooLong (λ e. e)

priority-is : (n : ℕ) (priority : Option ℕ) → IfOk (priority_from n priority) Low
priority-is n None = tt
priority-is n (Some p) = ok-if Low (nat_le p 2147483647) p n kind.BadPriority (λ e. e)

prefix-is : (n : ℕ) (prefix : List ℕ) → IfOk (prefix_from n prefix) Begins
prefix-is n prefix = ok-if Begins (nat_le (length prefix) 1024) prefix n kind.PrefixTooLong (λ e. e)

tags-are : (n : ℕ) (tags : Option (List Tag)) → IfOk (tags_from n tags) Set
tags-are n None = tt
tags-are n (Some tags) = ok-if Set (is_tag_set tags) tags n kind.BadTags (λ e. e)

bucket-is : (n : ℕ) (bucket : Option (List ℕ)) → IfOk (bucket_from n bucket) Named
bucket-is n None = tt
bucket-is n (Some name) = ok-if Named (is_bucket_name name) name n kind.BadArn (λ e. e)

class-is : (n : ℕ) (class : Option (List ℕ)) → IfOk (class_from n class) Classed
class-is n None = refl
class-is n (Some name) = ok-if Classed (is_class_name name) (Some name) n kind.BadClass (λ e. e)

-- a rule that has its place behind others
abbrev pub Fits : List Rule → Rule → Type 0
Fits earlier rule = (is_rule rule ≡ true) × (list_any (has_id rule) earlier ≡ false) × (list_any (has_priority rule) earlier ≡ false)

beside-is : (n : ℕ) (earlier : List Rule) (rule : Rule) → Short rule.id → Low rule.priority → Begins rule.prefix → Set rule.tags → Named rule.bucket
    → Classed rule.class
    → IfOk (rule_beside n earlier rule) (Fits earlier)
beside-is n earlier rule id priority prefix tags bucket class =
    go (rule.markers && not (is_empty rule.tags)) refl (list_any (has_id rule) earlier) refl (list_any (has_priority rule) earlier) refl
  where
    go : (a : Bool) → (rule.markers && not (is_empty rule.tags)) ≡ a → (b : Bool) → list_any (has_id rule) earlier ≡ b → (c : Bool)
        → list_any (has_priority rule) earlier ≡ c
        → IfOk (unless_wrong n rule (if a then Some kind.TagWithMarkers else (if b then Some kind.SameId else (if c then Some kind.SamePriority else None))))
        (Fits earlier)
    go true e b f c g = tt
    go false e true f c g = tt
    go false e false f true g = tt
    go false e false f false g = (rw (id, priority, prefix, tags, bucket, class, e) refl, f, g)

pub rule-is : (n : ℕ) (earlier : List Rule) (draft : Draft) → IfOk (rule_from n earlier draft) (Fits earlier)
unfolding rule_from
rule-is n earlier draft =
    ok-bind Short (Fits earlier) (id_from n draft.id) _ (id-is n draft.id)
    (λ id short. ok-bind Low (Fits earlier) (priority_from n draft.priority) _ (priority-is n draft.priority)
    (λ priority low. ok-bind Begins (Fits earlier) (prefix_from n draft.filter.prefix) _ (prefix-is n draft.filter.prefix)
    (λ prefix begins. ok-bind Set (Fits earlier) (tags_from n draft.filter.tags) _ (tags-are n draft.filter.tags)
    (λ tags set. ok-bind Named (Fits earlier) (bucket_from n draft.destination.bucket) _ (bucket-is n draft.destination.bucket)
    (λ bucket named. ok-bind Classed (Fits earlier) (class_from n draft.destination.class) _ (class-is n draft.destination.class)
    (λ class classed. beside-is n earlier _ short low begins set named classed))))))

-- ---- rules in turn

pub all-snoc : (test : Rule → Bool) (rules : List Rule) (rule : Rule) → list_all test rules ≡ true → test rule ≡ true
    → list_all test (rules ++ rule ∷ []) ≡ true
all-snoc test [] rule all one = rw one refl
all-snoc test (first ∷ rules) rule all one =
    let parts = and_parts (test first) (list_all test rules) all in
    and_from (test first) (list_all test (rules ++ rule ∷ [])) parts.0 (all-snoc test rules rule parts.1 one)

pub none-parts : (a b : Bool) → (a || b) ≡ false → (not a ≡ true) × (b ≡ false)
none-parts true b e = absurd (cc e)
none-parts false b e = (refl, e)

pub apart-snoc : (clash : Rule → Rule → Bool) (rules : List Rule) (rule : Rule) → are_apart clash rules ≡ true → list_any (clash rule) rules ≡ false
    → are_apart clash (rules ++ rule ∷ []) ≡ true
apart-snoc clash [] rule apart none = refl
apart-snoc clash (first ∷ rules) rule apart none =
    let parts = and_parts (list_all (λ other. not (clash other first)) rules) (are_apart clash rules) apart in
    let no_clash = none-parts (clash rule first) (list_any (clash rule) rules) none in
    and_from (list_all (λ other. not (clash other first)) (rules ++ rule ∷ [])) (are_apart clash (rules ++ rule ∷ []))
    (all-snoc (λ other. not (clash other first)) rules rule parts.0 no_clash.0) (apart-snoc clash rules rule parts.1 no_clash.1)

abbrev pub Lawful : List Rule → Type 0
Lawful rules = (list_all is_rule rules ≡ true) × (are_apart has_id rules ≡ true) × (are_apart has_priority rules ≡ true)

abbrev Grows : List Rule → List Draft → List Rule → Type 0
Grows rules drafts done = Lawful done × (length done ≡ length rules + length drafts)

longer : (draft : Draft) (drafts : List Draft) (rules : List Rule) (rule : Rule) (r : Result (List Rule) ConfigFault)
    → length (rules ++ rule ∷ []) ≡ length rules + 1
    → IfOk r (Grows (rules ++ rule ∷ []) drafts) → IfOk r (Grows rules (draft ∷ drafts))
longer draft drafts rules rule (Ok done) e h = (h.0, omega (arith, e, h.1))
longer draft drafts rules rule (Err fault) e h = tt

grows : (drafts : List Draft) (rules : List Rule) → Lawful rules → IfOk (rules_from rules drafts) (Grows rules drafts)
grows [] rules lawful = (lawful, omega arith)
grows (draft ∷ drafts) rules lawful =
    ok-bind (Fits rules) (Grows rules (draft ∷ drafts)) (rule_from (length rules + 1) rules draft) _ (rule-is (length rules + 1) rules draft)
    (λ rule fits.
    let next : Lawful (rules ++ rule ∷ []) = (
      all-snoc is_rule rules rule lawful.0 fits.0,
      apart-snoc has_id rules rule lawful.1 fits.1,
      apart-snoc has_priority rules rule lawful.2 fits.2,
    ) in
    longer draft drafts rules rule (rules_from (rules ++ rule ∷ []) drafts) (length-append rules (rule ∷ [])) (grows drafts (rules ++ rule ∷ []) next))

pub at_ok : {A : Type 0} (P : A → Type 0) (r : Result A ConfigFault) (x : A) → r ≡ Ok x → IfOk r P → P x
at_ok P r x e h = subst (λ s. IfOk s P) e h

fits_count : (n m : ℕ) → n ≡ m → 1 ≤ m → m ≤ 1000 → (nat_le 1 n && nat_le n 1000) ≡ true
fits_count n m e low high = grind (arith, nat_tests)

pub config_is : (drafts : List Draft) (rules : List Rule) → 1 ≤ length drafts → length drafts ≤ 1000 → rules_from [] drafts ≡ Ok rules → is_config rules ≡ true
config_is drafts rules low high e =
    let done = at_ok (Grows [] drafts) (rules_from [] drafts) rules e (grows drafts [] (refl, refl, refl)) in
    let count = fits_count (length rules) (length drafts) (omega (arith, done.1)) low high in
    rw (count, done.0.0, done.0.1, done.0.2) refl

-- so what is read of drafts is one
pub drafts_lawful : (drafts : List Draft) → IfOk (config_from drafts) (λ rules. is_config rules ≡ true)
drafts_lawful [] = tt
drafts_lawful (draft ∷ drafts) = go (nat_lt 1000 (length (draft ∷ drafts))) refl
  where
    some : (r : Result (List Rule) ConfigFault) → rules_from [] (draft ∷ drafts) ≡ r → length (draft ∷ drafts) ≤ 1000 → IfOk r (λ rules. is_config rules ≡ true)
    some (Ok rules) e few = config_is (draft ∷ drafts) rules (omega arith) few e
    some (Err fault) e few = tt

    go : (b : Bool) → nat_lt 1000 (length (draft ∷ drafts)) ≡ b → IfOk (if b then wrong 0 kind.TooManyRules else rules_from [] (draft ∷ drafts))
        (λ rules. is_config rules ≡ true)
    go true e = tt
    go false e = some (rules_from [] (draft ∷ drafts)) refl (ltb-false 1000 (length (draft ∷ drafts)) e)
