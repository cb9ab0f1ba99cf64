-- The law of a configuration, each rule beside its region.
use Rattle.std.proofs.Common.{◌≡◌, ℕ, zero, suc, ◌+◌, ◌^◌, Bool, true, false, ◌&&◌, cond, nat_le, List, [], ◌∷◌, ◌++◌, length, Some, None, Ok, Err, refl, sym, ap, subst, ◌∙◌, append_assoc, arith, length-append}
use Rattle.std.specs.Int.{w16, to_be_bytes}
use Rattle.std.specs.List.{list_all, flat_map, zip}
use Rattle.std.proofs.lemmas.Bool.{and_parts, leb-true, le-leb}
use Rattle.std.proofs.lemmas.List.{append-nil}
use Rattle.std.proofs.lemmas.List.Concat.{flat_map-cons}
use Rattle.s3r_rules.specs.declared.rule.Rule.{Rule}
use Rattle.s3r_rules.specs.Rules.{is_rule, has_id, has_priority, are_apart, is_config}
use Rattle.s3r_rules.proofs.Growing.{all-snoc, apart-snoc, Lawful}
use Rattle.s3r_rules.proofs.Drafted.{none_before}
use Rattle.s3r_record.specs.Fields.{rule_bytes, rules_bytes}
use Rattle.s3r_record.specs.Placing.{agree, IsPlaced, has_texts}
use Rattle.s3r_record.specs.Reading.{Unread, place, number_at}
use Rattle.s3r_record.specs.ReadingRules.{rule_at, rules_after, count_at, rules_at}
use Rattle.s3r_record.proofs.Agreeing.{all-push, zip-push, agree-push, agree-before}
use Rattle.s3r_record.proofs.ReaderLaws.{IsBytes, bind_ok, guard_passed, ok_is, Takes, Takes-then, left, Reads, take_field, read_again}
use Rattle.s3r_record.proofs.FieldLaws.{wide16, number_law}
use Rattle.s3r_record.proofs.RuleLaws.{Stands, rule_law, rule_fits}

-- what was read so far
record Holds (rules : List Rule) (regions : List ℕ) : Type 0 where
  pub lawful : Lawful rules
  pub texts : list_all has_texts rules ≡ true
  pub paired : length regions ≡ length rules
  pub low : list_all (λ region. nat_le region 7) regions ≡ true
  pub agreed : agree (zip rules regions) ≡ true

holds-none : Holds [] []
holds-none = record { lawful = (refl, refl, refl); texts = refl; paired = refl; low = refl; agreed = refl }

holds-push : (rules : List Rule) (regions : List ℕ) (placed : Rule × ℕ) → Holds rules regions → Stands rules regions placed
    → Holds (rules ++ placed.0 ∷ []) (regions ++ placed.1 ∷ [])
holds-push rules regions placed holds stands =
    let agreed : agree (zip rules regions ++ placed ∷ []) ≡ true = agree-push (zip rules regions) placed holds.agreed stands.beside in
    record {
      lawful = (
        all-snoc is_rule rules placed.0 holds.lawful.0 stands.ruled.0,
        apart-snoc has_id rules placed.0 holds.lawful.1 stands.ruled.1,
        apart-snoc has_priority rules placed.0 holds.lawful.2 stands.ruled.2,
      );
      texts = all-push has_texts rules placed.0 holds.texts stands.texts;
      paired = omega (arith, length-append rules (placed.0 ∷ []), length-append regions (placed.1 ∷ []), holds.paired);
      low = all-push (λ region. nat_le region 7) regions placed.1 holds.low (le-leb placed.1 7 stands.low);
      agreed = subst (λ (pairs : List (Rule × ℕ)). agree pairs ≡ true) (sym (zip-push rules regions placed.0 placed.1 holds.paired)) agreed;
    }

-- ---- what is read is spelled so

-- what was read behind these
record Grown (rules : List Rule) (regions : List ℕ) (count : ℕ) (bytes : List ℕ) (x : (List Rule × List ℕ) × Unread) : Type 0 where
  pub more : List Rule
  pub beside : List ℕ
  pub rules_are : rules ++ more ≡ x.0.0
  pub regions_are : regions ++ beside ≡ x.0.1
  pub counted : length more ≡ count
  pub takes : Takes bytes (flat_map rule_bytes (zip more beside)) x.1.bytes
  pub holds : Holds x.0.0 x.0.1

grows : (count : ℕ) (rules : List Rule) (regions : List ℕ) (u : Unread) (x : (List Rule × List ℕ) × Unread) → IsBytes u.bytes → Holds rules regions
    → rules_after count rules regions u ≡ Ok x → Grown rules regions count u.bytes x
unfolding rules_after
grows zero rules regions u x fits holds e =
    subst (λ (y : (List Rule × List ℕ) × Unread). Grown rules regions zero u.bytes y) (ok_is ((rules, regions), u) x e)
    (record {
      more = [];
      beside = [];
      rules_are = append-nil rules;
      regions_are = append-nil regions;
      counted = refl;
      takes =
          record { parts = refl; rest_fits = fits };
      holds = holds;
    })
grows (suc count) rules regions u x fits holds e =
    let first = take_field (rule_law rules regions) (λ rule. rules_after count (rules ++ rule.0.0 ∷ []) (regions ++ rule.0.1 ∷ []) rule.1) u x fits e in
    let others = grows count (rules ++ first.value.0 ∷ []) (regions ++ first.value.1 ∷ []) first.rest x first.takes.rest_fits
    (holds-push rules regions first.value holds first.fits) first.gave in
    let both = Takes-then u.bytes (rule_bytes first.value) first.rest.bytes
    (flat_map rule_bytes (zip others.more others.beside)) x.1.bytes first.takes others.takes in
    record {
      more = first.value.0 ∷ others.more;
      beside = first.value.1 ∷ others.beside;
      rules_are = sym (append_assoc rules (first.value.0 ∷ []) others.more) ∙ others.rules_are;
      regions_are = sym (append_assoc regions (first.value.1 ∷ []) others.beside) ∙ others.regions_are;
      counted = ap suc others.counted;
      takes = subst (λ (bytes : List ℕ). Takes u.bytes bytes x.1.bytes) (sym (flat_map-cons rule_bytes first.value (zip others.more others.beside))) both;
      holds = others.holds;
    }

-- ---- what is spelled so is read

rules_again : (more rules : List Rule) (beside regions : List ℕ) (whole : ℕ) (rest : List ℕ) → length beside ≡ length more → length regions ≡ length rules
    → list_all is_rule more ≡ true → are_apart has_id (rules ++ more) ≡ true → are_apart has_priority (rules ++ more) ≡ true → list_all has_texts more ≡ true
    → list_all (λ region. nat_le region 7) beside ≡ true → agree (zip rules regions ++ zip more beside) ≡ true
    → rules_after (length more) rules regions (left whole (flat_map rule_bytes (zip more beside) ++ rest)) ≡ Ok
    ((rules ++ more, regions ++ beside), left whole rest)
unfolding rules_after
rules_again [] rules [] regions whole rest paired even ruled ids priorities texts low agreed =
    rw (append-nil rules, append-nil regions) refl
rules_again [] rules (region ∷ beside) regions whole rest paired even ruled ids priorities texts low agreed = absurd (omega arith)
rules_again (rule ∷ more) rules [] regions whole rest paired even ruled ids priorities texts low agreed = absurd (omega arith)
rules_again (rule ∷ more) rules (region ∷ beside) regions whole rest paired even ruled ids priorities texts low agreed =
    let r = and_parts (is_rule rule) (list_all is_rule more) ruled in
    let t = and_parts (has_texts rule) (list_all has_texts more) texts in
    let l = and_parts (nat_le region 7) (list_all (λ region. nat_le region 7) beside) low in
    let stands : Stands rules regions (rule, region) = record {
      ruled = (r.0, none_before has_id rules rule more ids, none_before has_priority rules rule more priorities);
      texts = t.0;
      low = leb-true region 7 l.0;
      beside = agree-before (zip rules regions) (rule, region) (zip more beside) agreed;
    } in
    let pairs = zip more beside in
    let regrouped : flat_map rule_bytes ((rule, region) ∷ pairs) ++ rest ≡ rule_bytes (rule, region) ++ (flat_map rule_bytes pairs ++ rest) =
    ap (λ (bytes : List ℕ). bytes ++ rest) (flat_map-cons rule_bytes (rule, region) pairs)
    ∙ append_assoc (rule_bytes (rule, region)) (flat_map rule_bytes pairs) rest in
    let rules_one = append_assoc rules (rule ∷ []) more in
    let regions_one = append_assoc regions (region ∷ []) beside in
    let pairs_one : zip (rules ++ rule ∷ []) (regions ++ region ∷ []) ++ pairs ≡ zip rules regions ++ (rule, region) ∷ pairs =
    ap (λ (before : List (Rule × ℕ)). before ++ pairs) (zip-push rules regions rule region even)
    ∙ append_assoc (zip rules regions) ((rule, region) ∷ []) pairs in
    let evens : length (regions ++ region ∷ []) ≡ length (rules ++ rule ∷ []) =
    omega (arith, length-append rules (rule ∷ []), length-append regions (region ∷ []), even) in
    ap (λ (bytes : List ℕ). rules_after (suc (length more)) rules regions (left whole bytes)) regrouped
    ∙ read_again (rule_law rules regions) (λ rule. rules_after (length more) (rules ++ rule.0.0 ∷ []) (regions ++ rule.0.1 ∷ []) rule.1) whole (rule, region)
    (flat_map rule_bytes pairs ++ rest) stands
    ∙ rules_again more (rules ++ rule ∷ []) beside (regions ++ region ∷ []) whole rest (omega arith) evens r.1 (ap (are_apart has_id) rules_one ∙ ids)
    (ap (are_apart has_priority) rules_one ∙ priorities) t.1 l.1 (ap agree pairs_one ∙ agreed)
    ∙ ap (λ (all : List Rule × List ℕ). Ok (all, left whole rest)) (ap (λ (rules : List Rule). (rules, (regions ++ region ∷ []) ++ beside)) rules_one
    ∙ ap (λ (regions : List ℕ). (rules ++ rule ∷ more, regions)) regions_one)

-- ---- the count

count_takes : (u : Unread) (x : ℕ × Unread) → IsBytes u.bytes → count_at u ≡ Ok x → Takes u.bytes (to_be_bytes w16 x.0) x.1.bytes
    × ((nat_le 1 x.0 && nat_le x.0 1000) ≡ true)
unfolding count_at
count_takes u x fits e =
    let count = take_field (number_law w16 (2 ^ 16) wide16) (λ count. cond (nat_le 1 count.0 && nat_le count.0 1000) (Ok count) (Err (place u))) u x fits e in
    let g = guard_passed (nat_le 1 count.value && nat_le count.value 1000) (place u) (count.value, count.rest) x count.gave in
    subst (λ (y : ℕ × Unread). Takes u.bytes (to_be_bytes w16 y.0) y.1.bytes × ((nat_le 1 y.0 && nat_le y.0 1000) ≡ true)) g.1 (count.takes, g.0)

count_again : (whole count : ℕ) (rest : List ℕ) → (nat_le 1 count && nat_le count 1000) ≡ true
    → count_at (left whole (to_be_bytes w16 count ++ rest)) ≡ Ok (count, left whole rest)
unfolding count_at
count_again whole count rest is =
    let parts = and_parts (nat_le 1 count) (nat_le count 1000) is in
    rw ((number_law w16 (2 ^ 16) wide16).again whole count rest (omega (arith, leb-true count 1000 parts.1)), is) refl

count_law : Reads count_at (to_be_bytes w16) (λ n. (nat_le 1 n && nat_le n 1000) ≡ true)
count_law = record { takes = count_takes; again = count_again }

-- ---- all of them

-- a configuration whose rules are beside regions that they may have
pub record Placed (x : List Rule × List ℕ) : Type 0 where
  pub config : is_config x.0 ≡ true
  pub placed : IsPlaced x.0 x.1
  pub texts : list_all has_texts x.0 ≡ true

abbrev spelled : List Rule × List ℕ → List ℕ
spelled x = rules_bytes x.0 x.1

config_is : (rules : List Rule) → Lawful rules → (nat_le 1 (length rules) && nat_le (length rules) 1000) ≡ true → is_config rules ≡ true
config_is rules lawful count = rw (count, lawful.0, lawful.1, lawful.2) refl

-- what the rules behind a count are
pub rules_placed : (u : Unread) (count : ℕ) (x : (List Rule × List ℕ) × Unread) → IsBytes u.bytes → (nat_le 1 count && nat_le count 1000) ≡ true
    → rules_after count [] [] u ≡ Ok x
    → Takes u.bytes (flat_map rule_bytes (zip x.0.0 x.0.1)) x.1.bytes × (length x.0.0 ≡ count) × Placed x.0
rules_placed u count x fits is e =
    let grown = grows count [] [] u x fits holds-none e in
    let counted : length x.0.0 ≡ count = ap length (sym grown.rules_are) ∙ grown.counted in
    let takes : Takes u.bytes (flat_map rule_bytes (zip x.0.0 x.0.1)) x.1.bytes =
    subst (λ (bytes : List ℕ). Takes u.bytes bytes x.1.bytes) (ap (λ (rules : List Rule). flat_map rule_bytes (zip rules grown.beside)) grown.rules_are
    ∙ ap (λ (regions : List ℕ). flat_map rule_bytes (zip x.0.0 regions)) grown.regions_are) grown.takes in (
      takes,
      counted,
      record {
        config = config_is x.0.0 grown.holds.lawful (subst (λ (n : ℕ). (nat_le 1 n && nat_le n 1000) ≡ true) (sym counted) is);
        placed = record { count = grown.holds.paired; regions = grown.holds.low; agree = grown.holds.agreed };
        texts = grown.holds.texts;
      },
    )

rules_take : (u : Unread) (x : (List Rule × List ℕ) × Unread) → IsBytes u.bytes → rules_at u ≡ Ok x → Takes u.bytes (spelled x.0) x.1.bytes × Placed x.0
unfolding rules_at
rules_take u x fits e =
    let count = take_field count_law (λ count. rules_after count.0 [] [] count.1) u x fits e in
    let placed = rules_placed count.rest count.value x count.takes.rest_fits count.fits count.gave in
    let both = Takes-then u.bytes (to_be_bytes w16 count.value) count.rest.bytes (flat_map rule_bytes (zip x.0.0 x.0.1)) x.1.bytes count.takes placed.0 in
    (subst (λ (n : ℕ). Takes u.bytes (to_be_bytes w16 n ++ flat_map rule_bytes (zip x.0.0 x.0.1)) x.1.bytes) (sym placed.1) both, placed.2)

-- what a reader of a configuration uses of its rule
pub record IsConfig (rules : List Rule) : Type 0 where
  pub count : (nat_le 1 (length rules) && nat_le (length rules) 1000) ≡ true
  pub ruled : list_all is_rule rules ≡ true
  pub ids : are_apart has_id rules ≡ true
  pub priorities : are_apart has_priority rules ≡ true

pub config_has : (rules : List Rule) → is_config rules ≡ true → IsConfig rules
config_has rules h =
    let n1 = nat_le 1 (length rules) in
    let n2 = nat_le (length rules) 1000 in
    let p3 = and_parts (n1 && n2 && list_all is_rule rules && are_apart has_id rules) (are_apart has_priority rules) h in
    let p2 = and_parts (n1 && n2 && list_all is_rule rules) (are_apart has_id rules) p3.0 in
    let p1 = and_parts (n1 && n2) (list_all is_rule rules) p2.0 in
    record { count = p1.0; ruled = p1.1; ids = p2.1; priorities = p3.1 }

rules_read_again : (whole : ℕ) (x : List Rule × List ℕ) (rest : List ℕ) → Placed x → rules_at (left whole (spelled x ++ rest)) ≡ Ok (x, left whole rest)
unfolding rules_at
rules_read_again whole x rest placed =
    let config = config_has x.0 placed.config in
    let behind = flat_map rule_bytes (zip x.0 x.1) in
    ap (λ (bytes : List ℕ). rules_at (left whole bytes)) (append_assoc (to_be_bytes w16 (length x.0)) behind rest)
    ∙ read_again count_law (λ count. rules_after count.0 [] [] count.1) whole (length x.0) (behind ++ rest) config.count
    ∙ rules_again x.0 [] x.1 [] whole rest placed.placed.count refl config.ruled config.ids config.priorities placed.texts placed.placed.regions
    placed.placed.agree

pub rules_law : Reads rules_at spelled Placed
rules_law = record { takes = rules_take; again = rules_read_again }

-- rules that pass the test are the configuration that is made of them
pub made_of : (passes : Bool) (rules config : List Rule) → passes ≡ true → Some config ≡ cond passes (Some rules) None → config ≡ rules
made_of true rules config passed made = cc
made_of false rules config passed made = absurd cc

pub not_refused : (passes : Bool) (rules : List Rule) → passes ≡ true → cond passes (Some rules) None ≡ None → ⊥
not_refused true rules passed made = cc
not_refused false rules passed made = cc

lawful : (count : ℕ) (rules : List Rule) (regions : List ℕ) (u : Unread) (x : (List Rule × List ℕ) × Unread) → Lawful rules
    → rules_after count rules regions u ≡ Ok x → Lawful x.0.0 × (length x.0.0 ≡ length rules + count)
unfolding rules_after
lawful zero rules regions u x so_far e =
    subst (λ (y : (List Rule × List ℕ) × Unread). Lawful y.0.0 × (length y.0.0 ≡ length rules + 0)) (ok_is ((rules, regions), u) x e) (so_far, omega arith)
lawful (suc count) rules regions u x so_far e =
    let first = bind_ok (rule_at rules regions u) (λ rule. rules_after count (rules ++ rule.0.0 ∷ []) (regions ++ rule.0.1 ∷ []) rule.1) x e in
    let rule = first.0.0.0 in
    let fits = rule_fits rules regions u first.0 first.1 in
    let next : Lawful (rules ++ rule ∷ []) = (
      all-snoc is_rule rules rule so_far.0 fits.0,
      apart-snoc has_id rules rule so_far.1 fits.1,
      apart-snoc has_priority rules rule so_far.2 fits.2,
    ) in
    let others = lawful count (rules ++ rule ∷ []) (regions ++ first.0.0.1 ∷ []) first.0.1 x next first.2 in
    (others.0, omega (arith, others.1, length-append rules (rule ∷ [])))

count_is : (u : Unread) (x : ℕ × Unread) → count_at u ≡ Ok x → (nat_le 1 x.0 && nat_le x.0 1000) ≡ true
unfolding count_at
count_is u x e =
    let read = bind_ok (number_at w16 u) (λ count. cond (nat_le 1 count.0 && nat_le count.0 1000) (Ok count) (Err (place u))) x e in
    let g = guard_passed (nat_le 1 read.0.0 && nat_le read.0.0 1000) (place u) read.0 x read.2 in
    subst (λ (y : ℕ × Unread). (nat_le 1 y.0 && nat_le y.0 1000) ≡ true) g.1 g.0

-- the rules behind a count are a configuration, whatever the bytes are
pub config_read : (u after last : Unread) (count : ℕ) (rules : List Rule) (regions : List ℕ) → count_at u ≡ Ok (count, after)
    → rules_after count [] [] after ≡ Ok ((rules, regions), last) → is_config rules ≡ true
config_read u after last count rules regions counted read =
    let done = lawful count [] [] after ((rules, regions), last) (refl, refl, refl) read in
    let long : length rules ≡ count = omega (arith, done.1) in
    config_is rules done.0 (subst (λ (n : ℕ). (nat_le 1 n && nat_le n 1000) ≡ true) (sym long) (count_is u (count, after) counted))
