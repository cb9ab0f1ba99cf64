-- A configuration whose rules are written out in full is read as this configuration.
use Rattle.std.proofs.Common.{◌≡◌, ℕ, ◌+◌, Bool, true, false, not, ◌&&◌, nat_le, nat_lt, List, [], ◌∷◌, ◌++◌, map, length, Option, Some, None, Ok, refl, sym, ap, ◌∙◌, arith, append_assoc}
use Rattle.std.specs.List.{list_all, list_any}
use Rattle.std.specs.Str.{chars}
use Rattle.std.proofs.lemmas.List.{append-nil, length-map}
use Rattle.std.proofs.lemmas.Bool.{and_parts}
use Rattle.std.proofs.lemmas.Bool.Decides.{nat_tests}
use Rattle.s3r_names.specs.Tags.{is_tag_set}
use Rattle.s3r_names.specs.Bucket.{is_bucket_name}
use Rattle.s3r_rules.specs.declared.draft.Draft.{Draft}
use Rattle.s3r_rules.specs.declared.draft.Filter.{Filter}
use Rattle.s3r_rules.specs.declared.draft.Destination.{Destination}
use Rattle.s3r_rules.specs.declared.rule.Rule.{Rule}
use Rattle.s3r_rules.specs.Faults.{◌>>=◌}
use Rattle.s3r_rules.specs.Rules.{is_empty, is_class, is_rule, has_id, has_priority, are_apart, is_config}
use Rattle.s3r_rules.specs.Reading.{bucket_from, class_from, rule_beside, rule_from, rules_from, config_from}

-- ---- a rule written out

unfoldable pub filter_for : Rule → Filter
filter_for rule = record { prefix = rule.prefix; tags = Some rule.tags }

unfoldable pub destination_for : Rule → Destination
destination_for rule = record { bucket = Some rule.bucket; class = rule.class }

unfoldable pub draft_for : Rule → Draft
unfolding filter_for destination_for
draft_for rule = record {
  id = Some rule.id;
  priority = Some rule.priority;
  enabled = rule.enabled;
  filter = filter_for rule;
  markers =
      rule.markers;
  destination = destination_for rule;
  replica_modifications = rule.replica_modifications;
}

-- ---- the rules in turn

pub record Facts (rule : Rule) : Type 0 where
  pub short : nat_le (length (chars rule.id)) 255 ≡ true
  pub low : nat_le rule.priority 2147483647 ≡ true
  pub begins : nat_le (length rule.prefix) 1024 ≡ true
  pub set : is_tag_set rule.tags ≡ true
  pub named : is_bucket_name rule.bucket ≡ true
  pub classed : is_class rule.class ≡ true
  pub plain : (rule.markers && not (is_empty rule.tags)) ≡ false

not_true : (b : Bool) → not b ≡ true → b ≡ false
not_true false e = refl
not_true true e = absurd (cc e)

pub facts : (rule : Rule) → is_rule rule ≡ true → Facts rule
facts rule h =
    let a = nat_le (length (chars rule.id)) 255 in
    let b = nat_le rule.priority 2147483647 in
    let c = nat_le (length rule.prefix) 1024 in
    let p6 = and_parts (a && b && c && is_tag_set rule.tags && is_bucket_name rule.bucket && is_class rule.class)
    (not (rule.markers && not (is_empty rule.tags))) h in
    let p5 = and_parts (a && b && c && is_tag_set rule.tags && is_bucket_name rule.bucket) (is_class rule.class) p6.0 in
    let p4 = and_parts (a && b && c && is_tag_set rule.tags) (is_bucket_name rule.bucket) p5.0 in
    let p3 = and_parts (a && b && c) (is_tag_set rule.tags) p4.0 in
    let p2 = and_parts (a && b) c p3.0 in
    let p1 = and_parts a b p2.0 in
    record {
      short = p1.0;
      low = p1.1;
      begins = p2.1;
      set = p3.1;
      named = p4.1;
      classed = p5.1;
      plain =
          not_true (rule.markers && not (is_empty rule.tags)) p6.1;
    }

pub class_back : (n : ℕ) (class : Option (List ℕ)) → is_class class ≡ true → class_from n class ≡ Ok class
class_back n None h = refl
class_back n (Some name) h = rw h refl

pub bucket_back : (n : ℕ) (bucket : List ℕ) → is_bucket_name bucket ≡ true → bucket_from n (Some bucket) ≡ Ok bucket
bucket_back n bucket h = rw h refl

pub beside_back : (n : ℕ) (earlier : List Rule) (rule : Rule) → Facts rule → list_any (has_id rule) earlier ≡ false
    → list_any (has_priority rule) earlier ≡ false → rule_beside n earlier rule ≡ Ok rule
beside_back n earlier rule f id priority = rw (f.plain, id, priority) refl

pub rule_back : (n : ℕ) (earlier : List Rule) (rule : Rule) → Facts rule → list_any (has_id rule) earlier ≡ false → list_any (has_priority rule) earlier ≡ false
    → rule_from n earlier (draft_for rule) ≡ Ok rule
unfolding rule_from draft_for filter_for destination_for
rule_back n earlier rule f id priority =
    rw (f.short, f.low, f.begins, f.set, bucket_back n rule.bucket f.named, class_back n rule.class f.classed) (beside_back n earlier rule f id priority)

all_has : (test : Rule → Bool) (earlier : List Rule) (rule : Rule) (rest : List Rule) → list_all test (earlier ++ rule ∷ rest) ≡ true → test rule ≡ true
all_has test [] rule rest h = (and_parts (test rule) (list_all test rest) h).0
all_has test (first ∷ earlier) rule rest h = all_has test earlier rule rest (and_parts (test first) (list_all test (earlier ++ rule ∷ rest)) h).1

-- a rule among others clashes with none before it
pub none_before : (clash : Rule → Rule → Bool) (earlier : List Rule) (rule : Rule) (rest : List Rule) → are_apart clash (earlier ++ rule ∷ rest) ≡ true
    → list_any (clash rule) earlier ≡ false
none_before clash [] rule rest h = refl
none_before clash (first ∷ earlier) rule rest h =
    let parts = and_parts (list_all (λ other. not (clash other first)) (earlier ++ rule ∷ rest)) (are_apart clash (earlier ++ rule ∷ rest)) h in
    rw (not_true (clash rule first) (all_has (λ other. not (clash other first)) earlier rule rest parts.0), none_before clash earlier rule rest parts.1) refl

rules_back : (rest earlier : List Rule) → list_all is_rule rest ≡ true → are_apart has_id (earlier ++ rest) ≡ true
    → are_apart has_priority (earlier ++ rest) ≡ true
    → rules_from earlier (map draft_for rest) ≡ Ok (earlier ++ rest)
rules_back [] earlier all ids priorities = ap Ok (sym (append-nil earlier))
rules_back (rule ∷ rest) earlier all ids priorities =
    let parts = and_parts (is_rule rule) (list_all is_rule rest) all in
    let f = facts rule parts.0 in
    let joined = append_assoc earlier (rule ∷ []) rest in
    let here = rule_back (length earlier + 1) earlier rule f (none_before has_id earlier rule rest ids)
    (none_before has_priority earlier rule rest priorities) in
    ap (λ r. r >>= λ x. rules_from (earlier ++ x ∷ []) (map draft_for rest)) here
    ∙ rules_back rest (earlier ++ rule ∷ []) parts.1 (ap (are_apart has_id) joined ∙ ids) (ap (are_apart has_priority) joined ∙ priorities)
    ∙ ap Ok joined

few : (n m : ℕ) → n ≡ m → nat_le m 1000 ≡ true → nat_lt 1000 n ≡ false
few n m e h = grind (arith, nat_tests)

count_back : (rules : List Rule) → nat_le 1 (length rules) ≡ true → nat_le (length rules) 1000 ≡ true
    → config_from (map draft_for rules) ≡ rules_from [] (map draft_for rules)
count_back [] some most = absurd (cc some)
count_back (rule ∷ rules) some most = rw (few (length (map draft_for (rule ∷ rules))) (length (rule ∷ rules)) (length-map (rule ∷ rules) draft_for) most) refl

-- a configuration that is written out is this configuration
pub config_back : (rules : List Rule) → is_config rules ≡ true → (list_all is_rule rules ≡ true) × (config_from (map draft_for rules) ≡ Ok rules)
config_back rules h =
    let n1 = nat_le 1 (length rules) in
    let n2 = nat_le (length rules) 1000 in
    let p4 = and_parts (n1 && n2 && list_all is_rule rules && are_apart has_id rules) (are_apart has_priority rules) h in
    let p3 = and_parts (n1 && n2 && list_all is_rule rules) (are_apart has_id rules) p4.0 in
    let p2 = and_parts (n1 && n2) (list_all is_rule rules) p3.0 in
    let p1 = and_parts n1 n2 p2.0 in
    (p2.1, count_back rules p1.0 p1.1 ∙ rules_back rules [] p2.1 p3.1 p4.1)
