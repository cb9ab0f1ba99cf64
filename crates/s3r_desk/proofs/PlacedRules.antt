-- A configuration's command, whose regions are those of the destinations.
use Rattle.std.proofs.Common.{◌≡◌, ℕ, zero, suc, ◌+◌, ◌≤◌, Bool, true, false, not, ◌||◌, ◌==◌, nat_le, List, [], ◌∷◌, ◌++◌, length, take, drop, get_or, Option, Some, None, bytes_eq, refl, sym, ap, ◌∙◌, add-one, arith, le-leb, leb-true, eq-eqb, ◌<◌}
use Rattle.std.specs.List.{list_all, zip}
use Rattle.std.proofs.Math.Seq.{drop-cons}
use Rattle.std.proofs.lemmas.Bool.{and_parts, and_from}
use Rattle.std.proofs.lemmas.Slice.Eq.{bytes_eq-Decides}
use Rattle.s3r_names.specs.Bucket.{is_bucket_name}
use Rattle.s3r_rules.specs.declared.rule.Rule.{Rule}
use Rattle.s3r_rules.specs.Rules.{is_rule, has_id, has_priority, are_apart, is_config}
use Rattle.s3r_record.specs.declared.command.Command.TheVariants as command
use Rattle.s3r_record.specs.Placing.{have_one_region, agree, has_texts, IsPlaced}
use Rattle.s3r_record.specs.Spelling.{IsCommand, fits_record}
use Rattle.s3r_record.proofs.Lengths.{regions_keep}
use Rattle.s3r_history.specs.Words.{Name}
use Rattle.s3r_history.specs.BucketView.{BucketView}
use Rattle.s3r_desk.specs.Steps.{BucketLocation, Views, or_location, location_from, location, region_of, regions_of}

-- a location's region is one of those that are there
pub below : (r n most : ℕ) (views : Views) (b : Name) → r + n ≤ most + 1 → region_of (location_from r n views b) ≤ most
below r zero most views b within = omega arith
below r (suc n) most views b within = go (views r b) (below (r + 1) n most views b (omega (arith, within)))
  where
    go : (o : Option BucketView) → region_of (location_from (r + 1) n views b) ≤ most → region_of (or_location r o (location_from (r + 1) n views b)) ≤ most
    go None later = later
    go (Some t) later = omega (arith, within)

module _ (at : Name → Option BucketLocation) where
  count : (rules : List Rule) → length (regions_of at rules) ≡ length rules
  count [] = refl
  count (rule ∷ rules) = ap suc (count rules)

  all_below : ((b : Name) → region_of (at b) ≤ 7) → (rules : List Rule) → list_all (λ region. nat_le region 7) (regions_of at rules) ≡ true
  all_below low [] = refl
  all_below low (rule ∷ rules) = and_from _ _ (le-leb (region_of (at rule.bucket)) 7 (low rule.bucket)) (all_below low rules)

  -- rules to one bucket have its region
  one_region : (first second : Rule) → have_one_region (first, region_of (at first.bucket)) (second, region_of (at second.bucket)) ≡ true
  one_region first second = go (bytes_eq first.bucket second.bucket) refl
    where
      go : (t : Bool) → bytes_eq first.bucket second.bucket ≡ t → (not t || region_of (at first.bucket) == region_of (at second.bucket)) ≡ true
      go true e = eq-eqb (region_of (at first.bucket)) (region_of (at second.bucket))
          (ap (λ b. region_of (at b)) ((bytes_eq-Decides first.bucket second.bucket).0 e))
      go false e = refl

  all_one : (rule : Rule) (rules : List Rule) → list_all (have_one_region (rule, region_of (at rule.bucket))) (zip rules (regions_of at rules)) ≡ true
  all_one rule [] = refl
  all_one rule (other ∷ rules) = and_from _ _ (one_region rule other) (all_one rule rules)

  all_agree : (rules : List Rule) → agree (zip rules (regions_of at rules)) ≡ true
  all_agree [] = refl
  all_agree (rule ∷ rules) = and_from _ _ (all_one rule rules) (all_agree rules)

pub config_few : (rules : List Rule) → is_config rules ≡ true → length rules ≤ 1000
config_few rules lawful =
    let some = nat_le 1 (length rules) in
    let few = nat_le (length rules) 1000 in
    let p4 = and_parts _ (are_apart has_priority rules) lawful in
    let p3 = and_parts _ (are_apart has_id rules) p4.0 in
    let p2 = and_parts _ (list_all is_rule rules) p3.0 in
    leb-true (length rules) 1000 (and_parts some few p2.0).1

pub is_command : (n : ℕ) (views : Views) (name : Name) (rules : List Rule) (regions : List ℕ) → n ≤ 8 → is_bucket_name name ≡ true → is_config rules ≡ true
    → fits_record name rules ≡ true → list_all has_texts rules ≡ true
    → regions ≡ regions_of (location n views) rules → IsCommand (command.SetReplication name rules regions)
is_command n views name rules regions few named lawful fits texts is =
    let many : length regions ≡ length rules = ap length is ∙ count (location n views) rules in
    let low = all_below (location n views) (λ b. below 0 n 7 views b (omega (arith, few))) rules in
    let placed : IsPlaced rules regions = record {
      count = many;
      regions = ap (list_all (λ region. nat_le region 7)) is ∙ low;
      agree = ap (λ rs. agree (zip rules rs)) is ∙ all_agree (location n views) rules;
    } in
    (named, lawful, placed, regions_keep name rules regions many fits, texts)

-- ---- rules in turn

pub next_is : {X : Type 0} (xs : List X) (i : ℕ) (x : X) → i < length xs → x ≡ get_or xs i x → drop i xs ≡ x ∷ drop (i + 1) xs
next_is xs i x lt is = drop-cons xs i x lt ∙ ap (λ y. y ∷ drop (suc i) xs) (sym is) ∙ ap (λ k. x ∷ drop k xs) (sym (add-one i))

-- the regions of the rules up to one, and its own
regions_to : (at : Name → Option BucketLocation) (rules : List Rule) (i : ℕ) (rule : Rule) → i < length rules → rule ≡ get_or rules i rule
    → regions_of at (take (suc i) rules) ≡ regions_of at (take i rules) ++ region_of (at rule.bucket) ∷ []
regions_to at [] i rule lt is = absurd (omega arith)
regions_to at (first ∷ rules) zero rule lt is = ap (λ (r : Rule). region_of (at r.bucket) ∷ []) (sym is)
regions_to at (first ∷ rules) (suc i) rule lt is = ap (λ rs. region_of (at first.bucket) ∷ rs) (regions_to at rules i rule (omega arith) is)

pub regions_more : (at : Name → Option BucketLocation) (rules : List Rule) (i : ℕ) (rule : Rule) → i < length rules → rule ≡ get_or rules i rule
    → regions_of at (take (i + 1) rules) ≡ regions_of at (take i rules) ++ region_of (at rule.bucket) ∷ []
regions_more at rules i rule lt is = ap (λ k. regions_of at (take k rules)) (add-one i) ∙ regions_to at rules i rule lt is
